-- The row of the farthest places, filled from the last factor to the first.
-- Assumes nothing.
use Prim.Native.Nat.{ℕ, zero, suc, ◌+◌, ◌-◌, ◌≤◌, ◌<◌}
use mathlib.Core.Path.{◌≡◌, refl, sym, ◌∙◌, ap}
use mathlib.Core.Bool.{Bool, true, false, cond}
use mathlib.Core.List.{List}
use native.Mathlib.Omega.{arith}
use native.Mathlib.Decide.{ℕ_discrete}
use native.Mathlib.Numerals.{add-one}
use borrow.Author.Tests.{le-leb, lt-leb}
use lib.Dec.{leb}
use lib.ListN.{length, get_or, set, length-set}
use lib.Seq.{get_or-set_same, get_or-set_other}
use Rattle.nameset.specs.Places.{places}
use Rattle.model.specs.declared.Chain.{Chain}
use Rattle.model_language.specs.Word.{Point}
use Rattle.model_language.specs.Step.{optional, repeats, place}
use Rattle.model_places.specs.Places.{nearest, far_from, farthest, FarRow, has_step}

-- ---- one place

far_last : (count : ℕ) (modes : List ℕ) → farthest count modes count ≡ count + 1
unfolding farthest far_from
far_last count modes = let e : count - count ≡ 0 = omega arith in rw (e, add-one)

far_next : (count : ℕ) (modes : List ℕ) (p : ℕ) → p < count → farthest count modes p ≡ cond (optional (get_or modes p 0)) (farthest count modes (p + 1)) (p + 1)
unfolding farthest far_from
far_next count modes p l =
    let e : count - p ≡ suc (count - suc p) = omega arith in
    rw (e, add-one)

-- ---- the row

-- It is filled from place p on, and `far` is what it has there.
pub record Filled (count : ℕ) (modes row : List ℕ) (p far : ℕ) : Type 0 where
  pub low : p ≤ count
  pub few : count ≤ places
  pub size : length row ≡ suc places
  pub now_far : far ≡ farthest count modes p
  pub filled : (q : ℕ) → p ≤ q → q ≤ count → get_or row q 0 ≡ farthest count modes q

pub fill_start : (count : ℕ) (modes row : List ℕ) → count ≤ places → length row ≡ suc places
    → Filled count modes (set row count (count + 1)) count (count + 1)
fill_start count modes row l e =
    record {
      low = omega arith;
      few = l;
      size = length-set row count (count + 1) ∙ e;
      now_far = sym (far_last count modes);
      filled = λ q a b.
          let z : q ≡ count = omega arith in
          let h : count < length row = omega arith in
          rw (z, get_or-set_same row count (count + 1) 0 h) (sym (far_last count modes));
    }

pub fill_more : (count : ℕ) (modes row : List ℕ) (p far q : ℕ) {mode v : ℕ} → Filled count modes row p far → 0 < p → q ≡ p - 1 → mode ≡ get_or modes q 0
    → v ≡ cond (optional mode) far (q + 1) → Filled count modes (set row q v) q v
fill_more count modes row p far q {mode} {v} f h e g k =
    record {
      low = omega (arith, f.low);
      few = f.few;
      size = length-set row q v ∙ f.size;
      now_far = now_far;
      filled = λ r a b. at r a b (ℕ_discrete r q);
    }
  where
    next : q + 1 ≡ p
    next = omega arith

    now_far : v ≡ farthest count modes q
    now_far = k ∙ rw (g, f.now_far, ← next) (sym (far_next count modes q (omega (arith, f.low))))

    at : (r : ℕ) → q ≤ r → r ≤ count → Dec (r ≡ q) → get_or (set row q v) r 0 ≡ farthest count modes r
    at r a b (yes z) = let t : q < length row = omega (arith, f.size, f.low, f.few) in rw (z, get_or-set_same row q v 0 t) now_far
    at r a b (no z) = rw (get_or-set_other row q r v 0 z) (f.filled r (omega arith) b)

pub fill_done : (count : ℕ) (modes row : List ℕ) (p far : ℕ) → Filled count modes row p far → p ≤ 0 → FarRow count modes row
fill_done count modes row p far f h = record { size = f.size; far = λ q l. f.filled q (omega arith) l }

-- ---- the nearest place

pub near_start : (modes : List ℕ) (p : ℕ) → p ≡ 0 → 1 ≡ nearest modes p
unfolding nearest
near_start modes p e = rw e

pub near_loop : (modes : List ℕ) (p : ℕ) {b : Bool} → (p ≡ 0 → ⊥) → b ≡ repeats (get_or modes (p - 1) 0) → b ≡ true → p ≡ nearest modes p
unfolding nearest
near_loop modes zero h e t = absurd (h refl)
near_loop modes (suc i) h e t =
    let z : suc i - 1 ≡ i = omega arith in
    let q : repeats (get_or modes i 0) ≡ true = ap (λ (j : ℕ). repeats (get_or modes j 0)) (sym z) ∙ sym e ∙ t in
    rw q

pub near_next : (modes : List ℕ) (p : ℕ) {b : Bool} → (p ≡ 0 → ⊥) → b ≡ repeats (get_or modes (p - 1) 0) → b ≡ false → p + 1 ≡ nearest modes p
unfolding nearest
near_next modes zero h e t = absurd (h refl)
near_next modes (suc i) h e t =
    let z : suc i - 1 ≡ i = omega arith in
    let q : repeats (get_or modes i 0) ≡ false = ap (λ (j : ℕ). repeats (get_or modes j 0)) (sym z) ∙ sym e ∙ t in
    rw (q, add-one)

-- ---- the test of a step

module _ (m : Chain) (u v : Point) {a b : ℕ} (e : a ≡ place m u) (f : b ≡ place m v) where
  pub left_end : m.count < a → false ≡ has_step m u v
  unfolding has_step
  left_end l = rw (← e, lt-leb a m.count l)

  module _ (l : a ≤ m.count) {near : ℕ} (n : near ≡ nearest m.mode a) where
    pub too_near : b < near → false ≡ has_step m u v
    unfolding has_step
    too_near h = rw (← e, ← f, ← n, le-leb a m.count l, lt-leb near b h)

    pub near_enough : near ≤ b → {row : List ℕ} {far : ℕ} → FarRow m.count m.mode row → far ≡ get_or row a 0 → leb b far ≡ has_step m u v
    unfolding has_step
    near_enough h {row} {far} r q = rw (← e, ← f, ← n, le-leb a m.count l, le-leb near b h, q, r.far a l)
