-- The factors, one after the other: what the rows hold then, and when nothing stands in the way.
-- Assumes nothing.
use Prim.Native.Nat.{ℕ, zero, suc, ◌+◌, ◌≤◌, ◌<◌}
use mathlib.Core.Path.{◌≡◌, refl, sym, ◌∙◌, ap, subst}
use mathlib.Core.Bool.{cond}
use mathlib.Core.List.{List, [], ◌∷◌}
use mathlib.Core.Option.{some}
use native.Mathlib.Omega.{arith}
use native.Mathlib.Nat.{add-zero}
use lib.Dec.{eqb}
use lib.ListN.{length, get_or, length-set}
use lib.Seq.{get_or-set_same, get_or-set_other}
use borrow.Author.Tests.{eq-eqb, ne_eqb}
use Rattle.model.specs.Record.{no_factor}
use Rattle.declaration_spelling.specs.House.{Factor}
use Rattle.declaration_spelling.specs.Spelled.{times}
use Rattle.declaration_spelling.proofs.Record.{total, place_from, mode_at}
use Rattle.declaration_spelling.proofs.Tests.{some_injective}
use Rattle.declaration_spelling.proofs.Names.{Below, AllBelow}
use Rattle.declaration_walk.specs.Gather.{Rows, next_factor, with_mode, and_then}
use Rattle.declaration_walk.proofs.Rows.{place_names, place_factor, place_others, then_some, then_join, row, moved, next_told, next_free, NamesFilled, names_placed, names_place}

abbrev pub mark : List ℕ → ℕ → ℕ
mark mode k = get_or mode k 0

-- ---- the rows once these factors, from factor i on, are filled

pub record Filled (i : ℕ) (fs : List (Factor ℕ)) (factor mode : List ℕ) (h : Rows) : Type 0 where
  pub count : suc h.index ≡ i + length fs
  pub places : length h.factor ≡ length factor
  pub modes : length h.mode ≡ length mode
  pub once : (y : ℕ) → total y fs ≤ 1
  pub fresh : (y : ℕ) → 0 < total y fs → row factor y ≡ no_factor
  pub held : (y : ℕ) → 0 < total y fs → row h.factor y ≡ place_from i fs y
  pub kept : (y : ℕ) → total y fs ≡ 0 → row h.factor y ≡ row factor y
  pub marks : (k : ℕ) → mark h.mode (i + k) ≡ mode_at fs k
  pub before : (k : ℕ) → k < i → mark h.mode k ≡ mark mode k

filled_nil : (g : Rows) → ((k : ℕ) → suc g.index ≤ k → mark g.mode k ≡ 0) → Filled (suc g.index) [] g.factor g.mode g
unfolding total mode_at
filled_nil g z = record {
  count = omega arith;
  places = refl;
  modes = refl;
  once = λ y. omega arith;
  fresh = λ y h. absurd (omega arith);
  held = λ y h. absurd (omega arith);
  kept = λ y h. refl;
  marks = λ k. z (suc g.index + k) (omega arith);
  before = λ k h. refl;
}

-- a mode set at factor i
mode_here : (m : ℕ) (g : Rows) → g.index < length g.mode → mark g.mode g.index ≡ 0 → mark (with_mode m g).mode g.index ≡ m
unfolding with_mode
mode_here zero g l z = z
mode_here (suc m) g l z = get_or-set_same g.mode g.index (suc m) 0 l

mode_there : (m : ℕ) (g : Rows) (k : ℕ) → (k ≡ g.index → ⊥) → mark (with_mode m g).mode k ≡ mark g.mode k
unfolding with_mode
mode_there zero g k d = refl
mode_there (suc m) g k d = get_or-set_other g.mode g.index k (suc m) 0 d

mode_long : (m : ℕ) (g : Rows) → length (with_mode m g).mode ≡ length g.mode
unfolding with_mode
mode_long zero g = refl
mode_long (suc m) g = length-set g.mode g.index (suc m)

mode_index : (m : ℕ) (g : Rows) → (with_mode m g).index ≡ g.index
unfolding with_mode
mode_index zero g = refl
mode_index (suc m) g = refl

mode_factor : (m : ℕ) (g : Rows) → (with_mode m g).factor ≡ g.factor
unfolding with_mode
mode_factor zero g = refl
mode_factor (suc m) g = refl

-- one factor more before them
module _ (i : ℕ) (f : Factor ℕ) (fs : List (Factor ℕ)) (g h k : Rows) (at : g.index ≡ i) (small : i < no_factor) (inside : i < length g.mode)
    (zeros : (j : ℕ) → i ≤ j → mark g.mode j ≡ 0) (P : NamesFilled f.names g h) (F : Filled (suc i) fs (with_mode f.mode h).factor (with_mode f.mode h).mode k) where
  same : (y : ℕ) → row (with_mode f.mode h).factor y ≡ row h.factor y
  same y = ap (λ (l : List ℕ). row l y) (mode_factor f.mode h)

  -- a name of this factor stands in no later one
  no_later : (y : ℕ) → 0 < times y f.names → total y fs ≡ 0
  no_later y l = go (total y fs) refl
    where
      go : (t : ℕ) → total y fs ≡ t → t ≡ 0
      go zero e = refl
      go (suc t) e = absurd (omega (arith, at, same y, P.held y l, F.fresh y (omega arith)))

  by_times : (y : ℕ) (A : Type 0) → (times y f.names ≡ 0 → A) → (0 < times y f.names → A) → A
  by_times y A a b = go (times y f.names) refl
    where
      go : (t : ℕ) → times y f.names ≡ t → A
      go zero e = a e
      go (suc t) e = b (omega arith)

  sum_once : (y : ℕ) → times y f.names + total y fs ≤ 1
  sum_once y = by_times y (times y f.names + total y fs ≤ 1) (λ z. omega (arith, z, F.once y)) (λ l. omega (arith, P.once y, no_later y l))

  sum_fresh : (y : ℕ) → 0 < times y f.names + total y fs → row g.factor y ≡ no_factor
  sum_fresh y p = by_times y (row g.factor y ≡ no_factor) (λ z. sym (P.kept y z) ∙ sym (same y) ∙ F.fresh y (omega arith)) (λ l. P.fresh y l)

  sum_held : (y : ℕ) → 0 < times y f.names + total y fs → row k.factor y ≡ cond (eqb (times y f.names) 0) (place_from (suc i) fs y) i
  sum_held y p =
      by_times y (row k.factor y ≡ cond (eqb (times y f.names) 0) (place_from (suc i) fs y) i)
      (λ z. rw (eq-eqb (times y f.names) 0 z) (F.held y (omega arith)))
      (λ l. rw (ne_eqb (times y f.names) 0 (λ e. omega arith)) (F.kept y (no_later y l) ∙ same y ∙ P.held y l ∙ at))

  sum_kept : (y : ℕ) → times y f.names + total y fs ≡ 0 → row k.factor y ≡ row g.factor y
  sum_kept y e = F.kept y (omega arith) ∙ same y ∙ P.kept y (omega arith)

  index_is : h.index ≡ i
  index_is = P.index ∙ at

  mark_first : mark k.mode i ≡ f.mode
  mark_first =
      let z : mark h.mode h.index ≡ 0 = ap (λ (j : ℕ). mark h.mode j) index_is ∙ ap (λ (l : List ℕ). mark l i) P.mode ∙ zeros i (omega arith) in
      let l : length h.mode ≡ length g.mode = ap length P.mode in
      F.before i (omega arith) ∙ ap (λ (j : ℕ). mark (with_mode f.mode h).mode j) (sym index_is) ∙ mode_here f.mode h (omega (arith, index_is)) z

  marks_all : (j : ℕ) → mark k.mode (i + j) ≡ mode_at (f ∷ fs) j
  unfolding mode_at
  marks_all zero = ap (λ (j : ℕ). mark k.mode j) (add-zero i) ∙ mark_first
  marks_all (suc j) = let e : i + suc j ≡ suc i + j = omega arith in ap (λ (j : ℕ). mark k.mode j) e ∙ F.marks j

  marks_before : (j : ℕ) → j < i → mark k.mode j ≡ mark g.mode j
  marks_before j l = F.before j (omega arith) ∙ mode_there f.mode h j (λ e. omega (arith, index_is)) ∙ ap (λ (l : List ℕ). mark l j) P.mode

  pub filled_more : Filled i (f ∷ fs) g.factor g.mode k
  unfolding total place_from
  filled_more = record {
    count = omega (arith, F.count);
    places = F.places ∙ ap length (mode_factor f.mode h) ∙ P.size;
    modes = F.modes ∙ mode_long f.mode h ∙ ap length P.mode;
    once = sum_once;
    fresh = sum_fresh;
    held = sum_held;
    kept = sum_kept;
    marks = marks_all;
    before = marks_before;
  }

-- what is left of zeros behind factor i
zeros_on : (i : ℕ) (f : Factor ℕ) (g h : Rows) → g.index ≡ i → NamesFilled f.names g h → ((j : ℕ) → i ≤ j → mark g.mode j ≡ 0) → (j : ℕ) → suc i ≤ j → mark (with_mode f.mode h).mode j ≡ 0
zeros_on i f g h e P z j l = mode_there f.mode h j (λ q. omega (arith, P.index)) ∙ ap (λ (l : List ℕ). mark l j) P.mode ∙ z j (omega arith)

module _ (size n : ℕ) (fits : size ≤ 255) (few : n ≤ size) where
  -- the rows have a place for each name and each factor
  abbrev Wide : Rows → Type 0
  Wide g = (length g.factor ≡ size) × (length g.mode ≡ size)

  wide_on : (f : Factor ℕ) (g h : Rows) → Wide g → NamesFilled f.names g h → Wide (with_mode f.mode h)
  wide_on f g h (a, b) P = (ap length (mode_factor f.mode h) ∙ P.size ∙ a, mode_long f.mode h ∙ ap length P.mode ∙ b)

  factor_told : (f : Factor ℕ) (g k : Rows) → g.index < size → Wide g → Below n f.names → place_factor f g ≡ some k →
      (h : Rows) × NamesFilled f.names g h × (with_mode f.mode h ≡ k)
  unfolding place_factor
  factor_told f g k l w b e =
      let t = then_some (place_names f.names g) (λ h. some (with_mode f.mode h)) k e in
      (t.0, names_placed n f.names g t.0 (omega arith) (omega (arith, w.0)) b t.1, some_injective t.2)

  -- factors that are filled
  others_filled : (fs : List (Factor ℕ)) (g k : Rows) → g.index < size → Wide g → AllBelow n fs → ((j : ℕ) → suc g.index ≤ j → mark g.mode j ≡ 0) → place_others size fs g ≡ some k →
      Filled (suc g.index) fs g.factor g.mode k
  unfolding place_others
  others_filled [] g k l w b z e = subst (Filled (suc g.index) [] g.factor g.mode) (some_injective e) (filled_nil g z)
  others_filled (f ∷ fs) g k l w b z e = at_next (then_some (next_factor size g) (λ h. and_then (place_factor f h) (place_others size fs)) k e) (λ h. others_filled fs h k)
    where
      at_factor : suc g.index < size → ((h : Rows) × (place_factor f (moved g) ≡ some h) × (place_others size fs h ≡ some k))
          → ((h : Rows) → h.index < size → Wide h → AllBelow n fs → ((j : ℕ) → suc h.index ≤ j → mark h.mode j ≡ 0) → place_others size fs h ≡ some k → Filled (suc h.index) fs h.factor h.mode k)
          → Filled (suc g.index) (f ∷ fs) g.factor g.mode k
      at_factor r (h, p, q) ih = told (factor_told f (moved g) h r w b.0 p)
        where
          told : ((m : Rows) × NamesFilled f.names (moved g) m × (with_mode f.mode m ≡ h)) → Filled (suc g.index) (f ∷ fs) g.factor g.mode k
          told (m, P, s) =
              let x : (with_mode f.mode m).index ≡ suc g.index = mode_index f.mode m ∙ P.index in
              let v = zeros_on (suc g.index) f (moved g) m refl P z in
              let F = ih (with_mode f.mode m) (omega arith) (wide_on f (moved g) m w P) b.1 (λ j y. v j (omega arith)) (ap (place_others size fs) s ∙ q) in
              filled_more (suc g.index) f fs (moved g) m k refl (omega arith) (omega (arith, w.1)) z P
              (subst (λ (i : ℕ). Filled (suc i) fs (with_mode f.mode m).factor (with_mode f.mode m).mode k) x F)

      at_next : ((h : Rows) × (next_factor size g ≡ some h) × (and_then (place_factor f h) (place_others size fs) ≡ some k))
          → ((h : Rows) → h.index < size → Wide h → AllBelow n fs → ((j : ℕ) → suc h.index ≤ j → mark h.mode j ≡ 0) → place_others size fs h ≡ some k → Filled (suc h.index) fs h.factor h.mode k)
          → Filled (suc g.index) (f ∷ fs) g.factor g.mode k
      at_next (h, p, q) ih =
          let t = next_told size g h p in
          at_factor t.0 (then_some (place_factor f (moved g)) (place_others size fs) k (ap (λ (x : Rows). and_then (place_factor f x) (place_others size fs)) t.1 ∙ q)) ih

  pub all_filled : (f : Factor ℕ) (fs : List (Factor ℕ)) (g k : Rows) → g.index ≡ 0 → 0 < size → Wide g → AllBelow n (f ∷ fs) → ((j : ℕ) → mark g.mode j ≡ 0) →
      and_then (place_factor f g) (place_others size fs) ≡ some k → Filled 0 (f ∷ fs) g.factor g.mode k
  all_filled f fs g k o s w b z e = at_factor (then_some (place_factor f g) (place_others size fs) k e)
    where
      told : (h : Rows) → place_others size fs h ≡ some k → ((m : Rows) × NamesFilled f.names g m × (with_mode f.mode m ≡ h)) → Filled 0 (f ∷ fs) g.factor g.mode k
      told h q (m, P, r) =
          let x : (with_mode f.mode m).index ≡ 0 = mode_index f.mode m ∙ P.index ∙ o in
          let v = zeros_on 0 f g m o P (λ j y. z j) in
          let F = others_filled fs (with_mode f.mode m) k (omega arith) (wide_on f g m w P) b.1 (λ j y. v j (omega arith)) (ap (place_others size fs) r ∙ q) in
          filled_more 0 f fs g m k o (omega arith) (omega (arith, w.1)) (λ j y. z j) P
          (subst (λ (i : ℕ). Filled (suc i) fs (with_mode f.mode m).factor (with_mode f.mode m).mode k) x F)

      at_factor : ((h : Rows) × (place_factor f g ≡ some h) × (place_others size fs h ≡ some k)) → Filled 0 (f ∷ fs) g.factor g.mode k
      at_factor (h, p, q) = told h q (factor_told f g h (omega arith) w b.0 p)

  -- ---- nothing stands in the way

  factor_place : (f : Factor ℕ) (g : Rows) → Wide g → Below n f.names → ((y : ℕ) → times y f.names ≤ 1) → ((y : ℕ) → 0 < times y f.names → row g.factor y ≡ no_factor) →
      (h : Rows) × (place_names f.names g ≡ some h) × (place_factor f g ≡ some (with_mode f.mode h))
  unfolding place_factor
  factor_place f g w b o r =
      let t = names_place n f.names g (omega (arith, w.0)) b o r in
      (t.0, t.1, then_join (place_names f.names g) (λ h. some (with_mode f.mode h)) t.0 (with_mode f.mode t.0) t.1 refl)

  abbrev OthersPlace : List (Factor ℕ) → Type 0
  OthersPlace fs = (g : Rows) → g.index + length fs < size → Wide g → AllBelow n fs → ((y : ℕ) → total y fs ≤ 1) → ((y : ℕ) → 0 < total y fs → row g.factor y ≡ no_factor) →
      (k : Rows) × (place_others size fs g ≡ some k)

  -- a factor, and then those behind it
  more_place : (f : Factor ℕ) (fs : List (Factor ℕ)) → OthersPlace fs → (g : Rows) → g.index + length fs < size → Wide g → AllBelow n (f ∷ fs) → ((y : ℕ) → total y (f ∷ fs) ≤ 1) →
      ((y : ℕ) → 0 < total y (f ∷ fs) → row g.factor y ≡ no_factor) → (k : Rows) × (and_then (place_factor f g) (place_others size fs) ≡ some k)
  unfolding total
  more_place f fs others g l w b o r = go (factor_place f g w b.0 (λ y. omega (arith, o y)) (λ y p. r y (omega arith)))
    where
      go : ((h : Rows) × (place_names f.names g ≡ some h) × (place_factor f g ≡ some (with_mode f.mode h))) → (k : Rows) × (and_then (place_factor f g) (place_others size fs) ≡ some k)
      go (h, p, q) =
          let P = names_placed n f.names g h (omega arith) (omega (arith, w.0)) b.0 p in
          let x : (with_mode f.mode h).index ≡ g.index = mode_index f.mode h ∙ P.index in
          let free : (y : ℕ) → 0 < total y fs → row (with_mode f.mode h).factor y ≡ no_factor
          = λ y t. ap (λ (l : List ℕ). row l y) (mode_factor f.mode h) ∙ P.kept y (omega (arith, o y)) ∙ r y (omega arith) in
          let t = others (with_mode f.mode h) (omega arith) (wide_on f g h w P) b.1 (λ y. omega (arith, o y)) free in
          (t.0, then_join (place_factor f g) (place_others size fs) (with_mode f.mode h) t.0 q t.1)

  others_place : (fs : List (Factor ℕ)) → OthersPlace fs
  unfolding place_others
  others_place [] g l w b o r = (g, refl)
  others_place (f ∷ fs) g l w b o r =
      let t = more_place f fs (others_place fs) (moved g) (omega arith) w b o r in
      (t.0, then_join (next_factor size g) (λ h. and_then (place_factor f h) (place_others size fs)) (moved g) t.0 (next_free size g (omega arith)) t.1)

  pub all_place : (f : Factor ℕ) (fs : List (Factor ℕ)) (g : Rows) → g.index + length fs < size → Wide g → AllBelow n (f ∷ fs) → ((y : ℕ) → total y (f ∷ fs) ≤ 1) →
      ((y : ℕ) → 0 < total y (f ∷ fs) → row g.factor y ≡ no_factor) → (k : Rows) × (and_then (place_factor f g) (place_others size fs) ≡ some k)
  all_place f fs = more_place f fs (others_place fs)
