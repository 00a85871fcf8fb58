-- The rows of the lowest and of the highest names, name by name. R is the order that prefers the lower or the higher.
-- Assumes nothing.
use Prim.Native.Nat.{ℕ, ◌+◌, ◌≤◌, ◌<◌}
use mathlib.Core.Path.{◌≡◌, refl, sym, ◌∙◌, ap, subst}
use mathlib.Core.List.{List}
use mathlib.Core.Bool.{Bool, true, false, cond}
use mathlib.Core.Logic.{◌⊎◌, inl, inr}
use native.Mathlib.Omega.{arith}
use native.Mathlib.Decide.{dec_lt, ℕ_discrete}
use borrow.Author.Tests.{ltb-true, ltb-false}
use lib.Dec.{ltb}
use lib.ListN.{length, get_or, set, replicate, length-set, length-replicate, get_or-replicate}
use lib.Seq.{get_or-set_same, get_or-set_other}
use Rattle.nameset.specs.Places.{places}
use Rattle.model.specs.declared.Chain.{Chain}
use Rattle.model.specs.Record.{no_factor, factor_of, IsChain}
use Rattle.model_inclusion.specs.Spans.{Spans}
use Rattle.model_extremes.specs.declared.Extremes.{Extremes}
use Rattle.model_extremes.specs.Extremes.{no_name, Lower, Higher, Chosen, Best, AreExtremes}

module _ (R : ℕ → ℕ → Type 0) (factors : List ℕ) where
  pub best_none : Best R factors 0 (replicate places no_name)
  best_none =
      record {
        size = length-replicate {A = ℕ} places no_name;
        own = λ i l. inl (get_or-replicate {A = ℕ} places i no_name 0 l);
        some = λ y l k. absurd (omega arith);
        best = λ y l k. absurd (omega arith);
      }

  -- No factor of the row's has name k.
  pub best_kept : (k f : ℕ) (row next : List ℕ) → Best R factors k row → f ≡ get_or factors k no_factor → places ≤ f → next ≡ row → Best R factors (k + 1) next
  best_kept k f row next b e l q =
      rw q record {
        size = b.size;
        own = b.own;
        some = λ y a c. b.some y (low y a c (ℕ_discrete y k)) c;
        best = λ y a c. b.best y (low y a c (ℕ_discrete y k)) c;
      }
    where
      low : (y : ℕ) → y < k + 1 → get_or factors y no_factor < places → Dec (y ≡ k) → y < k
      low y a c (yes z) = absurd (omega (arith, ap (λ (t : ℕ). get_or factors t no_factor) z))
      low y a c (no z) = omega arith

  -- Name k is compared with the one in the row of its factor f.
  module _ (trans : (a b c : ℕ) → R a b → R b c → R a c) (k f : ℕ) (row : List ℕ) (b : Best R factors k row) (e : f ≡ get_or factors k no_factor)
      (l : f < places) (small : k < no_name) (r : ℕ) (c : Chosen R (get_or row f 0) k r) where
    room : f < length row
    room = omega (arith, b.size)

    not_none : (r ≡ k) ⊎ ((r ≡ get_or row f 0) × (get_or row f 0 ≡ no_name → ⊥)) → r ≡ no_name → ⊥
    not_none (inl q) z = omega arith
    not_none (inr (q, h)) z = h (sym q ∙ z)

    mine : (r ≡ k) ⊎ ((r ≡ get_or row f 0) × (get_or row f 0 ≡ no_name → ⊥)) → (get_or row f 0 ≡ no_name) ⊎ (get_or factors (get_or row f 0) no_factor ≡ f) → get_or factors r no_factor ≡ f
    mine (inl q) o = rw q (sym e)
    mine (inr (q, h)) (inl z) = absurd (h z)
    mine (inr (q, h)) (inr z) = rw q z

    own_at : (i : ℕ) → i < places → Dec (i ≡ f) → (get_or (set row f r) i 0 ≡ no_name) ⊎ (get_or factors (get_or (set row f r) i 0) no_factor ≡ i)
    own_at i h (yes z) = rw (z, get_or-set_same row f r 0 room) (inr (mine c.one (b.own f l)))
    own_at i h (no z) = rw (get_or-set_other row f i r 0 z) (b.own i h)

    earlier : (y : ℕ) → y < k + 1 → (get_or factors y no_factor ≡ f → ⊥) → Dec (y ≡ k) → y < k
    earlier y a d (yes z) = absurd (d (ap (λ (t : ℕ). get_or factors t no_factor) z ∙ sym e))
    earlier y a d (no z) = omega arith

    some_at : (y : ℕ) → y < k + 1 → get_or factors y no_factor < places → Dec (get_or factors y no_factor ≡ f) → get_or (set row f r) (get_or factors y no_factor) 0 ≡ no_name → ⊥
    some_at y a h (yes z) = rw (z, get_or-set_same row f r 0 room) (not_none c.one)
    some_at y a h (no z) = rw (get_or-set_other row f (get_or factors y no_factor) r 0 z) (b.some y (earlier y a z (ℕ_discrete y k)) h)

    -- r is preferred to each name of factor f so far
    prefers : (y : ℕ) → y < k + 1 → get_or factors y no_factor ≡ f → Dec (y ≡ k) → R r y
    prefers y a z (yes q) = rw q c.new
    prefers y a z (no q) =
        let h : y < k = omega arith in
        let g : get_or factors y no_factor < places = omega arith in
        trans r (get_or row f 0) y (c.old (subst (λ (t : ℕ). get_or row t 0 ≡ no_name → ⊥) z (b.some y h g))) (subst (λ (t : ℕ). R (get_or row t 0) y) z (b.best y h g))

    best_at : (y : ℕ) → y < k + 1 → get_or factors y no_factor < places → Dec (get_or factors y no_factor ≡ f) → R (get_or (set row f r) (get_or factors y no_factor) 0) y
    best_at y a h (yes z) = rw (z, get_or-set_same row f r 0 room) (prefers y a z (ℕ_discrete y k))
    best_at y a h (no z) = rw (get_or-set_other row f (get_or factors y no_factor) r 0 z) (b.best y (earlier y a z (ℕ_discrete y k)) h)

    pub best_more : Best R factors (k + 1) (set row f r)
    best_more =
        record {
          size = length-set row f r ∙ b.size;
          own = λ i h. own_at i h (ℕ_discrete i f);
          some = λ y a h. some_at y a h (ℕ_discrete (get_or factors y no_factor) f);
          best = λ y a h. best_at y a h (ℕ_discrete (get_or factors y no_factor) f);
        }

  pub best_all : (n k : ℕ) (row : List ℕ) → Best R factors k row → k ≤ n → n ≤ k → Best R factors n row
  best_all n k row b h l = let e : k ≡ n = omega arith in rw (sym e) b

-- ---- the two orders

pub lower_trans : (factors : List ℕ) (a b c : ℕ) → Lower factors a b → Lower factors b c → Lower factors a c
lower_trans factors a b c h l = omega arith

pub higher_trans : (factors : List ℕ) (a b c : ℕ) → Higher factors a b → Higher factors b c → Higher factors a c
higher_trans factors a b c h l = omega arith

-- ---- one name and the name before

-- A test chose between them, where there is one before.
chosen : (R : ℕ → ℕ → Type 0) → ((a : ℕ) → R a a) → (before x : ℕ) {r : ℕ} → (before ≡ no_name → r ≡ x)
    → ((before ≡ no_name → ⊥) → (b : Bool) × (b ≡ true → R x before) × (b ≡ false → R before x) × (r ≡ cond b x before)) → Chosen R before x r
chosen R self before x {r} none some = go (ℕ_discrete before no_name)
  where
    by : (before ≡ no_name → ⊥) → (b : Bool) → (b ≡ true → R x before) → (b ≡ false → R before x) → r ≡ cond b x before → Chosen R before x r
    by d true h k e = rw e record { one = inl refl; new = self x; old = λ q. h refl }
    by d false h k e = rw e record { one = inr (refl, d); new = k refl; old = λ q. self before }

    go : Dec (before ≡ no_name) → Chosen R before x r
    go (yes e) = rw (none e) record { one = inl refl; new = self x; old = λ d. absurd (d e) }
    go (no d) = let s = some d in by d s.0 s.1 s.2 s.3

module _ (factors : List ℕ) (before x : ℕ) {r : ℕ} (none : before ≡ no_name → r ≡ x) where
  pub chosen_low : ((before ≡ no_name → ⊥) → (b : Bool) × (b ≡ ltb (get_or factors x no_factor) (get_or factors before no_factor)) × (r ≡ cond b x before)) → Chosen (Lower factors) before x r
  chosen_low some =
      chosen (Lower factors) (λ a. omega arith) before x none
      (λ d. let s = some d in (s.0, λ q. omega (arith, ltb-true _ _ (sym s.1 ∙ q)), λ q. omega (arith, ltb-false _ _ (sym s.1 ∙ q)), s.2))

  pub chosen_high : ((before ≡ no_name → ⊥) → (b : Bool) × (b ≡ ltb (get_or factors before no_factor) (get_or factors x no_factor)) × (r ≡ cond b x before)) → Chosen (Higher factors) before x r
  chosen_high some =
      chosen (Higher factors) (λ a. omega arith) before x none
      (λ d. let s = some d in (s.0, λ q. omega (arith, ltb-true _ _ (sym s.1 ∙ q)), λ q. omega (arith, ltb-false _ _ (sym s.1 ∙ q)), s.2))

-- ---- the extremes of each factor of a chain

-- In the row of a chain: a name of each factor, preferred to each other one.
module _ (R : ℕ → ℕ → Type 0) (n : ℕ) (m : Chain) (c : IsChain places n m) (row : List ℕ) (b : Best R m.factor n row) (i : ℕ) (l : i < m.count) where
  named : (x : ℕ) × (x < n) × (factor_of m x ≡ i)
  named = c.named i l

  pub best_in : factor_of m (get_or row i 0) ≡ i
  unfolding factor_of
  best_in = go (b.own i (omega (arith, c.few)))
    where
      go : (get_or row i 0 ≡ no_name) ⊎ (get_or m.factor (get_or row i 0) no_factor ≡ i) → get_or m.factor (get_or row i 0) no_factor ≡ i
      go (inr e) = e
      go (inl e) =
          let q = c.named i l in
          absurd (b.some q.0 q.1 (omega (arith, q.2, c.few)) (rw q.2 e))

  pub best_of : (y : ℕ) → factor_of m y ≡ i → R (get_or row i 0) y
  unfolding factor_of
  best_of y e = go (dec_lt y n)
    where
      go : Dec (y < n) → R (get_or row i 0) y
      go (yes h) = subst (λ (t : ℕ). R (get_or row t 0) y) e (b.best y h (omega (arith, c.few)))
      go (no h) = absurd (omega (arith, c.others y (omega arith), c.few))

-- The names of factor i of m are, in k, from that of the low one to that of the high one.
pub extremes_law : (n : ℕ) (m k : Chain) (r : Extremes) → IsChain places n m → AreExtremes n m.factor k.factor r
    → (i : ℕ) → i < m.count → Spans m k i (get_or r.low i 0) (get_or r.high i 0)
unfolding factor_of
extremes_law n m k r c x i l =
    record {
      lo_in = best_in (Lower k.factor) n m c r.low x.lowest i l;
      hi_in = best_in (Higher k.factor) n m c r.high x.highest i l;
      least = λ y e. best_of (Lower k.factor) n m c r.low x.lowest i l y e;
      most = λ y e. best_of (Higher k.factor) n m c r.high x.highest i l y e;
    }
