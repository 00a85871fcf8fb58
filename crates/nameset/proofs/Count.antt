-- The bounds of a good count of names, and that a set has room for every name.
-- Assumes nothing.
use Rattle.std.proofs.Common.{◌≡◌, ℕ, ◌<◌, ◌≤◌, Bool, true, false, ◌&&◌, leb, ◌↔◌, sym, refl, ◌∙◌, inl, inr, arith, le-leb, leb-true}
use mathlib.Core.Bool.{false≢true}
use native.Mathlib.Decide.{dec_lt}
use Rattle.nameset.specs.Places.{places, good_count, OutOfRange}
use Rattle.nameset.specs.Set.{capacity}

-- A set has room for a name of every place.
pub names_fit : places ≤ capacity
names_fit = omega arith

pub count_bounds : (n : ℕ) → good_count n ≡ true → (1 ≤ n) × (n ≤ places)
unfolding good_count
count_bounds n e = go (leb 1 n) (leb n places) (leb-true 1 n) (leb-true n places) e
  where
    go : (a b : Bool) → (a ≡ true → 1 ≤ n) → (b ≡ true → n ≤ places) → (a && b) ≡ true → (1 ≤ n) × (n ≤ places)
    go true true f g e = (f e, g e)
    go true false f g e = absurd (false≢true cc)
    go false b f g e = absurd (false≢true cc)

pub bounds_count : (n : ℕ) → 1 ≤ n → n ≤ places → good_count n ≡ true
unfolding good_count
bounds_count n h k = rw (le-leb 1 n h, le-leb n places k)

-- Any other count is 0 or above the number of places.
pub count_bad : (n : ℕ) → (good_count n ≡ false) ↔ OutOfRange n
count_bad n = (λ e. outside (λ a b. false≢true (sym e ∙ bounds_count n a b)), λ h. refuted (good_count n) (λ e. inside (count_bounds n e) h))
  where
    outside : (1 ≤ n → n ≤ places → ⊥) → OutOfRange n
    outside h = go (dec_lt places n) (dec_lt 0 n)
      where
        go : Dec (places < n) → Dec (0 < n) → OutOfRange n
        go (yes l) d = inr l
        go (no k) (yes l) = absurd (h l (omega arith))
        go (no k) (no l) = inl (omega arith)

    inside : (1 ≤ n) × (n ≤ places) → OutOfRange n → ⊥
    inside (a, b) (inl z) = omega arith
    inside (a, b) (inr l) = omega arith

    refuted : (b : Bool) → (b ≡ true → ⊥) → b ≡ false
    refuted true h = absurd (h refl)
    refuted false h = refl
