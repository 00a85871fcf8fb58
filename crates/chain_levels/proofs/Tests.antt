-- What the tests mean.
-- Assumes nothing.
use Prim.Native.Nat.{ℕ, ◌<◌}
use mathlib.Core.Path.{◌≡◌, refl, sym, ◌∙◌}
use mathlib.Core.Bool.{Bool, true, false, ◌&&◌, ◌||◌, not, true≢false, false≢true}
use mathlib.Core.Logic.{◌⊎◌, inl, inr, ⊎_elim, ◌↔◌}
use borrow.Author.Tests.{eqb-true, eq-eqb, ltb-true, lt-ltb}
use lib.Dec.{ltb, eqb}
use Rattle.nameset.specs.Tests.{any_below}
use Rattle.nameset.proofs.Tests.{both, and_left, and_right, same_test}
-- a search finds a number exactly when there is one
pub use Rattle.nameset.proofs.Tests.{any_law as some_is}

pub and_is : (a b : Bool) → ((a && b) ≡ true) ↔ ((a ≡ true) × (b ≡ true))
and_is a b = (λ e. (and_left a b e, and_right a b e), λ p. both a b p.0 p.1)

pub or_is : (a b : Bool) → ((a || b) ≡ true) ↔ ((a ≡ true) ⊎ (b ≡ true))
or_is true b = (λ e. inl refl, λ p. refl)
or_is false b = (λ e. inr e, λ p. ⊎_elim (λ e. absurd (false≢true e)) (λ e. e) p)

pub not_is : (a : Bool) → (not a ≡ true) ↔ (a ≡ false)
not_is true = (λ e. sym e, λ e. sym e)
not_is false = (λ e. refl, λ e. refl)

pub both_ways : (a : Bool) → a ≡ true → a ≡ false → ⊥
both_ways a p q = true≢false (sym p ∙ q)

pub refuted : (a : Bool) → (a ≡ true → ⊥) → a ≡ false
refuted true f = absurd (f refl)
refuted false f = refl

pub ltb_is : (m n : ℕ) → (ltb m n ≡ true) ↔ (m < n)
ltb_is m n = (ltb-true m n, lt-ltb m n)

pub eqb_is : (m n : ℕ) → (eqb m n ≡ true) ↔ (m ≡ n)
eqb_is m n = (eqb-true m n, eq-eqb m n)

-- A search finds the same below two bounds past which nothing passes.
pub some_within : (m n : ℕ) (f g : ℕ → Bool) → ((x : ℕ) → f x ≡ true → (x < n) × (g x ≡ true)) → ((x : ℕ) → g x ≡ true → (x < m) × (f x ≡ true)) → any_below m f ≡ any_below n g
some_within m n f g p q =
    same_test (any_below m f) (any_below n g) (λ e. let r = (some_is m f).0 e in (some_is n g).1 (r.0, (p r.0 r.2).0, (p r.0 r.2).1))
    (λ e. let r = (some_is n g).0 e in (some_is m f).1 (r.0, (q r.0 r.2).0, (q r.0 r.2).1))
