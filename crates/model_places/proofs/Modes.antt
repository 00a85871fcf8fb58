-- The modes that each test asks for.
-- Assumes nothing.
use Prim.Native.Nat.{ℕ, zero, suc}
use mathlib.Core.Path.{◌≡◌, refl}
use mathlib.Core.Bool.{true, false}
use mathlib.Core.Logic.{◌⊎◌, inl, inr}
use Rattle.model_language.specs.Step.{optional, repeats}

pub is_optional : (f : ℕ) → (f ≡ 1) ⊎ (f ≡ 3) → true ≡ optional f
unfolding optional
is_optional f (inl e) = rw e
is_optional f (inr e) = rw e

pub not_optional : (f : ℕ) → ((f ≡ 1) ⊎ (f ≡ 3) → ⊥) → false ≡ optional f
unfolding optional
not_optional zero h = refl
not_optional (suc zero) h = absurd (h (inl refl))
not_optional (suc (suc zero)) h = refl
not_optional (suc (suc (suc zero))) h = absurd (h (inr refl))
not_optional (suc (suc (suc (suc f)))) h = refl

pub is_repeated : (f : ℕ) → (f ≡ 2) ⊎ (f ≡ 3) → true ≡ repeats f
unfolding repeats
is_repeated f (inl e) = rw e
is_repeated f (inr e) = rw e

pub not_repeated : (f : ℕ) → ((f ≡ 2) ⊎ (f ≡ 3) → ⊥) → false ≡ repeats f
unfolding repeats
not_repeated zero h = refl
not_repeated (suc zero) h = refl
not_repeated (suc (suc zero)) h = absurd (h (inl refl))
not_repeated (suc (suc (suc zero))) h = absurd (h (inr refl))
not_repeated (suc (suc (suc (suc f)))) h = refl
