-- The check of a record passes exactly the models.
-- Assumes nothing.
use Prim.Native.Nat.{ℕ, zero, suc}
use mathlib.Core.Path.{◌≡◌, refl}
use mathlib.Core.Bool.{Bool, true, false, false≢true, ◌&&◌, ◌||◌}
use mathlib.Core.Logic.{◌↔◌, ◌⊎◌, inl, inr}
use native.Mathlib.Omega.{arith}
use lib.Dec.{eqb}
use borrow.Author.Tests.{eqb-true, eq-eqb}
use Rattle.model.specs.declared.Model.{Model}
use Rattle.model.specs.Record.{mode_of, IsChain, MayHaveText, IsModel, empty_model}
use Rattle.model.specs.Check.{is_chain, may_have_text, text_fits, is_model}
use Rattle.model.proofs.ChainLaw.{chain_law}
use Rattle.model.proofs.Empty.{empty_chain_lem}

module _ (count mode : ℕ) where
  abbrev Allowed : Type 0
  Allowed = (count ≡ 0) ⊎ ((count ≡ 1) × (mode ≡ 3))

  allowed_law : (may_have_text count mode ≡ true) ↔ Allowed
  unfolding may_have_text
  allowed_law = (to (eqb count 0) (eqb count 1) (eqb-true count 0) (eqb-true count 1), from)
    where
      to : (a b : Bool) → (a ≡ true → count ≡ 0) → (b ≡ true → count ≡ 1) → (a || (b && eqb mode 3)) ≡ true → Allowed
      to true b p q e = inl (p refl)
      to false true p q e = inr (q refl, eqb-true mode 3 e)
      to false false p q e = absurd (false≢true e)

      from : Allowed → (eqb count 0 || (eqb count 1 && eqb mode 3)) ≡ true
      from (inl e) = rw (eq-eqb count 0 e)
      from (inr (e, s)) = rw (e, eq-eqb mode 3 s)

  -- a text byte fits where it is 0, or 1 with a chain that may have text
  fits_law : (t : ℕ) → (text_fits t count mode ≡ true) ↔ ((t ≡ 0) ⊎ ((t ≡ 1) × Allowed))
  unfolding text_fits
  fits_law zero = (λ e. inl refl, λ h. refl)
  fits_law (suc zero) = (λ e. inr (refl, allowed_law.0 e), one)
    where
      one : (suc zero ≡ zero) ⊎ ((suc zero ≡ suc zero) × Allowed) → may_have_text count mode ≡ true
      one (inl e) = absurd (omega arith)
      one (inr (e, a)) = allowed_law.1 a
  fits_law (suc (suc t)) = (λ e. absurd (false≢true e), more)
    where
      more : (suc (suc t) ≡ zero) ⊎ ((suc (suc t) ≡ suc zero) × Allowed) → false ≡ true
      more (inl e) = absurd (omega arith)
      more (inr (e, a)) = absurd (omega arith)

pub model_law : (size n : ℕ) (m : Model) → (is_model size n m ≡ true) ↔ IsModel size n m
unfolding is_model
model_law size n m = (to (is_chain size n m.chain) (chain_law size n m.chain).0, from)
  where
    fits : (text_fits m.text m.chain.count (mode_of m.chain 0) ≡ true) ↔ ((m.text ≡ 0) ⊎ ((m.text ≡ 1) × MayHaveText m.chain))
    fits = fits_law m.chain.count (mode_of m.chain 0) m.text

    to : (b : Bool) → (b ≡ true → IsChain size n m.chain) → (b && text_fits m.text m.chain.count (mode_of m.chain 0)) ≡ true → IsModel size n m
    to true chain e = record { chain = chain refl; text = fits.0 e }
    to false chain e = absurd (false≢true e)

    from : IsModel size n m → (is_chain size n m.chain && text_fits m.text m.chain.count (mode_of m.chain 0)) ≡ true
    from h = rw ((chain_law size n m.chain).1 h.chain, fits.1 h.text)

-- The empty model is one over any names.
pub empty_model_lem : (size n : ℕ) → IsModel size n (empty_model size)
unfolding empty_model
empty_model_lem size n = record { chain = empty_chain_lem size n; text = inl refl }
