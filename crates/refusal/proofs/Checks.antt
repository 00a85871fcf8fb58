-- Checks one behind the other, each with the refusal that it gives: which refusal comes, and when none does.
-- A law of what is behind a check gives the law with the check put before it, so that any number of checks compose.
-- Assumes nothing.
use Rattle.std.specs.Prelude.{Ok, Err}
use Prim.Native.Nat.{ℕ}
use mathlib.Core.Path.{◌≡◌, refl, sym, ◌∙◌, ap}
use mathlib.Core.Bool.{Bool, true, false, false≢true}
use mathlib.Core.Logic.{◌↔◌, ◌⊎◌, inl, inr, ⊎_elim}
use lib.Dec.{eqb}
use borrow.Author.Tests.{eq-eqb}
use Rattle.refusal.specs.declared.Refusal.{Refusal}
use Rattle.refusal.specs.Table.{number_of}
use Rattle.refusal.specs.Answer.{Answer, refuse_if, answer_number}
use Rattle.refusal.proofs.Answers.{given_refused, check_law, pass_law, number_refused, number_given}

-- ---- one check before others

-- two refusals with different numbers
pub other : (r f : Refusal) → eqb (number_of r) (number_of f) ≡ false → ¬ (r ≡ f)
other r f d e = false≢true (sym d ∙ eq-eqb (number_of r) (number_of f) (ap number_of e))

module _ {A : Type 0} (t : Bool) (r : Refusal) (next : Answer A) where
  -- it refuses exactly where its test holds, if nothing behind it gives its refusal
  pub own_check : {P : Type 0} → (t ≡ true) ↔ P → (next ≡ Err r → ⊥) → (refuse_if t r next ≡ Err r) ↔ P
  own_check law never =
      let h = check_law t r next r in
      (λ e. ⊎_elim (λ k. law.0 k.0) (λ k. absurd (never k.1)) (h.0 e), λ p. h.1 (inl (law.1 p, refl)))

  -- another refusal is given exactly where the check is passed and what is behind it gives it
  pub next_check : {Q C : Type 0} (f : Refusal) → ¬ (r ≡ f) → (t ≡ false) ↔ Q → (next ≡ Err f) ↔ C → (refuse_if t r next ≡ Err f) ↔ (Q × C)
  next_check f d law behind =
      let h = check_law t r next f in
      (λ e. ⊎_elim (λ k. absurd (d k.1)) (λ k. (law.0 k.0, behind.0 k.1)) (h.0 e), λ (q, c). h.1 (inr (law.1 q, behind.1 c)))

  -- a value is given exactly where the check is passed and what is behind it gives one
  pub pass_check : {Q C : Type 0} → (t ≡ false) ↔ Q → ((x : A) × (next ≡ Ok x)) ↔ C → ((x : A) × (refuse_if t r next ≡ Ok x)) ↔ (Q × C)
  pass_check law behind = (
    λ (x, e). let k = (pass_law t r next x).0 e in (law.0 k.0, behind.0 (x, k.1)),
    λ (q, c). let (x, e) = behind.1 c in (x, (pass_law t r next x).1 (law.1 q, e)),
  )

  -- no refusal but its own comes, if none comes from behind it
  pub avoids : (f : Refusal) → ¬ (r ≡ f) → (next ≡ Err f → ⊥) → refuse_if t r next ≡ Err f → ⊥
  avoids f d never e = ⊎_elim (λ k. d k.1) (λ k. never k.1) ((check_law t r next f).0 e)

  pub own_or_next : (f : Refusal) → refuse_if t r next ≡ Err f → (r ≡ f) ⊎ (next ≡ Err f)
  own_or_next f e = ⊎_elim (λ k. inl k.1) (λ k. inr k.1) ((check_law t r next f).0 e)

-- the last check, before a value
pub last_check : {A Q : Type 0} (t : Bool) (r : Refusal) (a : A) → (t ≡ false) ↔ Q → ((x : A) × (refuse_if t r (Ok a) ≡ Ok x)) ↔ Q
last_check t r a law = (λ (x, e). law.0 ((pass_law t r (Ok a) x).0 e).0, λ q. (a, (pass_law t r (Ok a) a).1 (law.1 q, refl)))

pub own : {A : Type 0} (t : Bool) (r : Refusal) (a : A) (f : Refusal) → refuse_if t r (Ok a) ≡ Err f → r ≡ f
own t r a f e = ⊎_elim (λ q. q) (λ h. absurd (given_refused a f h)) (own_or_next t r (Ok a) f e)

-- ---- the number of an answer

module _ {A : Type 0} (a : Answer A) where
  -- a number of the table is answered exactly for its refusal's condition
  pub row : {C : Type 0} (f : Refusal) → (a ≡ Err f) ↔ C → (answer_number a ≡ number_of f) ↔ C
  row f law = let h = number_refused a f in (λ e. law.0 (h.0 e), λ c. h.1 (law.1 c))

  -- 0 is answered exactly where a value is given
  pub row_0 : {C : Type 0} → ((x : A) × (a ≡ Ok x)) ↔ C → (answer_number a ≡ 0) ↔ C
  row_0 law = let h = number_given a in (λ e. law.0 (h.0 e), λ c. h.1 (law.1 c))

-- what holds of 0 and of the number of each refusal that comes holds of the number
pub number_only : {A : Type 0} (P : ℕ → Type 0) (a : Answer A) → P 0 → ((f : Refusal) → a ≡ Err f → P (number_of f)) → P (answer_number a)
number_only P (Ok x) zero_is each = zero_is
number_only P (Err f) zero_is each = each f refl
