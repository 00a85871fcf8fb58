-- What an answer tells of the steps that led to it.
-- Assumes nothing.
use Rattle.std.specs.Prelude.{Ok, Err}
use Prim.Native.Nat.{◌<◌}
use mathlib.Core.Path.{◌≡◌, refl, sym, ap}
use mathlib.Core.Bool.{Bool, true, false, false≢true}
use mathlib.Core.Logic.{◌↔◌, ◌⊎◌, inl, inr}
use native.Mathlib.Omega.{arith}
use Rattle.refusal.specs.declared.Refusal.{Refusal}
use Rattle.refusal.specs.Table.{number_of}
use Rattle.refusal.specs.Answer.{Answer, onward, refuse_if, answer_number}
use Rattle.refusal.proofs.Laws.{number_injective, number_positive}

-- ---- two answers

pub given_same : {A : Type 0} (a b : A) → ◌≡◌ {A = Answer A} (Ok a) (Ok b) → a ≡ b
given_same a b e = cc

pub refused_same : {A : Type 0} (q r : Refusal) → ◌≡◌ {A = Answer A} (Err q) (Err r) → q ≡ r
refused_same q r e = cc

pub given_refused : {A : Type 0} (a : A) (r : Refusal) → ◌≡◌ {A = Answer A} (Ok a) (Err r) → ⊥
given_refused a r e = false≢true cc

-- ---- one step after another

-- both steps were given
pub onward_given : {A B : Type 0} (a : Answer A) (next : A → Answer B) (b : B) → onward a next ≡ Ok b →
    (x : A) × (a ≡ Ok x) × (next x ≡ Ok b)
onward_given (Ok x) next b e = (x, refl, e)
onward_given (Err r) next b e = absurd (given_refused b r (sym e))

-- the first step was refused, or it was given and the second was refused
pub onward_refused : {A B : Type 0} (a : Answer A) (next : A → Answer B) (r : Refusal) → onward a next ≡ Err r →
    (a ≡ Err r) ⊎ ((x : A) × (a ≡ Ok x) × (next x ≡ Err r))
onward_refused {A} {B} (Ok x) next r e = inr (x, refl, e)
onward_refused {A} {B} (Err q) next r e = inl (ap Err (refused_same {A = B} q r e))

-- ---- a check before what is behind it

module _ {A : Type 0} where
  -- The answer is a refusal exactly where the check gives it, or the check is passed and what is behind it gives it.
  pub check_law : (t : Bool) (r : Refusal) (next : Answer A) (f : Refusal) → (refuse_if t r next ≡ Err f) ↔ (((t ≡ true) × (r ≡ f)) ⊎ ((t ≡ false) × (next ≡ Err f)))
  check_law true r next f = (λ e. inl (refl, refused_same {A = A} r f e), back)
    where
      back : ((true ≡ true) × (r ≡ f)) ⊎ ((true ≡ false) × (next ≡ Err f)) → ◌≡◌ {A = Answer A} (Err r) (Err f)
      back (inl h) = ap Err h.1
      back (inr h) = absurd (false≢true (sym h.0))
  check_law false r next f = (λ e. inr (refl, e), back)
    where
      back : ((false ≡ true) × (r ≡ f)) ⊎ ((false ≡ false) × (next ≡ Err f)) → next ≡ Err f
      back (inl h) = absurd (false≢true h.0)
      back (inr h) = h.1

  -- It is a value exactly where the check is passed and what is behind it gives that value.
  pub pass_law : (t : Bool) (r : Refusal) (next : Answer A) (a : A) → (refuse_if t r next ≡ Ok a) ↔ ((t ≡ false) × (next ≡ Ok a))
  pass_law true r next a = (λ e. absurd (given_refused a r (sym e)), λ h. absurd (false≢true (sym h.0)))
  pass_law false r next a = (λ e. (refl, e), λ h. h.1)

  -- the same, read forwards
  pub check_refused : (t : Bool) (q : Refusal) (next : Answer A) (r : Refusal) → refuse_if t q next ≡ Err r → ((t ≡ true) × (q ≡ r)) ⊎ ((t ≡ false) × (next ≡ Err r))
  check_refused t q next r = (check_law t q next r).0

  pub check_given : (t : Bool) (r : Refusal) (next : Answer A) (a : A) → refuse_if t r next ≡ Ok a → (t ≡ false) × (next ≡ Ok a)
  check_given t r next a = (pass_law t r next a).0

-- ---- the number beside the value

-- A number of the table is answered exactly where the call was refused for it,
pub number_refused : {A : Type 0} (a : Answer A) (r : Refusal) → (answer_number a ≡ number_of r) ↔ (a ≡ Err r)
number_refused (Ok x) r = (λ e. absurd (let p : 0 < number_of r = number_positive r in omega arith), λ e. absurd (given_refused x r e))
number_refused {A} (Err q) r = (λ e. ap Err (number_injective q r e), λ e. ap number_of (refused_same {A = A} q r e))

-- and 0 exactly where it was not refused.
pub number_given : {A : Type 0} (a : Answer A) → (answer_number a ≡ 0) ↔ ((x : A) × (a ≡ Ok x))
number_given (Ok x) = (λ e. (x, refl), λ e. refl)
number_given (Err q) = (λ e. absurd (let p : 0 < number_of q = number_positive q in omega arith), λ (x, e). absurd (given_refused x q (sym e)))

-- the same, read forwards
pub refused_by : {A : Type 0} (a : Answer A) → 0 < answer_number a → (f : Refusal) × (a ≡ Err f)
refused_by (Ok x) l = absurd (omega arith)
refused_by (Err f) l = (f, refl)

pub given_by : {A : Type 0} (a : Answer A) → answer_number a ≡ 0 → (x : A) × (a ≡ Ok x)
given_by a = (number_given a).0
