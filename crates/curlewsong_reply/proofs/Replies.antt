-- Each reply is the answer that the call in Rattle gave.
-- Assumes nothing.
use Prim.Native.Nat.{ℕ}
use mathlib.Core.Path.{◌≡◌}
use mathlib.Core.Bool.{true, false}
use Rattle.refusal.specs.declared.Refusal.{Refusal}
use Rattle.refusal.specs.declared.Acceptance.{Acceptance}
use Rattle.refusal.specs.declared.Acceptance.TheVariants.{Yes, No, Refused}
use Rattle.refusal.specs.Table.{number_of}
use Rattle.refusal.specs.Answer.{acceptance_number, acceptance_yes}
use Rattle.intake_within.specs.declared.Inclusion.{Inclusion}
use Rattle.intake_within.specs.declared.Inclusion.TheVariants as Case
use Rattle.intake_within.specs.Comparison.{inclusion_number, inclusion_yes, inclusion_length}
use Rattle.curlewsong_reply.specs.Reply.{verdict, inclusion_reply}

-- ---- a verdict for each case

pub verdict_yes : (x : Acceptance) → x ≡ Yes → record { refusal = 0; yes = true } ≡ verdict x
unfolding verdict acceptance_number acceptance_yes
verdict_yes x e = rw e

pub verdict_no : (x : Acceptance) → x ≡ No → record { refusal = 0; yes = false } ≡ verdict x
unfolding verdict acceptance_number acceptance_yes
verdict_no x e = rw e

pub verdict_refused : (x : Acceptance) (f : Refusal) (n : ℕ) → x ≡ Refused f → n ≡ number_of f → record { refusal = n; yes = false } ≡ verdict x
unfolding verdict acceptance_number acceptance_yes
verdict_refused x f n e k = rw (e, k)

-- ---- a comparison for each case

pub included_yes : (x : Inclusion) → x ≡ Case.Yes → record { refusal = 0; yes = true; length = 0 } ≡ inclusion_reply x
unfolding inclusion_reply inclusion_number inclusion_yes inclusion_length
included_yes x e = rw e

pub included_no : (x : Inclusion) (l : ℕ) → x ≡ Case.No l → record { refusal = 0; yes = false; length = l } ≡ inclusion_reply x
unfolding inclusion_reply inclusion_number inclusion_yes inclusion_length
included_no x l e = rw e

pub included_refused : (x : Inclusion) (f : Refusal) (n : ℕ) → x ≡ Case.Refused f → n ≡ number_of f → record { refusal = n; yes = false; length = 0 } ≡ inclusion_reply x
unfolding inclusion_reply inclusion_number inclusion_yes inclusion_length
included_refused x f n e k = rw (e, k)
