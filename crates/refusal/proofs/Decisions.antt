-- A yes or no: when a call for it fulfils its promise, and what a yes tells.
-- Assumes nothing.
use Rattle.std.specs.Prelude.{Ok, Err}
use mathlib.Core.Path.{◌≡◌, refl}
use mathlib.Core.Bool.{Bool, true, false, false≢true}
use Rattle.refusal.specs.declared.Acceptance.TheVariants.{Yes}
use Rattle.refusal.specs.Answer.{Answer, answer_number, acceptance, acceptance_number, acceptance_yes, yes_due, Decides}

number_law : (a : Answer Bool) → acceptance_number (acceptance a) ≡ answer_number a
unfolding acceptance acceptance_number
number_law (Ok true) = refl
number_law (Ok false) = refl
number_law (Err r) = refl

yes_law : (a : Answer Bool) → acceptance_yes (acceptance a) ≡ yes_due a
unfolding acceptance acceptance_yes
yes_law (Ok true) = refl
yes_law (Ok false) = refl
yes_law (Err r) = refl

-- the promise is fulfilled by the answer that is to be given
pub decides : (a b : Answer Bool) → a ≡ b → Decides a (acceptance b)
decides a b e = rw (← e) record { same = refl; number = number_law a; yes = yes_law a }

-- a yes is the answer of a call that nothing stopped
pub yes_given : (a : Answer Bool) → acceptance a ≡ Yes → a ≡ Ok true
unfolding acceptance
yes_given (Ok true) e = refl
yes_given (Ok false) e = absurd (false≢true cc)
yes_given (Err r) e = absurd (false≢true cc)
