-- To be believed: answers as the specifications have them: a value, or the refusal that comes first.
-- `number_refused` and `number_given` in proofs/Answers.antt say what the number of an answer tells.
-- Assumes nothing.
use Rattle.std.specs.Prelude.{ℕ, ◌≡◌, Bool, true, false, Result, Ok, Err}
use Rattle.refusal.specs.declared.Refusal.{Refusal}
use Rattle.refusal.specs.declared.Acceptance.{Acceptance}
use Rattle.refusal.specs.declared.Acceptance.TheVariants.{Yes, No, Refused as Declined}
use Rattle.refusal.specs.Table.{number_of, stopped_by}

-- An answer is a `Result`, as the code has it: `Ok` with the value, or `Err` with the refusal.
abbrev pub Answer : Type 0 → Type 0
Answer A = Result A Refusal

-- One step after another: the first refusal is the answer.
abbrev pub onward : {A B : Type 0} → Answer A → (A → Answer B) → Answer B
onward (Ok a) next = next a
onward (Err r) next = Err r

-- A check: where the test holds the refusal is the answer, else the call goes on.
abbrev pub refuse_if : {A : Type 0} → Bool → Refusal → Answer A → Answer A
refuse_if true r next = Err r
refuse_if false r next = next

-- The value given, or the one due of a refused call.
abbrev pub value_or : {A : Type 0} → A → Answer A → A
value_or due (Ok a) = a
value_or due (Err r) = due

-- The number that a call answers beside its value: 0 where the value is given, else the refusal's number in the table.
abbrev pub answer_number : {A : Type 0} → Answer A → ℕ
answer_number (Ok a) = 0
answer_number (Err r) = number_of r

-- ---- a yes or no

-- The answer as the code has it.
unfoldable pub acceptance : Answer Bool → Acceptance
acceptance (Ok true) = Yes
acceptance (Ok false) = No
acceptance (Err r) = Declined r

-- The papers' number, 0 for a call that is not refused.
unfoldable pub acceptance_number : Acceptance → ℕ
acceptance_number Yes = 0
acceptance_number No = 0
acceptance_number (Declined r) = (stopped_by r).number

-- The yes or no: a refused call answers no.
unfoldable pub acceptance_yes : Acceptance → Bool
acceptance_yes Yes = true
acceptance_yes No = false
acceptance_yes (Declined r) = (stopped_by r).yes

-- The same of the definition's answer: "a yes or no due is no".
abbrev pub yes_due : Answer Bool → Bool
yes_due (Ok b) = b
yes_due (Err r) = (stopped_by r).yes

-- What a call for a yes or no promises of its answer r, for the yes, no or refusal a that it is to give.
pub record Decides (a : Answer Bool) (r : Acceptance) : Type 0 where
  pub same : r ≡ acceptance a
  pub number : acceptance_number r ≡ answer_number a
  pub yes : acceptance_yes r ≡ yes_due a
