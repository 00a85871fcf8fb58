-- A means: the checks of the call that compares two models, in the order of request U4 of paper 02, its answer, and
-- what the buffer then holds. The theorems in crates/demands/proofs/Demands.antt whose names begin with `within_` say
-- what that is.
-- To be believed are `inclusion_number`, `inclusion_yes`, `inclusion_length` and `PassesBoth`.
-- Assumes nothing.
use Rattle.std.specs.Prelude.{ℕ, ◌≤◌, ◌<◌, ◌≡◌, Bool, true, false, not, List, ltb, length, Ok, Err}
use Rattle.refusal.specs.declared.Refusal.TheVariants.{BadNameCount, NotAModel, BufferTooShort}
use Rattle.refusal.specs.Table.{stopped_by}
use Rattle.refusal.specs.Answer.{Answer, refuse_if}
use Rattle.nameset.specs.Places.{places, good_count}
use Rattle.byte_buffer.specs.Put.{wrote}
use Rattle.model.specs.declared.Chain.{Chain}
use Rattle.model.specs.declared.Model.{Model}
use Rattle.model.specs.Record.{IsModel}
use Rattle.model.specs.Check.{is_model}
use Rattle.model_inclusion.specs.Inclusion.{Counterexample, longest_counterexample}
use Rattle.model_inclusion.specs.Search.{within}
use Rattle.intake_within.specs.declared.Inclusion.{Inclusion}
use Rattle.intake_within.specs.declared.Inclusion.TheVariants.{Yes, No, Refused}

-- "3, then 10 for the first record, then 10 for the second, then 12 if the buffer has fewer than 65 places, even when
-- the answer is yes"; else whether every word of the first is one of the second. The buffer has `room` places. "U4
-- compares words of child names only" (U5): text is looked at by the check of the records alone.
unfoldable pub comparison_of : ℕ → Model → Model → ℕ → Answer Bool
comparison_of n first second room =
    refuse_if (not (good_count n)) BadNameCount
    (refuse_if (not (is_model places n first)) NotAModel
    (refuse_if (not (is_model places n second)) NotAModel
    (refuse_if (ltb room longest_counterexample) BufferTooShort (Ok (within n first.chain second.chain)))))

-- The number in paper 01's table, 0 for a call that is not refused.
unfoldable pub inclusion_number : Inclusion → ℕ
inclusion_number Yes = 0
inclusion_number (No l) = 0
inclusion_number (Refused f) = (stopped_by f).number

-- The yes or no: a refused call answers no.
unfoldable pub inclusion_yes : Inclusion → Bool
inclusion_yes Yes = true
inclusion_yes (No l) = false
inclusion_yes (Refused f) = (stopped_by f).yes

-- The length of the word: "on yes the length is 0", and a refused call answers 0.
unfoldable pub inclusion_length : Inclusion → ℕ
inclusion_length Yes = 0
inclusion_length (No l) = l
inclusion_length (Refused f) = (stopped_by f).length

-- Nothing stops the call.
pub record PassesBoth (n : ℕ) (first second : Model) (room : ℕ) : Type 0 where
  pub some : 0 < n
  pub few : n ≤ places
  pub first_model : IsModel places n first
  pub second_model : IsModel places n second
  pub enough : longest_counterexample ≤ room

-- A counterexample of l names was written to the front of the buffer: any one, "which word is free".
pub record WordWritten (first second : Chain) (l : ℕ) (before after : List ℕ) : Type 0 where
  pub word : List ℕ
  pub example : Counterexample first second word
  pub short : length word ≤ longest_counterexample
  pub size : l ≡ length word
  pub buffer : after ≡ wrote before 0 word

-- The answer as the code has it, and what the buffer holds, which held `before`. Only on no is it changed.
abbrev pub Leaves : Chain → Chain → Answer Bool → Inclusion → List ℕ → List ℕ → Type 0
Leaves first second (Ok true) r before after = (r ≡ Yes) × (after ≡ before)
Leaves first second (Ok false) r before after = (l : ℕ) × (r ≡ No l) × WordWritten first second l before after
Leaves first second (Err f) r before after = (r ≡ Refused f) × (after ≡ before)

-- The whole promise of the call, of its answer r.
pub record ComparesModels (n : ℕ) (first second : Model) (r : Inclusion) (before after : List ℕ) : Type 0 where
  pub leaves : Leaves first.chain second.chain (comparison_of n first second (length before)) r before after
