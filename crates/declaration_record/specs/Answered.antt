-- A means: what stands beside the number of an answer, and which refusal a repeated name gives. `read_kept` in
-- crates/demands/proofs/Demands.antt says what is due of a refused call; `factors_twice` in proofs/Steps.antt joins
-- `twice_or_unknown` to the walk. To be believed are `parent_due` and `model_due`.
-- Assumes nothing.
use Rattle.std.specs.Prelude.{ℕ, Bool, cond, Ok, Err}
use Rattle.refusal.specs.declared.Refusal.{Refusal}
use Rattle.refusal.specs.declared.Refusal.TheVariants.{UnknownName, NameTwice}
use Rattle.refusal.specs.Table.{stopped_by}
use Rattle.refusal.specs.Answer.{Answer}
use Rattle.model.specs.declared.Model.{Model}
use Rattle.model.specs.Record.{due_model}
use Rattle.declaration_spelling.specs.declared.Declared.{Declared}

-- The parent's number, "a length or parent number due is 0".
unfoldable pub parent_due : Answer Declared → ℕ
parent_due (Ok d) = d.parent
parent_due (Err r) = (stopped_by r).parent

-- The record, "a model due is the empty model".
unfoldable pub model_due : Answer Declared → Model
model_due (Ok d) = d.model
model_due (Err r) = due_model

-- Once a name came twice: 15 where every name behind it is known, else 14, which comes first.
unfoldable pub twice_or_unknown : Bool → Refusal
twice_or_unknown known = cond known NameTwice UnknownName
