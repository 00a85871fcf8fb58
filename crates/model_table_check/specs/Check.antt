-- To be believed are `BadRecord` and `Models`: when 10 applies to a table of models, and when not. The rest is a means:
-- the check of a table; `bad_law` and `models_law` in proofs/Laws.antt say when it fails and when it passes.
-- Assumes nothing.
use Rattle.std.specs.Prelude.{ℕ, ◌<◌, ◌≡◌, Bool, true, List, Some, None}
use Rattle.nameset.specs.Places.{places}
use Rattle.nameset.specs.Tests.{every_below}
use Rattle.model.specs.declared.Model.{Model}
use Rattle.model.specs.Record.{IsModel}
use Rattle.model.specs.Check.{is_model}
use Rattle.model_table.specs.Table.{Entry, entry_of}

-- Some name has a record that is no model over the n names.
abbrev pub BadRecord : ℕ → List ℕ → Type 0
BadRecord n table = (x : ℕ) × (x < n) × ((m : Model) × (entry_of table x ≡ Some m) × (¬ IsModel places n m))

-- Every record that the table has for one of the n names is a model over them.
abbrev pub Models : ℕ → List ℕ → Type 0
Models n table = (x : ℕ) → x < n → (m : Model) → entry_of table x ≡ Some m → IsModel places n m

-- There is no record, or it is a model over n names.
unfoldable pub good_entry : ℕ → Entry → Bool
good_entry n None = true
good_entry n (Some m) = is_model places n m

-- The same of each of the n names.
unfoldable pub all_models : ℕ → List ℕ → Bool
all_models n table = every_below n (λ x. good_entry n (entry_of table x))
