-- A means: the checks of the call that puts a model into a table of models, in their order, and what the table then
-- holds. `put_refusals`, `put_kept` and `put_done` in crates/demands/proofs/Demands.antt say what that is.
-- Assumes nothing.
use Rattle.std.specs.Prelude.{ℕ, ◌+◌, ◌*◌, ◌≡◌, not, List, leb, ltb, length, ⊤, Ok, Err}
use Rattle.refusal.specs.declared.Refusal.TheVariants.{BadNameCount, BadParent, NotAModel, BufferTooShort}
use Rattle.refusal.specs.Answer.{Answer, refuse_if, value_or}
use Rattle.nameset.specs.Places.{places, good_count}
use Rattle.model.specs.declared.Model.{Model}
use Rattle.model.specs.Check.{is_model}
use Rattle.byte_buffer.specs.Put.{wrote}
use Rattle.model_table.specs.Table.{row_size, model_row}

-- 3, then 8, then 10, then 12 where the table is too short for the parent's row; else the table with the model's row
-- there.
unfoldable pub put_answer : ℕ → ℕ → Model → List ℕ → Answer (List ℕ)
put_answer n parent m table =
    refuse_if (not (good_count n)) BadNameCount
    (refuse_if (leb n parent) BadParent
    (refuse_if (not (is_model places n m)) NotAModel
    (refuse_if (ltb (length table) (parent * row_size + row_size)) BufferTooShort (Ok (wrote table (parent * row_size) (model_row m))))))

-- How a call ended that answers no value.
abbrev pub ended : {A : Type 0} → Answer A → Answer ⊤
ended (Ok a) = Ok tt
ended (Err r) = Err r

-- The whole promise of the call: its answer r, and what the table, which held `before`, then holds. A refused call
-- leaves every byte.
abbrev pub PutsModel : ℕ → ℕ → Model → Answer ⊤ → List ℕ → List ℕ → Type 0
PutsModel n parent m r before after =
    (r ≡ ended (put_answer n parent m before)) × (after ≡ value_or before (put_answer n parent m before))
