-- A means: a run through the children of an element whose name has an entry in a table of models. `Fits` in
-- crates/document/specs/Tree.antt says what is meant, and `fits_law` in crates/document/proofs/Validity.antt joins the
-- two.
-- Assumes nothing.
use Rattle.std.specs.Prelude.{ℕ, Bool, false, eqb, Option, Some, None}
use Rattle.model.specs.declared.State.{State}
use Rattle.model.specs.Run.{move, may_end}
use Rattle.model_table.specs.Table.{Entry}

-- Where the run is after one more child x.
unfoldable pub move_in : Entry → State → ℕ → Option State
move_in None s x = None
move_in (Some m) s x = move m.chain (Some s) x

-- Whether the element may be closed there: it has a model, and its children are a word of it.
unfoldable pub may_close : Entry → State → Bool
may_close None s = false
may_close (Some m) s = may_end m.chain (Some s)

-- Whether text may be in the element.
unfoldable pub allows_text : Entry → Bool
allows_text None = false
allows_text (Some m) = eqb m.text 1
