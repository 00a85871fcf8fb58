-- Before each turn the rows of the parents passed are at the front.
-- Assumes nothing.
use Rattle.byte_buffer.specs.Put.{Put}
use Rattle.model_table_rows.specs.Rows.{rows_below, table_row}
use Rattle.model_table_rows.proofs.put_rows.Given as goal

abbrev pub invariant-loop-parent : goal.invariant-loop-parent
invariant-loop-parent l = Put l.fn.models 0 (rows_below (table_row l.names l.table) l.parent) l.to l.models
