-- `row_of` meets its contract.
-- Assumes nothing.
use Rattle.std.proofs.Common.{refl}
use Rattle.model_table.proofs.Rows.{row_there, row_short}
use Rattle.model_table.proofs.row_of.Goals as goal

pub returns-then-to-table : goal.returns-then-to-table
returns-then-to-table c = row_there c.args.table.now c.args.name refl refl c.if-to-table.true

pub returns-else-to-table : goal.returns-else-to-table
returns-else-to-table c = row_short c.args.table.now c.args.name refl c.if-to-table.false
