-- `row_of` meets its contract.
-- Assumes nothing.
use Rattle.std.proofs.Common.{◌∙◌, ap, length}
use Rattle.follow_table.proofs.Parts.{part_is, length_row}
use Rattle.follow_table.proofs.row_of.Goals as goal

pub returns : goal.returns
returns c =
    let a = c.args in
    let row = part_is a.table.now a.parent in
    (row, ap length row ∙ length_row a.table.now a.parent c.requires.0 c.requires.1)
