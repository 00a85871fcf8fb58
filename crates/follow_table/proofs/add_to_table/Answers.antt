-- `add_to_table` meets its contract: the row is lent, and put back with the block added.
-- Assumes nothing.
use Rattle.follow_table.proofs.Parts.{part_is, length_row, block_put}
use Rattle.follow_table.proofs.add_to_table.Goals as goal

pub add_to_row-requires : goal.add_to_row-requires
add_to_row-requires c =
    let row = part_is c.args.table.now c.args.parent in
    (rw row (length_row _ _ c.requires.0 c.requires.1), c.requires.2)

pub returns : goal.returns
returns c = block_put _ _ _ _ _ c.requires.0 c.requires.1 c.add_to_row.ensures
