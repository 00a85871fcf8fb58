-- `add_block` meets its contract: the block's text byte and word are added to the row of its parent.
-- Assumes nothing.
use Rattle.follow_table.proofs.Keeps.{keeps_more}
use Rattle.follow_table.proofs.EachParentGather.add_block.Goals as goal

pub returns : goal.returns
returns c = λ bs k. keeps_more bs _ c.args.table.now c.add_to_table.new.table k c.add_to_table.ensures
