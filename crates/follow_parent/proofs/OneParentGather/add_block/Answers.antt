-- `add_block` meets its contract: a block of the parent is added, and one of another parent is not.
-- Assumes nothing.
use Rattle.follow_row.proofs.Keeps.{row_own, row_other}
use Rattle.follow_parent.proofs.OneParentGather.add_block.Goals as goal

pub returns-then-parent-self : goal.returns-then-parent-self
returns-then-parent-self c = λ bs k. row_own c.args.self.now.number bs _ c.args.row.now k c.add_to_row.new.row c.if-parent-self.true c.add_to_row.ensures

pub returns-else-parent-self : goal.returns-else-parent-self
returns-else-parent-self c = λ bs k. row_other c.args.self.now.number bs _ c.args.row.now k c.if-parent-self.false
