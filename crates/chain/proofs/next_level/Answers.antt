-- `next_level` meets its contract.
-- Assumes nothing.
use Rattle.chain.proofs.Sets.{leave_none, leave_fewer, leave_more, leave_all}
use Rattle.chain.proofs.next_level.Goals as goal

pub loop-likely-init : goal.loop-likely-init
loop-likely-init c = leave_none _ _

pub loop-likely-smaller : goal.loop-likely-smaller
loop-likely-smaller c = leave_fewer _ _ c.pick-a.ensures _ _ c.minus-left.ensures.members _ c.with.ensures.members

pub loop-likely-preserved : goal.loop-likely-preserved
loop-likely-preserved c =
    leave_more _ _ c.pick-a.ensures _ _ c.minus-left.ensures.members _ c.with.ensures.members _ c.requires.1 c.row_at-row.ensures c.loop-likely.invariant _ c.minus-level.ensures.members

pub returns : goal.returns
returns c = leave_all c.loop-likely.invariant (c.is_empty.ensures.none c.loop-likely-test.false)
