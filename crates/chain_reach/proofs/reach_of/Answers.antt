-- `reach_of` meets its contract.
-- Assumes nothing.
use Rattle.chain_reach.proofs.Closing.{gather_none, gather_fewer, gather_more, gather_all}
use Rattle.chain_reach.proofs.reach_of.Goals as goal

pub loop-closed-init : goal.loop-closed-init
loop-closed-init c = gather_none _ _ _ _ c.empty-gathered.ensures.members c.row_at-left.ensures

pub loop-closed-smaller : goal.loop-closed-smaller
loop-closed-smaller c = gather_fewer c.loop-closed.invariant c.pick-b.ensures _ _ _ c.with.ensures.members c.union-gathered.ensures.members

pub loop-closed-preserved : goal.loop-closed-preserved
loop-closed-preserved c =
    gather_more c.requires.2 c.loop-closed.invariant c.pick-b.ensures _ _ _ _ _ _ c.row_at.ensures c.with.ensures.members
    c.union-gathered.ensures.members c.row_at-in-loop-closed.ensures c.union.ensures.members c.minus-left.ensures.members

pub returns : goal.returns
returns c = gather_all c.loop-closed.invariant (c.is_empty.ensures.none c.loop-closed-test.false)
