-- `group_of` meets its contract.
-- Assumes nothing.
use Rattle.chain_groups.proofs.Groups.{joining_none, joining_more, joining_all}
use Rattle.chain_groups.proofs.group_of.Goals as goal

pub loop-b-init : goal.loop-b-init
loop-b-init c = joining_none _ _ _ _ (cc) c.empty-s.ensures.members

pub loop-b-preserved : goal.loop-b-preserved
loop-b-preserved c = joining_more c.loop-b.invariant c.in-Some.ensures.steps c.row_at-in-loop-b.ensures c.has.ensures c.with_if-s.ensures

pub returns : goal.returns
returns c = joining_all c.loop-b.invariant c.in-None.ensures.steps
