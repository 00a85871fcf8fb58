-- `put_each` meets its contract.
-- Assumes nothing.
use Rattle.chain_groups.proofs.Groups.{put_none, put_more, put_all}
use Rattle.chain_groups.proofs.put_each.Goals as goal

pub loop-a-init : goal.loop-a-init
loop-a-init c = put_none _ _ _ _ c.requires (cc)

pub loop-a-preserved : goal.loop-a-preserved
loop-a-preserved c = put_more c.loop-a.invariant c.in-Some.ensures.steps c.put_row.ensures.0

pub returns : goal.returns
returns c = put_all c.loop-a.invariant c.in-None.ensures.steps
