-- `with_groups` meets its contract.
-- Assumes nothing.
use Rattle.chain_factors.proofs.Factors.{append_none, append_room, append_more, append_all, holds_group}
use Rattle.chain_factors.proofs.with_groups.Goals as goal

pub loop-k-init : goal.loop-k-init
loop-k-init c = append_none _ _ _ _ _ (cc)

pub with_factor-out-requires : goal.with_factor-out-requires
with_factor-out-requires c = append_room c.loop-k.invariant c.in-Some.ensures.steps c.requires.0

pub loop-k-preserved : goal.loop-k-preserved
loop-k-preserved c =
    append_more c.loop-k.invariant c.in-Some.ensures.steps _ (holds_group _ _ _ _ _ _ _ c.group.ensures c.with_factor-out.ensures)

pub returns : goal.returns
returns c = append_all c.loop-k.invariant c.in-None.ensures.steps
