-- `Chain::with_factor` meets its contract.
-- Assumes nothing.
use Rattle.std.proofs.Common.{rules, refl}
use Rattle.model.proofs.Building.{enter_none, enter_more, enter_all, built}
use Rattle.model.proofs.Chain.with_factor.Goals as goal

pub loop-x-init : goal.loop-x-init
loop-x-init c = rw (c.into_iter-x-iterator.ensures.into_iter_gives, c.names-x-items.ensures) (enter_none _ _ _ (search rules))

pub loop-x-preserved : goal.loop-x-preserved
loop-x-preserved c = enter_more c.loop-x.invariant c.in-Some.ensures.steps

pub returns : goal.returns
returns c = built _ _ _ _ _ refl (enter_all c.loop-x.invariant c.in-None.ensures.steps)
