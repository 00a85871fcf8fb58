-- `copied` meets its contract: after the turns all rows are the same.
-- Assumes nothing.
use Rattle.std.proofs.Common.{refl, arith}
use Rattle.chain_rows.proofs.Laws.{alike_none, alike_more, alike_all}
use Rattle.chain_rows.proofs.copied.Goals as goal

pub loop-a-init : goal.loop-a-init
loop-a-init c = alike_none _ _ refl

pub loop-a-preserved : goal.loop-a-preserved
loop-a-preserved c = alike_more _ _ _ c.loop-a.invariant (omega (arith, c.loop-a-test.true))

pub returns : goal.returns
returns c = alike_all _ _ _ c.requires c.loop-a.invariant (omega (arith, c.loop-a-test.false))
