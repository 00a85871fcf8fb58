-- `each_named` meets its contract.
-- Assumes nothing.
use Rattle.model_named.proofs.Naming.{each_start, each_more, each_lacks, each_done}
use Rattle.model_named.proofs.each_named.Goals as goal

pub loop-i-init : goal.loop-i-init
loop-i-init c = each_start _ _ c.args.count _

pub returns-then-not-holds_name : goal.returns-then-not-holds_name
returns-then-not-holds_name c = each_lacks _ _ _ _ _ c.loop-i.auto.i c.loop-i-test.true c.holds_name.ensures c.if-not-holds_name.true

pub loop-i-preserved : goal.loop-i-preserved
loop-i-preserved c = each_more _ _ c.args.count _ _ c.loop-i.invariant c.holds_name.ensures c.if-not-holds_name.false

pub returns : goal.returns
returns c = each_done _ _ _ _ _ c.loop-i-test.false c.loop-i.invariant
