-- `all_models` meets its contract.
-- Assumes nothing.
use Rattle.model_table_check.proofs.Laws.{models_start, models_more, models_fail, models_done}
use Rattle.model_table_check.proofs.all_models.Goals as goal

pub loop-x-init : goal.loop-x-init
loop-x-init c = models_start c.args.n c.args.table.now

pub returns-then-not-is_model_in : goal.returns-then-not-is_model_in
returns-then-not-is_model_in c = models_fail _ _ _ c.loop-x-test.true c.is_model_in.ensures c.if-not-is_model_in.true

pub loop-x-preserved : goal.loop-x-preserved
loop-x-preserved c = models_more _ _ _ c.loop-x.invariant c.is_model_in.ensures c.if-not-is_model_in.false

pub returns : goal.returns
returns c = models_done _ _ _ c.loop-x-test.false c.loop-x.invariant
