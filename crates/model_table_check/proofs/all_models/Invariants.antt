-- The record of each name passed is a model.
-- Assumes nothing.
use Rattle.std.proofs.Common.{◌≡◌, true}
use Rattle.nameset.specs.Tests.{every_below}
use Rattle.model_table_check.proofs.Laws.{good}
use Rattle.model_table_check.proofs.all_models.Given as goal

abbrev pub invariant-loop-x : goal.invariant-loop-x
invariant-loop-x l = every_below l.x (good l.n l.table) ≡ true
