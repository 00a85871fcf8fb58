-- After x turns each row has those of the first x names that its factor holds.
-- Assumes nothing.
use Rattle.model_factors.specs.Names.{RowsOf}
use Rattle.model_factors.proofs.factor_rows.Given as goal

abbrev pub invariant-loop-x : goal.invariant-loop-x
invariant-loop-x l = RowsOf l.m l.x l.rows
