-- The row is filled from place p on.
-- Assumes nothing.
use Rattle.model_places.proofs.Rows.{Filled}
use Rattle.model_places.proofs.far_row.Given as goal

abbrev pub invariant-loop-p : goal.invariant-loop-p
invariant-loop-p l = Filled l.count l.modes l.row l.p l.far
