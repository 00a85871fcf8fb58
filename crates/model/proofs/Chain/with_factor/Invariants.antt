-- The names that came have the new factor, and the others keep their entries.
-- Assumes nothing.
use Rattle.model.proofs.Building.{Entered}
use Rattle.model.proofs.Chain.with_factor.Given as goal

abbrev pub invariant-loop-x : goal.invariant-loop-x
invariant-loop-x l = Entered l.fn.names l.x-iterator.left l.own l.fn.self.factor l.factor
