-- Whether the run goes there stays the same from factor to factor.
-- Assumes nothing.
use Rattle.std.proofs.Common.{◌≡◌}
use Rattle.model.specs.Run.{state, goes_to}
use Rattle.model_step.proofs.goes_to.Given as goal

abbrev pub invariant-loop-factor : goal.invariant-loop-factor
invariant-loop-factor l =
    goes_to l.rows.count l.rows.mode l.own l.through (state l.factor l.taken) ≡ goes_to l.rows.count l.rows.mode l.own l.through l.fn.from
