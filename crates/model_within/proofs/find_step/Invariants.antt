-- The factors before i are passed.
-- Assumes nothing.
use Rattle.model_inclusion.proofs.Pass.{Passed}
use Rattle.model_places.specs.Places.{point}
use Rattle.model_within.specs.Pass.{spot_at}
use Rattle.model_within.proofs.find_step.Given as goal

abbrev pub invariant-loop-i : goal.invariant-loop-i
invariant-loop-i l = Passed l.fn.first l.fn.second l.i (point (spot_at l.frontier.low)) (point (spot_at l.frontier.high))
