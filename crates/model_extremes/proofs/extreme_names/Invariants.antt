-- After x turns the rows have the extremes among the first x names.
-- Assumes nothing.
use Rattle.model_extremes.specs.Extremes.{Lower, Higher, Best}
use Rattle.model_extremes.proofs.extreme_names.Given as goal

abbrev pub invariant-loop-x : goal.invariant-loop-x
invariant-loop-x l = record { low : Best (Lower l.fn.second) l.fn.first l.x l.low; high : Best (Higher l.fn.second) l.fn.first l.x l.high }
