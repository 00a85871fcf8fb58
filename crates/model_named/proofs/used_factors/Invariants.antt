-- The sets have, by their last six bits, the factors of the names passed in each half.
-- Assumes nothing.
use Rattle.std.proofs.Common.{◌+◌}
use Rattle.nameset.specs.Set.{member}
use Rattle.model_named.proofs.Naming.{Gathered}
use Rattle.model_named.proofs.used_factors.Given as goal

abbrev pub invariant-loop-x : goal.invariant-loop-x
invariant-loop-x l = Gathered l.n l.factor (λ k. k) (member l.first) l.x × Gathered l.n l.factor (λ k. k + l.half) (member l.second) l.x
