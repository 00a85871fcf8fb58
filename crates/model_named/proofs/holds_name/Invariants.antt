-- Whether the factor holds one of the names passed.
-- Assumes nothing.
use Rattle.std.proofs.Common.{◌≡◌}
use Rattle.nameset.specs.Tests.{any_below}
use Rattle.model_named.proofs.Naming.{holds}
use Rattle.model_named.proofs.holds_name.Given as goal

abbrev pub invariant-loop-x : goal.invariant-loop-x
invariant-loop-x l = l.found ≡ any_below l.x (holds l.factor l.v)
