-- Each factor passed has a name.
-- Assumes nothing.
use Rattle.std.proofs.Common.{◌≡◌, true}
use Rattle.nameset.specs.Tests.{every_below}
use Rattle.model_named.proofs.Naming.{named_from}
use Rattle.model_named.proofs.each_named.Given as goal

abbrev pub invariant-loop-i : goal.invariant-loop-i
invariant-loop-i l = every_below l.i (named_from l.n l.from l.count l.factor) ≡ true
