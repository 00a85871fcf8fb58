-- `top` is at most `count` where the numbers passed are in such a factor or in none.
-- Assumes nothing.
use Rattle.std.proofs.Common.{◌≡◌}
use lib.Dec.{leb}
use Rattle.nameset.specs.Tests.{every_below}
use Rattle.model_rows.proofs.Factors.{among}
use Rattle.model_rows.proofs.all_among.Given as goal

abbrev pub invariant-loop-x : goal.invariant-loop-x
invariant-loop-x l = leb l.top l.count ≡ every_below l.x (among l.count l.factor l.from)
