-- The groups of the names that are not left have been taken off.
-- Assumes nothing.
use Rattle.nameset.specs.Places.{places}
use Rattle.nameset.specs.Set.{member}
use Rattle.chain_levels.specs.Below.{count_below}
use Rattle.chain_groups.proofs.Groups.{Taken}
use Rattle.chain_groups.proofs.loop_groups.Given as goal

abbrev pub invariant-loop-left : goal.invariant-loop-left
invariant-loop-left l = Taken l.reach l.behind l.leaders l.left

abbrev pub decreases-loop-left : goal.decreases-loop-left
decreases-loop-left l = count_below places (member l.left)
