-- The names behind those that were looked at have left the level.
-- Assumes nothing.
use Rattle.nameset.specs.Places.{places}
use Rattle.nameset.specs.Set.{member}
use Rattle.chain_levels.specs.Below.{count_below}
use Rattle.chain.proofs.Sets.{Leaving}
use Rattle.chain.proofs.next_level.Given as goal

abbrev pub invariant-loop-likely : goal.invariant-loop-likely
invariant-loop-likely l = Leaving l.behind l.fn.higher l.level l.left

abbrev pub decreases-loop-likely : goal.decreases-loop-likely
decreases-loop-likely l = count_below places (member l.left)
