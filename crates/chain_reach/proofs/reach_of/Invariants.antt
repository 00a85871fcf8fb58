-- The names gathered are reached, and what follows one of them is gathered or left.
-- Assumes nothing.
use Rattle.std.proofs.Common.{not}
use Rattle.nameset.specs.Places.{places}
use Rattle.nameset.specs.Set.{member}
use Rattle.chain_levels.specs.Below.{count_below}
use Rattle.chain_reach.proofs.Closing.{Gathered}
use Rattle.chain_reach.proofs.reach_of.Given as goal

abbrev pub invariant-loop-closed : goal.invariant-loop-closed
invariant-loop-closed l = Gathered l.follows l.a l.gathered l.left

abbrev pub decreases-loop-closed : goal.decreases-loop-closed
decreases-loop-closed l = count_below places (λ x. not (member l.gathered x))
