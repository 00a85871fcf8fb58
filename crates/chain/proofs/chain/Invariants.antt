-- The levels below have their factors, and what is stepped to from them is known.
-- Assumes nothing.
use Rattle.nameset.specs.Places.{places}
use Rattle.nameset.specs.Set.{member}
use Rattle.chain_levels.specs.Below.{count_below}
use Rattle.follow.specs.View.{view_of, facts_with}
use Rattle.chain.proofs.Sets.{Stepped}
use Rattle.chain.proofs.Stage.{Tables, Stage}
use Rattle.chain.proofs.chain.Given as goal

abbrev pub invariant-loop-ends : goal.invariant-loop-ends
invariant-loop-ends l =
    let f = view_of l.n (facts_with l.fn.starts l.ends l.follows l.empty) in
    record {
      tables : Tables f l.reach l.loops.behind l.loops.names l.loops.leaders;
      stage : Stage f l.m l.lower l.higher;
      stepped : Stepped l.fn.starts l.follows l.lower l.stepped;
    }

abbrev pub decreases-loop-ends : goal.decreases-loop-ends
decreases-loop-ends l = count_below places (member l.higher)
