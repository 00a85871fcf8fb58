use Rattle.std.proofs.Common.{◌-◌}
use Rattle.nameset.specs.Set.{below}
use Rattle.book_blocks.proofs.Gathering.{Gathering}
use Rattle.book_blocks.proofs.gather_blocks.Given as goal

abbrev pub invariant-loop-done : goal.invariant-loop-done
invariant-loop-done g l =
    Gathering (g.G.Gather.keeps l.what) l.bytes l.n l.m l.from (below l.n) l.initial.words (l.m - l.done) l.at l.unused l.words
