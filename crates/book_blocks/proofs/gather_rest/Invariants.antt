use Rattle.std.proofs.Common.{◌-◌}
use Rattle.nameset.specs.Set.{empty}
use Rattle.book_blocks.proofs.Gathering.{Gathering}
use Rattle.book_blocks.proofs.gather_rest.Given as goal

abbrev pub invariant-loop : goal.invariant-loop
invariant-loop g l =
    Gathering (g.G.Gather.keeps l.what) l.bytes l.n l.m l.from empty l.initial.words (l.m - l.counter) l.at empty l.words
