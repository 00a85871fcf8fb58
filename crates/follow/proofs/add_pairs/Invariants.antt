-- What is left of the word decides what the rows hold in the end.
-- Assumes nothing.
use Rattle.std.proofs.Common.{◌≡◌, ◌<◌}
use Rattle.nameset.specs.Places.{places}
use Rattle.nameset.specs.Rows.{IsRows}
use Rattle.follow.specs.Adding.{with_pairs}
use Rattle.follow.proofs.Words.{pairs_left}
use Rattle.follow.proofs.add_pairs.Given as goal

abbrev pub invariant-loop-next : goal.invariant-loop-next
invariant-loop-next l = record {
  small : l.a < places;
  size : IsRows places l.rows;
  left : with_pairs l.fn.rows l.word ≡ pairs_left l.rows l.a l.others l.next-index;
}
