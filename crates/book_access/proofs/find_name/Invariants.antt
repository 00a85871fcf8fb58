-- Every name below `low` is below the text, and every name from `high` on is above it.
-- Assumes nothing.
use Rattle.std.proofs.Common.{◌-◌, ◌≤◌}
use Rattle.book.specs.Book.{names_in}
use Rattle.book_access.proofs.Find.{AllBelow, AllAbove}
use Rattle.book_access.proofs.find_name.Given as goal

abbrev pub invariant-loop-low : goal.invariant-loop-low
invariant-loop-low l = record {
  high : l.high ≤ l.layout.names;
  below : AllBelow (names_in l.bytes) l.text l.low;
  above : AllAbove (names_in l.bytes) l.text l.high l.layout.names;
}

abbrev pub decreases-loop-low : goal.decreases-loop-low
decreases-loop-low l = l.high - l.low
