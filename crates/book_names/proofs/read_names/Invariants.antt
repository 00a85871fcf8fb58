-- The names read so far stand in the table, and what is left to read decides the rest of the answer.
-- Assumes nothing.
use Rattle.std.proofs.Common.{◌≡◌, ◌≤◌, ◌-◌, [], length, take, drop}
use Rattle.book.specs.Field.{count_size}
use Rattle.book.specs.Book.{names_of}
use Rattle.book_names.specs.Tables.{name_table}
use Rattle.book_names.proofs.Reading.{onwards}
use Rattle.book_names.proofs.read_names.Given as goal

abbrev pub invariant-loop-i : goal.invariant-loop-i
invariant-loop-i l =
    record {
      rising : l.from ≤ l.at;
      within : l.at ≤ length l.bytes;
      left : name_table (names_of l.n [] (drop count_size l.bytes)) ≡ onwards l.offsets l.i l.at (names_of (l.n - l.i) (take (l.at - l.from) (drop l.from l.bytes)) (drop l.at l.bytes));
    }
