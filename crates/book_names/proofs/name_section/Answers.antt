-- `name_section` meets its contract.
-- Assumes nothing.
use Rattle.std.proofs.Common.{sym, ◌∙◌, arith}
use Rattle.nameset.proofs.Count.{count_bounds}
use Rattle.book.specs.Book.{name_section}
use Rattle.book.proofs.Counts.{count_missing, count_given}
use Rattle.book_names.specs.Tables.{name_table}
use Rattle.book_names.proofs.name_section.Goals as goal

pub returns-then-bytes-lt-COUNT_SIZE : goal.returns-then-bytes-lt-COUNT_SIZE
unfolding name_table name_section
returns-then-bytes-lt-COUNT_SIZE c = rw (count_missing _ 0 c.if-bytes-lt-COUNT_SIZE.true)

pub read_names-requires : goal.read_names-requires
read_names-requires c = (omega arith, omega arith, (count_bounds _ (sym c.good_count.ensures ∙ c.if-good_count.true)).1)

pub returns-then-good_count : goal.returns-then-good_count
unfolding name_section
returns-then-good_count c =
    rw (count_given _ 0 c.if-bytes-lt-COUNT_SIZE.false, ← c.count_at-n.ensures.0, ← c.good_count.ensures, c.if-good_count.true) c.read_names.ensures

pub returns-else-good_count : goal.returns-else-good_count
unfolding name_table name_section
returns-else-good_count c =
    rw (count_given _ 0 c.if-bytes-lt-COUNT_SIZE.false, ← c.count_at-n.ensures.0, ← c.good_count.ensures, c.if-good_count.false)
