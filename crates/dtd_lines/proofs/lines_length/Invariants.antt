-- The lines are counted one after the other.
-- Assumes nothing.
use Rattle.book.specs.Book.{names_in}
use Rattle.dtd_lines.specs.Lines.{table_facts}
use Rattle.dtd_lines.proofs.Lines.{Counted}
use Rattle.dtd_lines.proofs.lines_length.Given as goal

abbrev pub invariant-loop-parent : goal.invariant-loop-parent
invariant-loop-parent l = Counted (names_in l.bytes) (table_facts l.layout.names l.table) l.layout.names l.size l.parent
