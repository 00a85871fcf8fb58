-- Of all lines, those from a parent on are still to be put.
-- Assumes nothing.
use Rattle.std.proofs.Common.{◌-◌}
use Rattle.book.specs.Book.{names_in}
use Rattle.byte_buffer.proofs.Puts.{Left}
use Rattle.dtd_lines.specs.Lines.{fact_lines, table_facts}
use Rattle.dtd_lines.proofs.put_lines.Given as goal

abbrev pub invariant-loop-parent : goal.invariant-loop-parent
invariant-loop-parent l =
    Left l.fn.out 0 (fact_lines (names_in l.bytes) (table_facts l.layout.names l.table) 0 l.layout.names) l.out l.to
    (fact_lines (names_in l.bytes) (table_facts l.layout.names l.table) l.parent (l.layout.names - l.parent))
