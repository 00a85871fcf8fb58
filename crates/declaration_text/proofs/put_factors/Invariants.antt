-- Of the whole text, the factors from i on are still to be put.
-- Assumes nothing.
use Rattle.std.proofs.Common.{◌-◌}
use Rattle.book.specs.Book.{names_in}
use Rattle.byte_buffer.proofs.Puts.{Left}
use Rattle.declaration_factor.specs.Parts.{factors_text}
use Rattle.declaration_text.proofs.put_factors.Given as goal

abbrev pub invariant-loop-i : goal.invariant-loop-i
invariant-loop-i l =
    Left l.fn.buffer l.at (factors_text (names_in l.bytes) l.layout.names l.m 0 l.m.count) l.buffer l.to
    (factors_text (names_in l.bytes) l.layout.names l.m l.i (l.m.count - l.i))
