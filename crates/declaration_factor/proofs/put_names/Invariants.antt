-- Of the whole text, the names of the set that is left are still to be put.
-- Assumes nothing.
use Rattle.book.specs.Book.{names_in}
use Rattle.byte_buffer.proofs.Puts.{Left}
use Rattle.declaration_factor.specs.Parts.{MembersBelow, set_text}
use Rattle.declaration_factor.proofs.put_names.Given as goal

abbrev pub invariant-loop-x : goal.invariant-loop-x
invariant-loop-x l = record {
  put : Left l.fn.buffer l.at (set_text (names_in l.bytes) l.layout.names l.fn.names l.many l.some) l.buffer l.to
      (set_text (names_in l.bytes) l.layout.names l.x-iterator.left l.many l.later);
  below : MembersBelow l.layout.names l.x-iterator.left;
}
