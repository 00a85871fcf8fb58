-- `close_book` meets its contract.
-- Assumes nothing.
use Rattle.std.proofs.Common.{◌≡◌, ◌∙◌, Err, arith, sym}
use borrow.Author.Tests.{lt-ltb, le-ltb}
use Rattle.book_reading.specs.Opening.{closing}
use Rattle.book_reading.proofs.close_book.Goals as goal

pub returns-in_err-end : goal.returns-in_err-end
unfolding closing
returns-in_err-end c =
    let gone : c.from_residual.result ≡ Err c.in_err-end.field-0.0 = grind arith in
    rw (c.in_err-end.was, gone)

pub returns-then-end-bytes : goal.returns-then-end-bytes
unfolding closing
returns-then-end-bytes c = rw (c.in_ok-end.was, lt-ltb _ _ c.if-end-bytes.true)

pub returns-then-is_empty : goal.returns-then-is_empty
unfolding closing
returns-then-is_empty c =
    rw (c.in_ok-end.was, le-ltb _ _ c.if-end-bytes.false, sym c.is_empty.ensures.same ∙ c.if-is_empty.true)

pub returns-else-is_empty : goal.returns-else-is_empty
unfolding closing
returns-else-is_empty c =
    rw (c.in_ok-end.was, le-ltb _ _ c.if-end-bytes.false, sym c.is_empty.ensures.same ∙ c.if-is_empty.false)
