-- `take_book` meets its contract: the head, the blocks, the end.
-- Assumes nothing.
use Rattle.std.proofs.Common.{◌≡◌, ◌∙◌, Err, arith, refl}
use Rattle.book_reading.proofs.Closing.{no_head, within, short, some, few, closed_book}
use Rattle.book_reading.proofs.take_book.Goals as goal

pub returns-in_err-layout : goal.returns-in_err-layout
returns-in_err-layout c =
    let gone : c.from_residual.result ≡ Err c.in_err-layout.field-0.0 = grind arith in
    gone ∙ no_head _ _ c.in_err-layout.ensures

pub gather_blocks-blocks-requires : goal.gather_blocks-blocks-requires
gather_blocks-blocks-requires c =
    let e = c.in_ok-layout.ensures in
    (within _ _ e, short _ _ e, some _ _ e, few _ _ e, refl)

pub returns : goal.returns
returns c = c.close_book.ensures ∙ closed_book _ _ c.in_ok-layout.ensures _ c.gather_blocks-blocks.ensures.end
