-- `take_parent` meets its contract: the head, the blocks with their facts, the end.
-- Assumes nothing.
use Rattle.std.proofs.Common.{◌≡◌, ◌∙◌, Err, arith}
use Rattle.book_reading.proofs.Closing.{no_head, gathered_none, within, short, some, few, gathered_all, closed_book}
use Rattle.follow_row.specs.Row.{RowKeeps}
use Rattle.follow_parent.proofs.take_parent.Goals as goal

pub returns-in_err-layout : goal.returns-in_err-layout
returns-in_err-layout c =
    let gone : c.from_residual.result ≡ Err c.in_err-layout.field-0.0 = grind arith in
    let stop = c.in_err-layout.ensures in
    (gone ∙ no_head _ _ stop, gathered_none _ _ stop (RowKeeps _) _ c.requires)

pub gather_blocks-blocks-requires : goal.gather_blocks-blocks-requires
gather_blocks-blocks-requires c =
    let e = c.in_ok-layout.ensures in
    (within _ _ e, short _ _ e, some _ _ e, few _ _ e, c.requires.size)

pub returns : goal.returns
returns c =
    let e = c.in_ok-layout.ensures in (
      c.close_book.ensures ∙ closed_book _ _ e _ c.gather_blocks-blocks.ensures.end,
      gathered_all _ _ e (RowKeeps _) _ _ c.requires c.gather_blocks-blocks.ensures.gathers,
    )
