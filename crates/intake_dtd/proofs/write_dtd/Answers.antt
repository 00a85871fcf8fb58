-- `write_dtd` meets its contract: the book with the facts of all parents, the buffer, the lines.
-- Assumes nothing.
use Rattle.std.proofs.Common.{◌≡◌, ◌∙◌, sym, refl, arith, Err}
use Rattle.book.proofs.Taken.{laid}
use Rattle.follow_table.specs.Table.{table_size}
use Rattle.follow_table.proofs.Keeps.{keeps_none}
use Rattle.intake_dtd.proofs.Call.{stopped_book, of_words, stopped_short, lines_fit, all_written}
use Rattle.intake_dtd.proofs.write_dtd.Goals as goal

pub take_table-requires : goal.take_table-requires
take_table-requires c = keeps_none table_size refl

pub returns-in_err-layout : goal.returns-in_err-layout
returns-in_err-layout c =
    let gone : c.from_residual.result ≡ Err c.in_err-layout.field-0.0 = grind arith in
    rw gone (stopped_book _ _ _ c.in_err-layout.ensures.0)

pub lines_exceed-requires : goal.lines_exceed-requires
lines_exceed-requires c =
    let taken = c.in_ok-layout.ensures in
    (laid _ _ taken.0, of_words _ c.args.buffer.now _ taken.0 _ taken.1)

pub returns-then-lines_exceed : goal.returns-then-lines_exceed
returns-then-lines_exceed c =
    let taken = c.in_ok-layout.ensures in
    stopped_short _ _ _ taken.0 _ taken.1 (sym c.lines_exceed.ensures ∙ c.if-lines_exceed.true)

pub put_lines-requires : goal.put_lines-requires
put_lines-requires c =
    let taken = c.in_ok-layout.ensures in
    let buffer = c.args.buffer.now in (
      laid _ _ taken.0,
      of_words _ buffer _ taken.0 _ taken.1,
      lines_fit _ buffer _ taken.0 _ taken.1 (sym c.lines_exceed.ensures ∙ c.if-lines_exceed.false),
    )

pub returns : goal.returns
returns c =
    let taken = c.in_ok-layout.ensures in
    all_written _ _ _ taken.0 _ taken.1 (sym c.lines_exceed.ensures ∙ c.if-lines_exceed.false) _ _ c.put_lines.ensures
