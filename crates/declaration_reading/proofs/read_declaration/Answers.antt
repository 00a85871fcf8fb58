-- `read_declaration` meets its contract: the book, the form, then names and repeats.
-- Assumes nothing.
use Rattle.std.proofs.Common.{◌≡◌, sym, ◌∙◌, ap, not, arith, Err}
use borrow.Author.Tests.{not-true, not-false}
use Rattle.book.proofs.Taken.{laid}
use Rattle.declaration_reading.proofs.Calls.{form_opens, stopped_book, stopped_form, all_read}
use Rattle.declaration_reading.proofs.read_declaration.Goals as goal

pub returns-in_err-layout : goal.returns-in_err-layout
returns-in_err-layout c =
    let gone : c.from_residual.result ≡ Err c.in_err-layout.field-0.0 = grind arith in
    gone ∙ stopped_book _ _ _ c.in_err-layout.ensures

pub returns-then-not-has_form : goal.returns-then-not-has_form
returns-then-not-has_form c = stopped_form _ _ _ c.in_ok-layout.ensures _ c.has_form.ensures (not-true _ (ap not c.if-not-has_form.true))

pub read_tokens-requires : goal.read_tokens-requires
read_tokens-requires c =
    (laid _ _ c.in_ok-layout.ensures, form_opens _ (sym c.has_form.ensures ∙ not-false _ (ap not c.if-not-has_form.false)))

pub returns : goal.returns
returns c =
    c.read_tokens.ensures ∙ all_read _ _ _ c.in_ok-layout.ensures _ c.has_form.ensures (not-false _ (ap not c.if-not-has_form.false))
