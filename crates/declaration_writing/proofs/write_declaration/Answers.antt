-- `write_declaration` meets its contract: the book, the parent, the record, then the buffer.
-- Assumes nothing.
use Rattle.std.proofs.Common.{◌≡◌, sym, ◌∙◌, ap, not, arith, Err}
use borrow.Author.Tests.{not-true, not-false}
use Rattle.declaration_writing.proofs.Calls.{stopped_book, stopped_parent, stopped_model, writable, all_passed}
use Rattle.declaration_writing.proofs.write_declaration.Goals as goal

pub returns-in_err-layout : goal.returns-in_err-layout
returns-in_err-layout c =
    let gone : c.from_residual.result ≡ Err c.in_err-layout.field-0.0 = grind arith in
    rw gone (stopped_book _ _ _ _ _ c.in_err-layout.ensures)

pub returns-then-layout-parent : goal.returns-then-layout-parent
returns-then-layout-parent c = stopped_parent _ _ _ _ _ c.in_ok-layout.ensures c.if-layout-parent.true

pub returns-then-not-rows_are_model : goal.returns-then-not-rows_are_model
returns-then-not-rows_are_model c =
    stopped_model _ _ _ _ _ c.in_ok-layout.ensures c.if-layout-parent.false
    (rw c.rows.ensures at (sym c.rows_are_model.ensures ∙ not-true _ (ap not c.if-not-rows_are_model.true)))

pub write_model-requires : goal.write_model-requires
write_model-requires c =
    let a = c.args in
    writable _ a.parent _ a.buffer.now _ c.in_ok-layout.ensures c.if-layout-parent.false
    (rw c.rows.ensures at (sym c.rows_are_model.ensures ∙ not-false _ (ap not c.if-not-rows_are_model.false)))

pub returns : goal.returns
returns c =
    all_passed _ _ _ _ _ c.in_ok-layout.ensures c.if-layout-parent.false
    (rw c.rows.ensures at (sym c.rows_are_model.ensures ∙ not-false _ (ap not c.if-not-rows_are_model.false))) _ _ c.write_model.ensures
