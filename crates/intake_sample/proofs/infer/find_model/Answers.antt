-- `find_model` meets its contract: the book with the parent's facts, the parent, its blocks.
-- Assumes nothing.
use Rattle.std.proofs.Common.{◌≡◌, ◌∙◌, sym, refl, ap, not, arith, Err}
use borrow.Author.Tests.{not-true, not-false}
use Rattle.follow_row.specs.Row.{row_size}
use Rattle.follow_row.proofs.Keeps.{row_none}
use Rattle.intake_sample.proofs.Samples.{few_taken, row_kept}
use Rattle.intake_sample.proofs.Inferring.{stopped_book, stopped_parent, stopped_none, model_made}
use Rattle.intake_sample.proofs.infer.find_model.Goals as goal

pub take_parent-requires : goal.take_parent-requires
take_parent-requires c = row_none _ row_size refl

pub returns-in_err-layout : goal.returns-in_err-layout
returns-in_err-layout c =
    let gone : c.from_residual.result ≡ Err c.in_err-layout.field-0.0 = grind arith in
    gone ∙ stopped_book _ _ _ c.in_err-layout.ensures.0

pub returns-then-layout-parent : goal.returns-then-layout-parent
returns-then-layout-parent c = stopped_parent _ _ _ c.in_ok-layout.ensures.0 c.if-layout-parent.true

pub shows_word-requires : goal.shows_word-requires
shows_word-requires c = c.in_ok-layout.ensures.1.size

pub returns-then-not-shows_word : goal.returns-then-not-shows_word
returns-then-not-shows_word c =
    let taken = c.in_ok-layout.ensures in
    stopped_none _ _ _ taken.0 c.if-layout-parent.false _ taken.1
    (sym (c.shows_word.ensures _) ∙ not-true _ (ap not c.if-not-shows_word.true))

pub row_model-model-requires : goal.row_model-model-requires
row_model-model-requires c =
    let taken = c.in_ok-layout.ensures in
    (few_taken _ _ taken.0 _ _ taken.1, row_kept _ _ taken.0 _ _ taken.1)

pub returns : goal.returns
returns c =
    let taken = c.in_ok-layout.ensures in
    model_made _ _ _ taken.0 c.if-layout-parent.false _ taken.1 _
    (sym (c.shows_word.ensures _) ∙ not-false _ (ap not c.if-not-shows_word.false)) c.row_model-model.ensures
