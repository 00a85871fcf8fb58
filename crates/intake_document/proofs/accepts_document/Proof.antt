-- `accepts_document` meets its contract: one answer for each check.
-- Assumes nothing.
use Rattle.std.proofs.Common.{ap, not}
use borrow.Author.Rules.{rules}
use Rattle.intake_document.proofs.Answers.{too_long, bad_count, few_names, no_model, odd, by_pairs}
use Rattle.intake_document.proofs.accepts_document.Statement.{statement}
use Rattle.intake_document.proofs.accepts_document.Tie as tie

returns : tie.Need-returns-then-document-gt-LONGEST
returns c = too_long _ _ _ c.if-document-gt-LONGEST.true

returns-2 : tie.Need-returns-then-not-good_count
returns-2 c = bad_count _ _ _ c.if-document-gt-LONGEST.false c.good_count.ensures (ap not c.if-not-good_count.true)

all-models-requires : tie.Need-all_models-requires
all-models-requires c κs =
    let a = c.args in
    few_names a.names a.models.now a.document.now c.if-document-gt-LONGEST.false c.good_count.ensures (ap not c.if-not-good_count.false)

returns-3 : tie.Need-returns-then-not-all_models
returns-3 c =
    no_model _ _ _ c.if-document-gt-LONGEST.false c.good_count.ensures (ap not c.if-not-good_count.false) c.all_models.ensures (ap not c.if-not-all_models.true)

returns-4 : tie.Need-returns-then-document-eq1
returns-4 c =
    odd _ _ _ c.if-document-gt-LONGEST.false c.good_count.ensures (ap not c.if-not-good_count.false) c.all_models.ensures (ap not c.if-not-all_models.false)
    c.if-document-eq1.true

returns-5 : tie.Need-returns
returns-5 c =
    by_pairs _ _ _ c.if-document-gt-LONGEST.false c.good_count.ensures (ap not c.if-not-good_count.false) c.all_models.ensures (ap not c.if-not-all_models.false)
    c.if-document-eq1.false c.walk_pairs.ensures

pub accepts_document_spec : {M : Type 1} → statement M
accepts_document_spec =
    tie.close
    (tie.spec returns (λ c κs. search rules) returns-2 all-models-requires returns-3 returns-4 (λ c κs. search rules)
    returns-5)
