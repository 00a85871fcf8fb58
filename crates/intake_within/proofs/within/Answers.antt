-- Past the checks two chains are compared.
-- Assumes nothing.
use Rattle.intake_within.proofs.Answers.{both_chains, answers}
use Rattle.intake_within.proofs.within.Goals as goal

pub compare_chains-requires : goal.compare_chains-requires
compare_chains-requires c =
    let b = both_chains _ _ _ c.args.word.now c.good_count.ensures c.if-not-good_count.false c.is_model.ensures c.if-not-is_model.false c.is_model-2.ensures c.if-not-is_model-2.false in
    (b.0, b.1, b.2, c.if-word-lt-LONGEST.false)

pub returns : goal.returns
returns c =
    answers _ _ _ _ c.good_count.ensures c.if-not-good_count.false c.is_model.ensures c.if-not-is_model.false c.is_model-2.ensures c.if-not-is_model-2.false
    c.if-word-lt-LONGEST.false _ _ c.compare_chains.ensures
