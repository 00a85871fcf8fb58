-- `rows_accept_word` meets its contract: one answer for each way through the checks.
-- Assumes nothing.
use Rattle.std.proofs.Common.{sym, ◌∙◌}
use Rattle.nameset.proofs.Count.{count_bounds}
use Rattle.intake_word.proofs.Answers.{stops_count, stops_model, stops_word, answers_yes, answers_no}
use Rattle.intake_word.proofs.rows_accept_word.Goals as goal

pub returns-then-not-good_count : goal.returns-then-not-good_count
returns-then-not-good_count c = stops_count _ _ _ c.good_count.ensures c.if-not-good_count.true

pub returns-then-not-rows_are_model : goal.returns-then-not-rows_are_model
returns-then-not-rows_are_model c =
    stops_model _ _ _ c.good_count.ensures c.if-not-good_count.false c.rows_are_model.ensures c.if-not-rows_are_model.true

pub returns-then-bad_word : goal.returns-then-bad_word
returns-then-bad_word c =
    stops_word _ _ _ c.good_count.ensures c.if-not-good_count.false c.rows_are_model.ensures c.if-not-rows_are_model.false c.bad_word.ensures c.if-bad_word.true

pub bad_word-requires : goal.bad_word-requires
bad_word-requires c = (count_bounds _ (sym c.good_count.ensures ∙ c.if-not-good_count.false)).0

pub returns-then-rows_accept : goal.returns-then-rows_accept
returns-then-rows_accept c =
    answers_yes _ _ _ c.good_count.ensures c.if-not-good_count.false c.rows_are_model.ensures c.if-not-rows_are_model.false c.bad_word.ensures c.if-bad_word.false
    c.chain.ensures c.rows_accept.ensures c.if-rows_accept.true

pub returns-else-rows_accept : goal.returns-else-rows_accept
returns-else-rows_accept c =
    answers_no _ _ _ c.good_count.ensures c.if-not-good_count.false c.rows_are_model.ensures c.if-not-rows_are_model.false c.bad_word.ensures c.if-bad_word.false
    c.chain.ensures c.rows_accept.ensures c.if-rows_accept.false
