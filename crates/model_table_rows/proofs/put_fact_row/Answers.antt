-- `put_fact_row` meets its contract: the row for no model, or that of the model.
-- Assumes nothing.
use Rattle.std.proofs.Common.{rules, sym, ◌∙◌, arith}
use Rattle.dtd_lines.specs.Lines.{row_facts}
use Rattle.dtd_lines.proofs.Line.{shown_model}
use Rattle.model_table_rows.proofs.Rows.{none_put, some_put}
use Rattle.model_table_rows.proofs.put_fact_row.Goals as goal

pub returns-then-not-shows_word : goal.returns-then-not-shows_word
unfolding row_facts
returns-then-not-shows_word c = none_put _ _ (sym (c.shows_word.ensures _) ∙ c.if-not-shows_word.true) _ _ _ _ c.put_empty_row.ensures

pub put_row-requires : goal.put_row-requires
unfolding row_facts
put_row-requires c =
    let model =
    shown_model _ c.requires.0 _ c.requires.1 (sym (c.shows_word.ensures _) ∙ c.if-not-shows_word.false) _ (c.rows.ensures ∙ c.row_model-m.ensures) in
    (c.requires.2, omega (arith, model.chain.few), model.chain.factors, model.chain.modes)

pub returns : goal.returns
unfolding row_facts
returns c =
    some_put _ _ (sym (c.shows_word.ensures _) ∙ c.if-not-shows_word.false) _ (c.rows.ensures ∙ c.row_model-m.ensures) _ _ _ _ c.put_row.ensures
