-- `put_model` meets its contract: one answer for each check, then the row.
-- Assumes nothing.
use Rattle.std.proofs.Common.{ap, not, sym, ◌∙◌, ◌<◌, arith}
use Rattle.byte_buffer.specs.Put.{Put}
use Rattle.nameset.specs.Places.{places}
use Rattle.nameset.proofs.Count.{count_bounds}
use Rattle.model.specs.Check.{is_model}
use Rattle.model.proofs.ModelLaw.{model_law}
use Rattle.model_table.specs.Table.{model_row}
use Rattle.intake_models.proofs.Put.{stops_count, stops_parent, stops_model, stops_room, all_put}
use Rattle.intake_models.proofs.put_model.Goals as goal

pub returns-then-not-good_count : goal.returns-then-not-good_count
returns-then-not-good_count c = stops_count _ _ _ _ c.good_count.ensures (ap not c.if-not-good_count.true)

pub returns-then-names-parent : goal.returns-then-names-parent
returns-then-names-parent c = stops_parent _ _ _ _ c.good_count.ensures (ap not c.if-not-good_count.false) c.if-names-parent.true

pub returns-then-not-rows_are_model : goal.returns-then-not-rows_are_model
returns-then-not-rows_are_model c =
    stops_model _ _ _ _ c.good_count.ensures (ap not c.if-not-good_count.false) c.if-names-parent.false
    (c.rows_are_model.ensures ∙ ap (is_model places _) c.rows-rows.ensures) (ap not c.if-not-rows_are_model.true)

pub returns-then-models-at : goal.returns-then-models-at
returns-then-models-at c =
    stops_room _ _ _ _ c.good_count.ensures (ap not c.if-not-good_count.false) c.if-names-parent.false
    (c.rows_are_model.ensures ∙ ap (is_model places _) c.rows-rows.ensures) (ap not c.if-not-rows_are_model.false) c.if-models-at.true

pub overflow_mul-at : goal.overflow_mul-at
overflow_mul-at c = omega (arith, c.if-names-parent.false, count_bounds _ (sym c.good_count.ensures ∙ c.if-not-good_count.false))

pub put_row-requires : goal.put_row-requires
put_row-requires c =
    let model = (model_law places _ _).0 (sym c.rows_are_model.ensures ∙ c.if-not-rows_are_model.false) in
    (omega (arith, c.if-models-at.false), omega (arith, model.chain.few), model.chain.factors, model.chain.modes)

pub returns : goal.returns
returns c =
    all_put _ _ _ _ c.good_count.ensures (ap not c.if-not-good_count.false) c.if-names-parent.false
    (c.rows_are_model.ensures ∙ ap (is_model places _) c.rows-rows.ensures) (ap not c.if-not-rows_are_model.false) c.if-models-at.false _ _
    (rw c.rows-rows.ensures at c.put_row.ensures)

pub overflow_add-at : goal.overflow_add-at
overflow_add-at c = omega (arith, c.if-names-parent.false, count_bounds _ (sym c.good_count.ensures ∙ c.if-not-good_count.false))
