-- `read_model` meets its contract: `EMPTY`, text, factors without text.
-- Assumes nothing.
use Rattle.std.proofs.Common.{◌∙◌}
use Rattle.declaration_rows.proofs.Steps.{in_order}
use Rattle.declaration_reading.proofs.Steps.{model_empty, model_text, model_factors}
use Rattle.declaration_reading.proofs.read_model.Goals as goal

pub returns-then-piece-eq-WORD : goal.returns-then-piece-eq-WORD
returns-then-piece-eq-WORD c = model_empty _ _ _ _ _ c.piece_at-piece.ensures.0 c.if-piece-eq-WORD.true _ c.empty-model.ensures

pub is_text-requires : goal.is_text-requires
is_text-requires c = (in_order _ _ _ c.piece_at-first.ensures.0, c.piece_at-first.ensures.1)

pub returns-then-is_text : goal.returns-then-is_text
returns-then-is_text c =
    c.read_mixed.ensures
    ∙ model_text _ _ _ _ _ c.piece_at-piece.ensures.0 c.if-piece-eq-WORD.false _ c.piece_at-first.ensures.0 _ c.is_text.ensures c.if-is_text.true

pub returns : goal.returns
returns c =
    c.read_factors.ensures
    ∙ model_factors _ _ _ _ _ c.piece_at-piece.ensures.0 c.if-piece-eq-WORD.false _ c.piece_at-first.ensures.0 _ c.is_text.ensures c.if-is_text.false
