-- `read_tokens` meets its contract: the parent, then the model.
-- Assumes nothing.
use Rattle.std.proofs.Common.{◌∙◌}
use Rattle.declaration_rows.proofs.Steps.{in_order}
use Rattle.declaration_reading.proofs.Steps.{tokens_none, tokens_unknown, tokens_model}
use Rattle.declaration_reading.proofs.read_tokens.Goals as goal

pub returns-then-piece-ne-WORD : goal.returns-then-piece-ne-WORD
returns-then-piece-ne-WORD c = tokens_none _ _ _ _ c.piece_at-piece.ensures.0 c.if-piece-ne-WORD.true

pub part-requires : goal.part-requires
part-requires c = (in_order _ _ _ c.piece_at-piece.ensures.0, c.piece_at-piece.ensures.1)

pub returns-in-Some : goal.returns-in-Some
returns-in-Some c = c.read_model.ensures ∙ tokens_model _ _ _ _ c.piece_at-piece.ensures.0 c.if-piece-ne-WORD.false _ c.part.ensures _ c.find_name.ensures _ c.in-Some.is

pub returns-in-None : goal.returns-in-None
returns-in-None c = tokens_unknown _ _ _ _ c.piece_at-piece.ensures.0 c.if-piece-ne-WORD.false _ c.part.ensures _ c.find_name.ensures c.in-None.is
