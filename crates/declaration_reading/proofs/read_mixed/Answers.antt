-- `read_mixed` meets its contract: names behind `#PCDATA`, none.
-- Assumes nothing.
use Rattle.std.proofs.Common.{◌∙◌}
use Rattle.declaration_reading.proofs.Steps.{mixed_names, mixed_none}
use Rattle.declaration_reading.proofs.read_mixed.Goals as goal

pub returns-then-piece-eq-BAR : goal.returns-then-piece-eq-BAR
returns-then-piece-eq-BAR c = c.read_factors.ensures ∙ mixed_names _ _ _ _ _ c.piece_at-piece.ensures.0 c.if-piece-eq-BAR.true

pub returns : goal.returns
returns c = mixed_none _ _ _ _ _ c.piece_at-piece.ensures.0 c.if-piece-eq-BAR.false _ c.empty.ensures
