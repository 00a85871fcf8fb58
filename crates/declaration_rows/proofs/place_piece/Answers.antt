-- A word is placed, anything else changes nothing.
-- Assumes nothing.
use Rattle.declaration_rows.proofs.Steps.{free_sign, free_word}
use Rattle.declaration_rows.proofs.place_piece.Goals as goal

pub returns-then-kind-ne-WORD : goal.returns-then-kind-ne-WORD
returns-then-kind-ne-WORD c = free_sign _ _ _ _ c.if-kind-ne-WORD.true

pub returns : goal.returns
returns c = free_word _ _ _ _ _ _ c.if-kind-ne-WORD.false c.place_name.ensures
