-- `is_text` meets its contract.
-- Assumes nothing.
use Rattle.declaration_reading.proofs.Steps.{text_sign, text_word}
use Rattle.declaration_reading.proofs.is_text.Goals as goal

pub returns-then-piece-ne-WORD : goal.returns-then-piece-ne-WORD
returns-then-piece-ne-WORD c = text_sign _ _ c.if-piece-ne-WORD.true

pub returns : goal.returns
returns c = text_word _ _ _ _ _ c.if-piece-ne-WORD.false c.word_kind.ensures.0
