-- `on_text` meets its contract.
-- Assumes nothing.
use Rattle.document_step.proofs.Pairs.{text_none, text_number, text_good, text_bad}
use Rattle.document_step.proofs.on_text.Goals.{then-s-eq0-via-then-s-eq0, then-s-eq0-via-else-s-eq0+then-x-ne0}
use Rattle.document_step.proofs.on_text.Goals as goal

pub returns-then-s-eq0 : goal.returns-then-s-eq0
returns-then-s-eq0 c = elim c.then-s-eq0.branch [
  | then-s-eq0-via-then-s-eq0 w ↦ text_none _ _ _ _ _ _ w.if-s-eq0.true
  | then-s-eq0-via-else-s-eq0+then-x-ne0 w ↦ text_number _ _ _ _ _ _ w.if-s-eq0.false w.if-x-ne0.true
]

pub returns-then-allows_text : goal.returns-then-allows_text
returns-then-allows_text c = text_good _ _ _ _ _ _ c.if-s-eq0.false c.if-x-ne0.false c.allows_text.ensures c.if-allows_text.true

pub returns-else-allows_text : goal.returns-else-allows_text
returns-else-allows_text c = text_bad _ _ _ _ _ _ c.if-s-eq0.false c.if-x-ne0.false c.allows_text.ensures c.if-allows_text.false
