-- `finish` meets its contract.
-- Assumes nothing.
use Rattle.document_walk.proofs.Ends.{end_open, end_empty, end_yes, end_no}
use Rattle.document_walk.proofs.finish.Goals as goal

pub returns-then-s-ne0 : goal.returns-then-s-ne0
returns-then-s-ne0 c = end_open _ _ _ c.if-s-ne0.true

pub returns-then-not-s : goal.returns-then-not-s
returns-then-not-s c = end_empty _ _ _ c.if-s-ne0.false c.if-not-s.true

pub returns-then-s : goal.returns-then-s
returns-then-s c = end_yes _ _ _ c.if-s-ne0.false c.if-not-s.false c.if-s.true

pub returns-else-s : goal.returns-else-s
returns-else-s c = end_no _ _ _ c.if-s-ne0.false c.if-not-s.false c.if-s.false
