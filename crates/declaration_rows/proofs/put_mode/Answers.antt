-- A mode that is not 0 is written.
-- Assumes nothing.
use Rattle.declaration_rows.proofs.Steps.{mode_put, mode_kept}
use Rattle.declaration_rows.proofs.put_mode.Goals as goal

pub returns-then-m-ne0 : goal.returns-then-m-ne0
returns-then-m-ne0 c = mode_put _ _ _ c.if-m-ne0.true

pub returns-else-m-ne0 : goal.returns-else-m-ne0
returns-else-m-ne0 c = mode_kept _ _ _ c.if-m-ne0.false
