-- The row's entry is read and written.
-- Assumes nothing.
use Rattle.declaration_rows.proofs.Steps.{name_placed}
use Rattle.declaration_rows.proofs.place_name.Goals as goal

pub returns : goal.returns
returns c = name_placed _ _ _ c.requires.0
