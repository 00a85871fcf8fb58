-- The bytes of the name in the book are the name's.
-- Assumes nothing.
use Rattle.declaration_factor.proofs.Steps.{name_room, name_put}
use Rattle.declaration_factor.proofs.put_name.Goals as goal

pub put_all-requires : goal.put_all-requires
put_all-requires c = name_room _ _ _ c.name_bytes.ensures _ _ c.requires.2

pub returns : goal.returns
returns c = name_put _ _ _ c.name_bytes.ensures _ _ _ _ c.put_all.ensures
