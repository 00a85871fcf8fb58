-- `all_used` meets its contract.
-- Assumes nothing.
use Rattle.model_named.proofs.Used.{used_law}
use Rattle.model_named.proofs.all_used.Goals as goal

pub returns : goal.returns
returns c = used_law _ _ _ _ _ c.requires c.full.ensures.members c.minus.ensures.members c.first.ensures
