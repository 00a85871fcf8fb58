-- `or_empty` meets its contract.
-- Assumes nothing.
use Rattle.follow.proofs.Words.{empty_is}
use Rattle.follow.proofs.or_empty.Goals as goal

pub returns-else-empty : goal.returns-else-empty
returns-else-empty c = empty_is _ _ _ c.if-empty.false c.is_empty.ensures
