-- `with_any` meets its contract.
-- Assumes nothing.
use Rattle.chain_factors.proofs.Factors.{any_none, any_some, any_room}
use Rattle.chain_factors.proofs.with_any.Goals as goal

pub with_factor-requires : goal.with_factor-requires
with_factor-requires c = any_room _ _ _ c.is_empty.ensures c.if-is_empty.false c.requires

pub returns-then-is_empty : goal.returns-then-is_empty
returns-then-is_empty c = any_none _ _ _ _ c.is_empty.ensures c.if-is_empty.true

pub returns-else-is_empty : goal.returns-else-is_empty
returns-else-is_empty c = any_some _ _ _ _ _ c.is_empty.ensures c.if-is_empty.false c.with_factor.ensures
