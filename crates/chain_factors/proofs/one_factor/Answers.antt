-- `one_factor` meets its contract.
-- Assumes nothing.
use Rattle.chain_factors.proofs.Sets.{factors_groups, factors_singles}
use Rattle.chain_factors.proofs.one_factor.Goals as goal

pub returns-then-is_empty : goal.returns-then-is_empty
returns-then-is_empty c = factors_groups _ _ _ _ c.is_empty.ensures c.if-is_empty.true c.just_one.ensures

pub returns-else-is_empty : goal.returns-else-is_empty
returns-else-is_empty c = factors_singles _ _ _ _ c.is_empty.ensures c.if-is_empty.false c.is_empty-else-is_empty.ensures
