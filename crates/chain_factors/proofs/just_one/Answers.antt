-- `just_one` meets its contract.
-- Assumes nothing.
use Rattle.std.proofs.Common.{rules, ◌∙◌, ap, not}
use Rattle.chain_factors.proofs.Sets.{one_none, one_some}
use Rattle.chain_factors.proofs.just_one.Goals as goal

pub returns-then-not-is_empty : goal.returns-then-not-is_empty
returns-then-not-is_empty c =
    one_some _ _ _ _ (search rules) c.is_empty.ensures c.if-not-is_empty.true c.rest.ensures c.is_empty-then-not-is_empty.ensures

pub returns-else-not-is_empty : goal.returns-else-not-is_empty
returns-else-not-is_empty c = ap not c.if-not-is_empty.false ∙ one_none _ _ c.is_empty.ensures c.if-not-is_empty.false
