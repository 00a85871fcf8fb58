-- `row_model` meets its contract.
-- Assumes nothing.
use Rattle.chain_sample.proofs.Shown.{with_text_lem, without_text}
use Rattle.chain_sample.proofs.row_model.Goals as goal

pub returns-then-row-eq1 : goal.returns-then-row-eq1
returns-then-row-eq1 c = with_text_lem _ _ _ c.if-row-eq1.true c.row_mixed.ensures

pub returns-else-row-eq1 : goal.returns-else-row-eq1
returns-else-row-eq1 c = without_text _ _ _ c.if-row-eq1.false c.row_chain.ensures
