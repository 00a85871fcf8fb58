-- `put_row` meets its contract.
-- Assumes nothing.
use Rattle.model_table_row.proofs.Rows.{model_put}
use Rattle.model_table_row.proofs.put_row.Goals as goal

pub returns : goal.returns
returns c =
    model_put _ _ _ c.chain-chain.ensures c.count.ensures c.text.ensures c.factor.ensures c.mode.ensures c.put_all-modes.ensures c.put_all.ensures
