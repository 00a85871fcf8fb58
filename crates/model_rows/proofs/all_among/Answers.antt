-- `model_rows::all_among` meets its contract.
-- Assumes nothing.
use Rattle.model_rows.proofs.Factors.{among_done}
use Rattle.model_rows.proofs.all_among.Goals as goal

pub returns : goal.returns
returns c = among_done _ _ _ _ _ c.loop-x-test.false c.loop-x.invariant
