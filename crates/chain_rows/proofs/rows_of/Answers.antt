-- `rows_of` meets its contract, by the laws of rows joined.
-- Assumes nothing.
use Rattle.chain_rows.proofs.Laws.{join_more, join_all}
use Rattle.chain_rows.proofs.rows_of.Goals as goal

pub loop-a-preserved : goal.loop-a-preserved
loop-a-preserved c = join_more c.loop-a.invariant c.in-Some.ensures.steps c.row_at.ensures c.union-s.ensures.members

pub returns : goal.returns
returns c = join_all c.loop-a.invariant c.in-None.ensures.steps
