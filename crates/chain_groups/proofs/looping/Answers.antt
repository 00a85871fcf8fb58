-- `looping` meets its contract.
-- Assumes nothing.
use Rattle.chain_rows.proofs.Laws.{pick_more}
use Rattle.chain_groups.proofs.Groups.{own_has}
use Rattle.chain_groups.proofs.looping.Goals as goal

pub loop-a-preserved : goal.loop-a-preserved
loop-a-preserved c = pick_more c.loop-a.invariant _ _ (own_has _ _ _ _ c.row_at.ensures c.has.ensures) c.with_if-s.ensures
