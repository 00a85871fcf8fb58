-- `reach_rows` meets its contract.
-- Assumes nothing.
use Rattle.std.proofs.Common.{arith}
use Rattle.nameset.specs.Rows.{no_rows}
use Rattle.chain_reach.proofs.Closing.{close_none, close_more, reached_all}
use Rattle.chain_reach.proofs.reach_rows.Goals as goal

pub loop-i-init : goal.loop-i-init
unfolding no_rows
loop-i-init c = close_none _ _ _

pub loop-i-preserved : goal.loop-i-preserved
loop-i-preserved c =
    close_more c.loop-i.invariant _ (omega arith) c.in_turn-a.ensures.0 _ c.reach_of-row.ensures _ c.put_row.ensures.0

pub returns : goal.returns
returns c = reached_all c.loop-i.invariant (omega arith)
