-- The first i names in turn are closed.
-- Assumes nothing.
use Rattle.chain_reach.proofs.Closing.{Closing}
use Rattle.chain_reach.proofs.reach_rows.Given as goal

abbrev pub invariant-loop-i : goal.invariant-loop-i
invariant-loop-i l = Closing l.follows l.rows l.down l.n l.i
