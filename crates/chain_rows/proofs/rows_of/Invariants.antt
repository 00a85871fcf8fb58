-- The rows of the names passed are joined, those of the names left are to come.
-- Assumes nothing.
use Rattle.chain_rows.proofs.Laws.{Joined}
use Rattle.chain_rows.proofs.rows_of.Given as goal

abbrev pub invariant-loop-a : goal.invariant-loop-a
invariant-loop-a l = Joined l.rows l.fn.set l.a-iterator.left l.s
