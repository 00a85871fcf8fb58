-- With the set put in for the names that are left, the rows are those that are wanted.
-- Assumes nothing.
use Rattle.chain_groups.proofs.Groups.{Putting}
use Rattle.chain_groups.proofs.put_each.Given as goal

abbrev pub invariant-loop-a : goal.invariant-loop-a
invariant-loop-a l = Putting l.fn.rows l.rows l.fn.group l.set l.a-iterator.left
