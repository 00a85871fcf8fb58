-- The names passed that reach a are gathered, those left are to come.
-- Assumes nothing.
use Rattle.chain_groups.proofs.Groups.{Joining}
use Rattle.chain_groups.proofs.group_of.Given as goal

abbrev pub invariant-loop-b : goal.invariant-loop-b
invariant-loop-b l = Joining l.reach l.a l.b-iterator.left l.s
