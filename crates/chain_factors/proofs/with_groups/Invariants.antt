-- The leaders that are not left have their factor.
-- Assumes nothing.
use Rattle.chain_groups.specs.Groups.{holds_in}
use Rattle.chain_factors.proofs.Factors.{Appended}
use Rattle.chain_factors.proofs.with_groups.Given as goal

abbrev pub invariant-loop-k : goal.invariant-loop-k
invariant-loop-k l = Appended l.fn.leaders l.k-iterator.left (holds_in l.reach l.behind) l.mode l.fn.m l.out
