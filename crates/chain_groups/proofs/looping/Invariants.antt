-- Of the names below a, those that reach themselves are gathered.
-- Assumes nothing.
use Rattle.chain_rows.specs.Rows.{in_row}
use Rattle.chain_rows.proofs.Laws.{Picked}
use Rattle.chain_groups.proofs.looping.Given as goal

abbrev pub invariant-loop-a : goal.invariant-loop-a
invariant-loop-a l = Picked l.s (λ x. in_row l.reach x x) l.a
