-- Before each turn the rows before a are those of the rows to be copied.
-- Assumes nothing.
use Rattle.chain_rows.proofs.Laws.{Alike}
use Rattle.chain_rows.proofs.copied.Given as goal

abbrev pub invariant-loop-a : goal.invariant-loop-a
invariant-loop-a l = Alike l.rows l.out l.a
