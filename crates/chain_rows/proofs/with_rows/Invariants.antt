-- The first i rows are joined.
-- Assumes nothing.
use Rattle.std.proofs.Common.{◌≡◌, ℕ, ◌||◌}
use Rattle.nameset.specs.Set.{member}
use Rattle.chain_rows.specs.Rows.{among_rows}
use Rattle.chain_rows.proofs.with_rows.Given as goal

abbrev pub invariant-loop-i : goal.invariant-loop-i
invariant-loop-i l = (b : ℕ) → member l.out b ≡ (member l.fn.s b || among_rows l.i l.rows b)
