-- The rest of the word leads where the whole word leads.
-- Assumes nothing.
use Rattle.std.proofs.Common.{◌≡◌, drop, Some, false}
use Rattle.model.specs.Run.{state, run}
use Rattle.model_accept.proofs.rows_accept.Given as goal

abbrev pub invariant-loop-x : goal.invariant-loop-x
invariant-loop-x l = run l.rows (Some l.state) (drop l.x-index l.word) ≡ run l.rows (Some (state 0 false)) l.word
