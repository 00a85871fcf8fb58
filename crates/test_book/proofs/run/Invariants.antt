-- Each turn begins further on in the stream.
-- Assumes nothing.
use Rattle.std.proofs.Common.{◌-◌, ◌≤◌, length}
use Rattle.test_book.proofs.run.Given as goal

abbrev pub invariant-loop-at : goal.invariant-loop-at
invariant-loop-at g l = l.at ≤ length l.stream

abbrev pub decreases-loop-at : goal.decreases-loop-at
decreases-loop-at g l = length l.stream - l.at
