-- The names that are needed of the factors from i on are still to be put.
-- Assumes nothing.
use Rattle.std.proofs.Common.{◌+◌, ◌-◌, ◌≤◌, length}
use Rattle.model_inclusion.specs.Over.{needed}
use Rattle.byte_buffer.proofs.Puts.{Left}
use Rattle.model_counterexample.specs.Word.{name_in}
use Rattle.model_counterexample.proofs.Words.{rest_of}
use Rattle.model_counterexample.proofs.put_needed.Given as goal

abbrev pub invariant-loop-i : goal.invariant-loop-i
invariant-loop-i l = record {
  left : Left l.fn.word l.fn.at (needed l.modes (name_in l.names) l.fn.first (l.fn.end - l.fn.first)) l.word l.to (rest_of l.modes l.names l.i l.fn.end);
  room : l.to + (l.fn.end - l.i) ≤ length l.word;
}
