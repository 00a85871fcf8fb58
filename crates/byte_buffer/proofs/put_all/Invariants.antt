-- Before each turn the first i bytes stand in the buffer.
-- Assumes nothing.
use Rattle.std.proofs.Common.{◌≡◌, length}
use Rattle.byte_buffer.proofs.Puts.{sofar}
use Rattle.byte_buffer.proofs.put_all.Given as goal

abbrev pub invariant-loop-i : goal.invariant-loop-i
invariant-loop-i l = (l.buffer ≡ sofar l.fn.buffer l.at l.bytes l.i) × (length l.buffer ≡ length l.fn.buffer)
