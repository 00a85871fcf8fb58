-- What is left of the largest byte: that of the bytes to come.
-- Assumes nothing.
use Rattle.std.proofs.Common.{◌≡◌, max, drop}
use Rattle.byte_row.specs.Largest.{largest}
use Rattle.byte_row.proofs.largest_from.Given as goal

abbrev pub invariant-loop-x : goal.invariant-loop-x
invariant-loop-x l = largest (drop l.fn.from l.fn.row) ≡ max l.top (largest (drop l.x-index l.x-items))
