-- `put_all` meets its contract: after the turns all bytes stand in the buffer.
-- Assumes nothing.
use Rattle.std.proofs.Common.{refl, arith}
use lib.ListN.{length-set}
use Rattle.byte_buffer.proofs.Puts.{sofar_none, sofar_more, sofar_end}
use Rattle.byte_buffer.proofs.put_all.Goals as goal

pub loop-i-init : goal.loop-i-init
loop-i-init c = (sofar_none _ _ _, refl)

pub bounds-buffer-at : goal.bounds-buffer-at
bounds-buffer-at c = omega (arith, c.loop-i.invariant.1, c.loop-i-test.true, c.requires)

pub loop-i-preserved : goal.loop-i-preserved
loop-i-preserved c = let inv = c.loop-i.invariant in (sofar_more _ _ _ _ _ inv.0 c.loop-i-test.true, simp length-set inv.1)

pub returns : goal.returns
returns c = let inv = c.loop-i.invariant in sofar_end _ _ _ _ _ inv.0 inv.1 (omega (arith, c.loop-i.auto.i-end, c.loop-i-test.false))
