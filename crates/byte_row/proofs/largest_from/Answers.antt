-- `largest_from` meets its contract: the answer is the larger of `top` and the bytes to come.
-- Assumes nothing.
use Rattle.std.proofs.Common.{◌∙◌, sym}
use Rattle.byte_row.proofs.Laws.{most_begin, most_next, most_done}
use Rattle.byte_row.proofs.largest_from.Goals as goal

pub loop-x-init : goal.loop-x-init
loop-x-init c = most_begin _ _ _ c.min.ensures

pub loop-x-preserved : goal.loop-x-preserved
loop-x-preserved c = c.loop-x.invariant ∙ most_next _ _ _ _ c.loop-x-test.true c.larger-top.ensures

pub returns : goal.returns
returns c = sym (c.loop-x.invariant ∙ most_done _ _ _ c.loop-x-test.false)
