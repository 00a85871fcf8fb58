-- A turn puts what stands before factor i, and the factor.
-- Assumes nothing.
use Rattle.std.proofs.Common.{arith}
use Rattle.book.proofs.Laws.{few_names}
use Rattle.declaration_text.proofs.Steps.{factors_start, before_room, factor_room, factors_more, factors_done}
use Rattle.declaration_text.proofs.put_factors.Goals as goal

pub factor_rows-rows-requires : goal.factor_rows-rows-requires
factor_rows-rows-requires c = few_names _ _ c.requires.0

pub loop-i-init : goal.loop-i-init
loop-i-init c = factors_start _ _ _ _ _

pub put_some-to-requires : goal.put_some-to-requires
put_some-to-requires c = before_room _ _ _ _ _ c.loop-i-test.true c.before-in-loop-i.ensures _ _ _ _ _ c.loop-i.invariant c.requires.1

pub put_factor-to-requires : goal.put_factor-to-requires
put_factor-to-requires c =
    let pre = c.requires in (
      pre.0,
      factor_room _ _ _ _ _ c.loop-i-test.true c.before-in-loop-i.ensures _ _ _ _ _ c.loop-i.invariant _ _ c.put_some-to.ensures pre.1,
      rw c.row_at.ensures (c.factor_rows-rows.ensures.row _ (omega arith)),
    )

pub loop-i-preserved : goal.loop-i-preserved
loop-i-preserved c =
    factors_more _ _ _ _ _ c.loop-i-test.true c.before-in-loop-i.ensures _ _ _ _ _ c.loop-i.invariant _ _ c.put_some-to.ensures _ _
    c.put_factor-to.ensures

pub returns : goal.returns
returns c = factors_done _ _ _ _ c.loop-i-test.false _ _ _ _ _ c.loop-i.invariant
