-- A turn puts the row of a parent.
-- Assumes nothing.
use Rattle.std.proofs.Common.{sym, subst, arith}
use Rattle.follow_row.specs.Row.{OfWords}
use Rattle.byte_buffer.proofs.Puts.{put_is}
use Rattle.model_table_rows.proofs.Rows.{rows_none, rows_more, rows_done, row_taken, next_room}
use Rattle.model_table_rows.proofs.put_rows.Goals as goal

pub loop-parent-init : goal.loop-parent-init
loop-parent-init c = rows_none _ _

pub row_of-requires : goal.row_of-requires
row_of-requires c = let p = c.requires in (p.0.size, omega (arith, c.loop-parent-test.true, p.0.few))

pub put_fact_row-to-requires : goal.put_fact_row-to-requires
put_fact_row-to-requires c =
    let p = c.requires in
    let below = c.loop-parent-test.true in
    (p.0.few, subst (OfWords _) (sym c.row_of.ensures.0) (p.0.rows _ below), next_room _ _ p.0 _ _ _ _ below c.loop-parent.invariant p.1)

pub loop-parent-preserved : goal.loop-parent-preserved
loop-parent-preserved c =
    let put = put_is _ _ _ _ _ _ (row_taken _ _ _ _ c.row_of.ensures.0) c.put_fact_row-to.ensures in
    rows_more _ _ _ _ _ _ _ c.loop-parent.invariant put

pub returns : goal.returns
returns c = rows_done _ _ _ _ _ _ (omega arith) c.loop-parent-test.false c.loop-parent.invariant
