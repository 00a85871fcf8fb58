-- A turn puts the line of a parent.
-- Assumes nothing.
use Rattle.std.proofs.Common.{◌+◌, ◌≤◌, sym, subst, List, ℕ, length, arith}
use Rattle.follow_row.specs.Row.{OfWords}
use Rattle.byte_buffer.proofs.Puts.{put_is}
use Rattle.dtd_lines.proofs.Lines.{lines_start, line_room, lines_more, lines_done, row_line}
use Rattle.dtd_lines.proofs.put_lines.Goals as goal

pub loop-parent-init : goal.loop-parent-init
loop-parent-init c = lines_start _ _ _ _

pub row_of-requires : goal.row_of-requires
row_of-requires c = let p = c.requires in (p.1.size, omega (arith, c.loop-parent-test.true, p.1.few))

pub put_line-to-requires : goal.put_line-to-requires
put_line-to-requires c =
    let p = c.requires in
    let below = c.loop-parent-test.true in
    let room = line_room _ _ _ _ below _ _ _ _ c.loop-parent.invariant p.2 in (
      p.0,
      below,
      subst (OfWords _) (sym c.row_of.ensures.0) (p.1.rows _ below),
      subst (λ (text : List ℕ). c.loop-parent.to + length text ≤ length c.loop-parent.out) (sym (row_line _ _ _ _ _ c.row_of.ensures.0)) room,
    )

pub loop-parent-preserved : goal.loop-parent-preserved
loop-parent-preserved c =
    let put = put_is _ _ _ _ _ _ (row_line _ _ _ _ _ c.row_of.ensures.0) c.put_line-to.ensures in
    lines_more _ _ _ _ c.loop-parent-test.true _ _ _ _ c.loop-parent.invariant _ _ put

pub returns : goal.returns
returns c = lines_done _ _ _ _ c.loop-parent-test.false _ _ _ _ c.loop-parent.invariant
