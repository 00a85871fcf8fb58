-- A turn counts the line of a parent.
-- Assumes nothing.
use Rattle.std.proofs.Common.{◌∙◌, ap, sym, subst, length, arith}
use Rattle.follow_row.specs.Row.{OfWords}
use Rattle.dtd_lines.proofs.Lines.{count_none, count_more, count_small, count_done, row_line, all_short}
use Rattle.dtd_lines.proofs.lines_length.Goals as goal

pub loop-parent-init : goal.loop-parent-init
loop-parent-init c = count_none _ _ _

pub row_of-requires : goal.row_of-requires
row_of-requires c = let p = c.requires in (p.1.size, omega (arith, c.loop-parent-test.true, p.1.few))

pub line_length-size-requires : goal.line_length-size-requires
line_length-size-requires c =
    let p = c.requires in
    let below = c.loop-parent-test.true in
    (p.0, below, subst (OfWords _) (sym c.row_of.ensures.0) (p.1.rows _ below))

pub overflow_add-size : goal.overflow_add-size
overflow_add-size c =
    let p = c.requires in
    let counted = c.line_length-size.ensures ∙ ap length (row_line _ _ _ _ _ c.row_of.ensures.0) in
    omega (arith, count_small _ _ _ _ _ c.loop-parent.invariant c.loop-parent-test.true _ counted, all_short _ _ p.0 _ p.1, p.1.few)

pub loop-parent-preserved : goal.loop-parent-preserved
loop-parent-preserved c =
    let counted = c.line_length-size.ensures ∙ ap length (row_line _ _ _ _ _ c.row_of.ensures.0) in
    count_more _ _ _ _ _ c.loop-parent.invariant c.loop-parent-test.true _ counted

pub returns : goal.returns
returns c = count_done _ _ _ _ _ c.loop-parent.invariant c.loop-parent-test.false
