-- `factor_rows` meets its contract.
-- Assumes nothing.
use Rattle.std.proofs.Common.{◌≡◌, ◌<◌, ◌∙◌, length, arith, rules}
use Rattle.nameset.specs.Places.{places}
use Rattle.nameset.specs.Rows.{no_rows}
use Rattle.model_factors.proofs.Rows.{entry_is, rows_none, rows_more, rows_kept}
use Rattle.model_factors.proofs.factor_rows.Goals as goal
use Rattle.model_factors.proofs.factor_rows.Goals.{then-i-lt-PLACES, else-i-lt-PLACES}

pub loop-x-init : goal.loop-x-init
unfolding no_rows
loop-x-init c = rows_none _

pub loop-x-preserved : goal.loop-x-preserved
loop-x-preserved c =
    let m = c.args.m in
    let l : length m.factor ≡ places = search rules in
    let h : c.loop-x.x < places = omega arith in
    let e = c.from-i.ensures ∙ entry_is m c.loop-x.x l h in
    elim c.if-i-lt-PLACES.branch [
      | then-i-lt-PLACES w ↦
          rows_more _ _ _ _ c.loop-x.invariant _ _ _ e w.if-i-lt-PLACES.true w.row_at.ensures w.with-names.ensures.members (w.rows-is ∙ w.put_row.ensures.0)
      | else-i-lt-PLACES w ↦ rows_kept _ _ _ _ c.loop-x.invariant _ e w.if-i-lt-PLACES.false w.rows-is
    ]
