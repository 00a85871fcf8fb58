-- Each name is compared with those in the rows of its factor.
-- Assumes nothing.
use Rattle.std.proofs.Common.{◌<◌, arith, rules}
use Rattle.model_extremes.specs.Extremes.{no_name, Lower, Higher}
use Rattle.model_extremes.proofs.Rows.{best_none, best_kept, best_more, lower_trans, higher_trans, chosen_low, chosen_high}
use Rattle.model_extremes.proofs.extreme_names.Goals as goal
use Rattle.model_extremes.proofs.extreme_names.Goals.{then-i-lt-PLACES, else-i-lt-PLACES}

pub loop-x-init : goal.loop-x-init
loop-x-init c = record { low = best_none (Lower c.args.second.now) c.args.first.now; high = best_none (Higher c.args.second.now) c.args.first.now }

pub loop-x-preserved : goal.loop-x-preserved
loop-x-preserved c =
    let inv = c.loop-x.invariant in
    let a = c.args in
    let low = Lower a.second.now in
    let high = Higher a.second.now in
    let e = c.entry-i.ensures in
    let small : c.loop-x.x < no_name = omega arith in
    record {
      low =
          elim c.if-i-lt-PLACES.branch [
            | then-i-lt-PLACES w ↦
                rw w.low-is (best_more low a.first.now (lower_trans a.second.now) _ _ _ inv.low e w.if-i-lt-PLACES.true small _ (chosen_low a.second.now _ _ w.better.ensures.none (λ d. let h = w.better.ensures.some d in (h.0, search (rules, h.1), h.2))))
            | else-i-lt-PLACES w ↦ best_kept low a.first.now _ _ _ _ inv.low e w.if-i-lt-PLACES.false w.low-is
          ];
      high =
          elim c.if-i-lt-PLACES.branch [
            | then-i-lt-PLACES w ↦
                rw w.high-is (best_more high a.first.now (higher_trans a.second.now) _ _ _ inv.high e w.if-i-lt-PLACES.true small _ (chosen_high a.second.now _ _ w.better-then-i-lt-PLACES.ensures.none (λ d. let h = w.better-then-i-lt-PLACES.ensures.some d in (h.0, search (rules, h.1), h.2))))
            | else-i-lt-PLACES w ↦ best_kept high a.first.now _ _ _ _ inv.high e w.if-i-lt-PLACES.false w.high-is
          ];
    }
