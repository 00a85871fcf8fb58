-- Each place gets the farthest one that a step from it leads to.
-- Assumes nothing.
use Rattle.std.proofs.Common.{ℕ, replicate, refl}
use Rattle.std.proofs.lemmas.List.{length-replicate}
use Rattle.model_places.proofs.Rows.{fill_start, fill_more}
use Rattle.model_places.proofs.far_row.Goals as goal

pub loop-p-init : goal.loop-p-init
loop-p-init c = fill_start _ _ (replicate 65 0) c.requires (length-replicate {A = ℕ} 65 0)

pub loop-p-preserved : goal.loop-p-preserved
loop-p-preserved c = fill_more _ _ _ _ _ _ c.loop-p.invariant c.loop-p-test.true refl c.entry.ensures c.far_over-far.ensures
