-- `all_named` meets its contract: one answer for each way through it.
-- Assumes nothing.
use Rattle.model_named.proofs.Naming.{all_looked, one_unnamed, by_others}
use Rattle.model_named.proofs.all_named.Goals as goal

pub returns-then-count-n : goal.returns-then-count-n
returns-then-count-n c = all_looked _ _ _ c.each_named.ensures

pub returns-then-all_used : goal.returns-then-all_used
returns-then-all_used c =
    let (few, placed) = c.requires in
    by_others _ _ _ few (λ i l. c.used_factors.ensures _ i few placed l) c.min-told.ensures c.all_used.ensures c.if-all_used.true c.each_named-then-all_used.ensures

pub returns-else-all_used : goal.returns-else-all_used
returns-else-all_used c =
    let (few, placed) = c.requires in
    one_unnamed _ _ _ few (λ i l. c.used_factors.ensures _ i few placed l) c.min-told.ensures c.all_used.ensures c.if-all_used.false
