-- Each factor is passed, or has the step that is told; so does the end.
-- Assumes nothing.
use Rattle.std.proofs.Common.{Ok, Err, refl, lit≤, subst, get_or, ◌∙◌}
use Rattle.model.specs.declared.Chain.{Chain}
use Rattle.model_inclusion.proofs.Pass.{passed_none}
use Rattle.model_places.specs.declared.Spot.TheVariants.{End}
use Rattle.model_within.specs.Pass.{Needed, PassedBy}
use Rattle.model_within.proofs.Tests.{spot_start}
use Rattle.model_within.proofs.Turns.{turn_on, turn_stuck, ends}
use Rattle.model_within.proofs.find_step.Goals as goal

pub loop-i-init : goal.loop-i-init
loop-i-init c = rw (← spot_start 64 (lit≤ tt)) (passed_none _ _)

pub returns-in-Err : goal.returns-in-Err
returns-in-Err c =
    turn_stuck c.args.first c.args.second _ _ c.requires c.loop-i.i c.loop-i-test.true _ c.entry.ensures c.entry-in-loop-i.ensures _ refl c.loop-i.frontier c.loop-i.invariant c.in-Err.step
    (subst (λ (k : Chain). PassedBy k c.loop-i.frontier (record { low = c.entry.result; high = c.entry-in-loop-i.result }) (get_or c.args.first.mode c.loop-i.i 0) (Err c.in-Err.step)) (c.of-places.ensures ∙ c.rows.ensures) c.in-Err.ensures)

pub loop-i-preserved : goal.loop-i-preserved
loop-i-preserved c =
    turn_on c.args.first c.args.second _ _ c.requires c.loop-i.i c.loop-i-test.true _ c.entry.ensures c.entry-in-loop-i.ensures _ refl c.loop-i.frontier c.loop-i.invariant c.in-Ok.next
    (subst (λ (k : Chain). PassedBy k c.loop-i.frontier (record { low = c.entry.result; high = c.entry-in-loop-i.result }) (get_or c.args.first.mode c.loop-i.i 0) (Ok c.in-Ok.next)) (c.of-places.ensures ∙ c.rows.ensures) c.in-Ok.ensures)

pub returns : goal.returns
returns c =
    rw c.err.ensures.value
    (ends c.args.first c.args.second _ _ c.requires c.loop-i.i c.loop-i.frontier c.loop-i.invariant c.loop-i.auto.i-end c.loop-i-test.false c.spot_at.ensures c.need_step.result
    (subst (λ (k : Chain). Needed k c.spot_at.result End c.need_step.result) (c.of-places.ensures ∙ c.rows.ensures) c.need_step.ensures))
