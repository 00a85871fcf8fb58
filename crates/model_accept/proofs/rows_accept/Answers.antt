-- `model_accept::rows_accept` meets its contract.
-- Assumes nothing.
use Rattle.std.proofs.Common.{sym, ◌∙◌, ap}
use Rattle.model.specs.Run.{may_end, accepts}
use Rattle.model.proofs.Words.{run_nowhere, run_more, run_done}
use Rattle.model_accept.proofs.rows_accept.Goals as goal

pub returns-in_default : goal.returns-in_default
unfolding accepts may_end
returns-in_default c =
    let m = c.args.rows.now in
    ap (may_end m) (sym (run_nowhere m _) ∙ sym (run_more m _ _ _ c.loop-x-test.true c.step.ensures c.in_default.is) ∙ c.loop-x.invariant)

pub loop-x-preserved : goal.loop-x-preserved
loop-x-preserved c = sym (run_more c.args.rows.now _ _ _ c.loop-x-test.true c.step.ensures c.in-Some.is) ∙ c.loop-x.invariant

pub returns : goal.returns
unfolding accepts
returns c =
    let m = c.args.rows.now in
    c.may_end.ensures ∙ ap (may_end m) (sym (run_done m _ _ _ c.loop-x-test.false) ∙ c.loop-x.invariant)
