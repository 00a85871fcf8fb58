-- `model_of_parent` meets its contract: what `find_model` answers, without the layout.
-- Assumes nothing.
use Rattle.std.proofs.Common.{◌≡◌, ◌∙◌, arith, Err}
use Rattle.intake_sample.proofs.Inferring.{alone, alone_refused}
use Rattle.intake_sample.proofs.infer.model_of_parent.Goals as goal

pub returns-in_err-found : goal.returns-in_err-found
returns-in_err-found c =
    let gone : c.from_residual.result ≡ Err c.in_err-found.field-0.0 = grind arith in
    gone ∙ alone_refused _ _ _ c.in_err-found.ensures

pub returns : goal.returns
returns c = alone _ _ _ c.in_ok-found.ensures
