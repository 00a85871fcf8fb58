-- `write_from_sample` meets its contract: the model found, then its declaration.
-- Assumes nothing.
use Rattle.std.proofs.Common.{◌≡◌, arith, Err}
use Rattle.intake_sample.proofs.Writing.{stopped_model, model_writable, text_written}
use Rattle.intake_sample.proofs.write.write_from_sample.Goals as goal

pub returns-in_err-found : goal.returns-in_err-found
returns-in_err-found c =
    let gone : c.from_residual.result ≡ Err c.in_err-found.field-0.0 = grind arith in
    rw gone (stopped_model _ _ _ _ c.in_err-found.ensures)

pub write_model-requires : goal.write_model-requires
write_model-requires c = model_writable _ _ _ c.in_ok-found.ensures

pub returns : goal.returns
returns c = text_written _ _ _ c.in_ok-found.ensures _ _ _ c.write_model.ensures
