-- `model_step::step` meets its contract.
-- Assumes nothing.
use Rattle.model.specs.Run.{move}
use Rattle.model_step.proofs.step.Goals as goal

pub returns : goal.returns
unfolding move
returns c = cc
