-- The rows of the extremes make the two chains comparable, and no step that is told means yes.
-- Assumes nothing.
use Rattle.model_within.proofs.Turns.{comparable, told}
use Rattle.model_within.proofs.is_within.Goals as goal

pub find_step-requires : goal.find_step-requires
find_step-requires c = comparable _ _ _ _ c.requires.1 c.requires.2 c.extreme_names-names.ensures

pub returns : goal.returns
returns c = told _ _ _ c.requires.1 c.requires.2 _ c.is_none.ensures c.find_step.ensures
