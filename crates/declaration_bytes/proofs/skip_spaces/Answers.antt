-- The bytes counted are the run from the place on.
-- Assumes nothing.
use Rattle.declaration_spelling.specs.Token.{is_space}
use Rattle.declaration_bytes.proofs.Runs.{run_end}
use Rattle.declaration_bytes.proofs.skip_spaces.Goals as goal

pub returns : goal.returns
returns c = run_end is_space _ _ _ c.requires c.spaces.ensures.run
