-- The bytes counted are the run from the place on.
-- Assumes nothing.
use Rattle.name.specs.Word.{word_byte}
use Rattle.declaration_bytes.proofs.Runs.{run_end}
use Rattle.declaration_bytes.proofs.skip_word.Goals as goal

pub returns : goal.returns
returns c = run_end word_byte _ _ _ c.requires c.word_bytes.ensures.run
