-- `add_to_row` meets its contract: the mark for text, then the word.
-- Assumes nothing.
use Rattle.follow_row.proofs.Rows.{block_added}
use Rattle.follow_row.proofs.add_to_row.Goals as goal

pub returns : goal.returns
returns c = block_added _ _ _ _ _ c.requires.0 c.add_text.ensures.0 c.add_word.ensures
