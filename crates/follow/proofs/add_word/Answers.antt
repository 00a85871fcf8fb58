-- `add_word` meets its contract.
-- Assumes nothing.
use Rattle.follow.proofs.Words.{word_added}
use Rattle.follow.proofs.add_word.Goals as goal

pub returns : goal.returns
returns c =
    word_added _ _ _ _ _ _ c.with_first.ensures c.with_last.ensures c.add_pairs.ensures.0 c.or_empty.ensures
