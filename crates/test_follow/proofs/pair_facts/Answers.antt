-- `pair_facts` meets what its callee asks: the word's numbers are below the number of places.
-- Assumes nothing.
use Rattle.std.proofs.Common.{refl}
use Rattle.book.specs.Book.{all_below}
use Rattle.test_follow.proofs.pair_facts.Goals as goal

pub after_word-requires : goal.after_word-requires
unfolding all_below
after_word-requires c = refl
