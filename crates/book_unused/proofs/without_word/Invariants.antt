-- What is left of the word decides what is left of the set.
-- Assumes nothing.
use Rattle.std.proofs.Common.{◌≡◌, drop}
use Rattle.book_unused.specs.Unused.{without_word}
use Rattle.book_unused.proofs.without_word.Given as goal

abbrev pub invariant-loop-name : goal.invariant-loop-name
invariant-loop-name l = without_word l.fn.set l.word ≡ without_word l.left (drop l.name-index l.word)
