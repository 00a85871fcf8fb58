-- The two words that are told apart, and any other.
-- Assumes nothing.
use Rattle.std.proofs.Common.{arith}
use Rattle.declaration_spelling.specs.House.{empty_word, pcdata_word}
use Rattle.declaration_form.proofs.Begins.{kind_empty, kind_text, kind_word}
use Rattle.declaration_form.proofs.word_kind.Goals as goal

pub returns-then-stands_at : goal.returns-then-stands_at
unfolding empty_word
returns-then-stands_at c = (kind_empty _ _ c.stands_at.ensures c.if-stands_at.true, omega arith)

pub returns-then-stands_at-2 : goal.returns-then-stands_at-2
unfolding empty_word pcdata_word
returns-then-stands_at-2 c =
    (kind_text _ _ c.stands_at.ensures c.if-stands_at.false _ c.stands_at-2.ensures c.if-stands_at-2.true, omega arith)

pub returns : goal.returns
unfolding empty_word pcdata_word
returns c = (kind_word _ _ c.stands_at.ensures c.if-stands_at.false _ c.stands_at-2.ensures c.if-stands_at-2.false, omega arith)
