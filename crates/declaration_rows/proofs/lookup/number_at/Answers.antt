-- A sign, a name of the book, any other word.
-- Assumes nothing.
use Rattle.std.proofs.Common.{arith}
use Rattle.declaration_rows.proofs.Steps.{number_sign, number_word, number_none}
use Rattle.declaration_rows.proofs.lookup.number_at.Goals as goal

pub returns-then-piece-ne-WORD : goal.returns-then-piece-ne-WORD
returns-then-piece-ne-WORD c = (number_sign _ _ _ c.if-piece-ne-WORD.true, omega arith)

pub returns-in-Some : goal.returns-in-Some
returns-in-Some c = number_word _ _ c.requires.0 _ c.if-piece-ne-WORD.false _ _ _ _ c.part.ensures _ c.find_name.ensures _ c.in-Some.is

pub returns-in-None : goal.returns-in-None
returns-in-None c = number_none _ _ c.requires.0 _ c.if-piece-ne-WORD.false _ _ _ _ c.part.ensures _ c.find_name.ensures c.in-None.is
