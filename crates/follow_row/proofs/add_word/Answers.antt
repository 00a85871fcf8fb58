-- `add_word` meets its contract: the mark, or the two sets and then the pairs.
-- Assumes nothing.
use Rattle.std.proofs.Common.{sym, ◌∙◌, eqb-true}
use borrow.Author.Tests.{eqb-false}
use Rattle.follow_row.proofs.Rows.{empty_added, row_added}
use Rattle.follow_row.proofs.add_word.Goals as goal

pub returns-then-is_empty : goal.returns-then-is_empty
returns-then-is_empty c = empty_added _ _ c.requires.0 (eqb-true _ 0 (sym c.is_empty.ensures ∙ c.if-is_empty.true))

pub returns : goal.returns
returns c =
    row_added _ _ _ _ c.add_ends.ensures.0 c.requires.0 (eqb-false _ 0 (sym c.is_empty.ensures ∙ c.if-is_empty.false))
    c.add_pairs.ensures.0 c.add_pairs.ensures.1
