-- `shows_word` meets its contract.
-- Assumes nothing.
use Rattle.std.proofs.Common.{◌∙◌, eq-eqb}
use Rattle.chain_sample.proofs.Shown.{word_empty, word_starts}
use Rattle.chain_sample.proofs.shows_word.Goals as goal

pub returns-then-row-eq1 : goal.returns-then-row-eq1
returns-then-row-eq1 c n = eq-eqb _ _ c.if-row-eq1.true ∙ word_empty c.args.row.now n c.if-row-eq1.true

pub returns-else-row-eq1 : goal.returns-else-row-eq1
returns-else-row-eq1 c n = word_starts c.args.row.now n _ _ c.if-row-eq1.false c.row_at.ensures c.is_empty.ensures
