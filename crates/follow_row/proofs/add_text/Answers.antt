-- `add_text` meets its contract.
-- Assumes nothing.
use Rattle.std.proofs.Common.{refl, eq-eqb}
use borrow.Author.Tests.{ne_eqb}
use Rattle.follow_row.proofs.Rows.{text_put, text_kept}
use Rattle.follow_row.proofs.add_text.Goals as goal

pub returns-then-text-eq1 : goal.returns-then-text-eq1
returns-then-text-eq1 c = text_put _ _ _ c.requires (rw (eq-eqb c.args.text 1 c.if-text-eq1.true) refl)

pub returns-else-text-eq1 : goal.returns-else-text-eq1
returns-else-text-eq1 c = text_kept _ _ c.requires (ne_eqb c.args.text 1 c.if-text-eq1.false)
