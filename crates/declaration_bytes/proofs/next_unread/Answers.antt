-- The byte at the place, as the slice has it.
-- Assumes nothing.
use Rattle.std.proofs.Common.{ℕ, ap, ◌∙◌, arith, Option, unwrap_or}
use Rattle.declaration_bytes.specs.Unread.{end_of_text}
use Rattle.declaration_bytes.proofs.Runs.{next_or_end}
use Rattle.declaration_bytes.proofs.next_unread.Goals as goal

pub returns : goal.returns
returns c =
    ap (λ (o : Option ℕ). unwrap_or o end_of_text) c.copied.ensures
    ∙ c.get.ensures.lookup.4 (omega arith) end_of_text
    ∙ next_or_end c.args.text.now c.args.at
