-- `add_ends` meets its contract.
-- Assumes nothing.
use Rattle.std.proofs.Common.{◌∙◌}
use Rattle.follow_row.proofs.Rows.{ends_put}
use Rattle.follow_row.proofs.add_ends.Goals as goal

pub returns : goal.returns
returns c = (
  ends_put _ _ _ _ _ _ _ _ c.row_at.ensures c.with_first-starts.ensures c.put_row.ensures.0
      c.row_at-2.ensures c.with_last-ends.ensures c.put_row-2.ensures.0,
  c.put_row-2.ensures.1 ∙ c.put_row.ensures.1 ∙ c.requires.0,
)
