-- `line_at` meets its contract: what lies between the place and the end of its line is the line.
-- Assumes nothing.
use Rattle.test_lines.proofs.Laws.{line_between}
use Rattle.test_lines.proofs.line_at.Goals as goal

pub returns : goal.returns
returns c = line_between _ _ _ c.line_end-end.ensures.0
