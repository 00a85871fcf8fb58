-- `line_end` meets its contract: the bytes counted are the line from the place on.
-- Assumes nothing.
use Rattle.test_lines.proofs.Laws.{end_is}
use Rattle.test_lines.proofs.line_end.Goals as goal

pub returns : goal.returns
returns c = end_is _ _ _ c.requires c.line_length.ensures.run
