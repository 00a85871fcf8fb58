-- A line fits the buffer in which it is put together.
-- Assumes nothing.
use Rattle.std.proofs.Common.{arith}
use Rattle.dtd_lines.proofs.Line.{line_short}
use Rattle.dtd_lines.proofs.line_length.Goals as goal

pub put_line-requires : goal.put_line-requires
put_line-requires c = let p = c.requires in (p.0, p.1, p.2, omega (arith, line_short _ _ p.0 _ p.1 _ p.2))

pub returns : goal.returns
returns c = omega (arith, c.put_line.ensures.place)
