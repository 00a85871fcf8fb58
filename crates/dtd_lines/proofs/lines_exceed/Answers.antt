-- All lines fit, or they are counted.
-- Assumes nothing.
use Rattle.std.proofs.Common.{ap, ℕ}
use lib.Dec.{ltb}
use Rattle.dtd_lines.proofs.Lines.{fit_all}
use Rattle.dtd_lines.proofs.lines_exceed.Goals as goal

pub returns-then-layout-room : goal.returns-then-layout-room
returns-then-layout-room c = let p = c.requires in fit_all _ _ p.0 _ p.1 _ c.if-layout-room.true

pub returns : goal.returns
returns c = ap (λ (k : ℕ). ltb c.args.room k) c.lines_length.ensures
