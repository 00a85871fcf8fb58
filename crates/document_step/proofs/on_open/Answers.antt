-- `on_open` meets its contract.
-- Assumes nothing.
use Rattle.document_step.proofs.Pairs.{open_second, open_root, open_deep, open_goes, open_stays}
use Rattle.document_step.proofs.on_open.Goals as goal

pub returns-then-s : goal.returns-then-s
returns-then-s c = open_second _ _ _ _ _ _ c.if-s-eq0.true c.if-s.true

pub returns-then-s-eq0 : goal.returns-then-s-eq0
returns-then-s-eq0 c = open_root _ _ _ _ _ _ c.if-s-eq0.true c.if-s.false

pub returns-then-s-ge-DEEPEST : goal.returns-then-s-ge-DEEPEST
returns-then-s-ge-DEEPEST c = open_deep _ _ _ _ _ _ c.if-s-eq0.false c.if-s-ge-DEEPEST.true

pub returns-in-Some : goal.returns-in-Some
returns-in-Some c = open_goes _ _ _ _ _ c.move_in.ensures _ c.if-s-eq0.false c.if-s-ge-DEEPEST.false _ c.in-Some.is

pub returns-in-None : goal.returns-in-None
returns-in-None c = open_stays _ _ _ _ _ c.move_in.ensures _ c.if-s-eq0.false c.if-s-ge-DEEPEST.false c.in-None.is
