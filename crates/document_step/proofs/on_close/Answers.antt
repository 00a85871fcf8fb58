-- `on_close` meets its contract.
-- Assumes nothing.
use Rattle.std.proofs.Common.{sym, ◌∙◌}
use Rattle.document_step.proofs.Pairs.{close_none, close_unlike, close_good, close_bad}
use Rattle.document_step.proofs.on_close.Goals.{then-s-eq0-via-then-s-eq0, then-s-eq0-via-else-s-eq0+then-x-s}
use Rattle.document_step.proofs.on_close.Goals as goal

pub returns-then-s-eq0 : goal.returns-then-s-eq0
returns-then-s-eq0 c = elim c.then-s-eq0.branch [
  | then-s-eq0-via-then-s-eq0 w ↦ close_none _ _ _ _ _ _ w.if-s-eq0.true
  | then-s-eq0-via-else-s-eq0+then-x-s w ↦ close_unlike _ _ _ _ _ _ w.if-s-eq0.false w.if-x-s.true
]

pub returns-then-may_close : goal.returns-then-may_close
returns-then-may_close c = close_good _ _ _ _ _ _ c.if-s-eq0.false c.if-x-s.false c.may_close.ensures c.if-may_close.true

pub returns-else-may_close : goal.returns-else-may_close
returns-else-may_close c = close_bad _ _ _ _ _ _ c.if-s-eq0.false c.if-x-s.false c.may_close.ensures c.if-may_close.false
