-- `judge_pair` meets its contract.
-- Assumes nothing.
use Rattle.std.proofs.Common.{arith}
use Rattle.document_step.proofs.Pairs.{number_high, is_open, is_close, is_text, no_kind}
use Rattle.document_step.proofs.judge_pair.Goals as goal

pub returns-then-n-x : goal.returns-then-n-x
returns-then-n-x c = number_high _ _ _ _ _ _ _ _ c.if-n-x.true

pub returns-in-0 : goal.returns-in-0
returns-in-0 c = is_open _ _ _ _ _ _ _ _ c.if-n-x.false c.in-0.is c.on_open.ensures

pub returns-in-1 : goal.returns-in-1
returns-in-1 c = is_close _ _ _ _ _ _ _ _ c.if-n-x.false c.in-1.is c.on_close.ensures

pub returns-in-2 : goal.returns-in-2
returns-in-2 c = is_text _ _ _ _ _ _ _ _ c.if-n-x.false c.in-2.is c.on_text.ensures

pub returns-in-3-to-255 : goal.returns-in-3-to-255
returns-in-3-to-255 c = no_kind _ _ _ _ _ _ _ _ c.if-n-x.false (λ e. omega arith) (λ e. omega arith) (λ e. omega arith)
