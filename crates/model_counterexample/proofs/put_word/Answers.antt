-- The names up to the step, and those from it on.
-- Assumes nothing.
use Rattle.std.proofs.Common.{arith}
use Rattle.model_counterexample.proofs.Words.{lead_short, word_shown}
use Rattle.model_counterexample.proofs.put_word.Goals as goal

pub put_tail-requires : goal.put_tail-requires
put_tail-requires c =
    let p = c.requires in
    (p.0.step.meets, p.0.chain.few, lead_short _ _ _ _ p.0 _ _ _ c.put_lead-at.ensures, omega (arith, p.1, c.put_lead-at.ensures.same))

pub returns : goal.returns
returns c = word_shown _ _ _ _ c.requires.0 _ _ _ c.put_lead-at.ensures _ _ c.put_tail.ensures
