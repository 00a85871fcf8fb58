-- A factor that may not be left out gives its name.
-- Assumes nothing.
use Rattle.std.proofs.Common.{arith}
use Rattle.model_counterexample.proofs.Words.{rest_start, rest_put, rest_kept, rest_done}
use Rattle.model_counterexample.proofs.put_needed.Goals as goal
use Rattle.model_counterexample.proofs.put_needed.Goals.{then-not-is_optional, else-not-is_optional}

pub loop-i-init : goal.loop-i-init
loop-i-init c = record { left = rest_start _ _ _ _ _ _; room = c.requires.0 }

pub loop-i-preserved : goal.loop-i-preserved
loop-i-preserved c =
    let l = c.loop-i in
    let t = c.loop-i-test.true in
    record {
      left =
          elim c.if-not-is_optional.branch [
            | then-not-is_optional w ↦
                rw (w.word-is, w.to-is)
                (rest_put _ _ _ _ t _ _ _ _ _ l.invariant.left c.entry.ensures c.is_optional.ensures w.if-not-is_optional.true w.entry-then-not-is_optional.ensures)
            | else-not-is_optional w ↦
                rw (w.word-is, w.to-is) (rest_kept _ _ _ _ t _ _ _ _ _ l.invariant.left c.entry.ensures c.is_optional.ensures w.if-not-is_optional.false)
          ];
      room =
          elim c.if-not-is_optional.branch [
            | then-not-is_optional w ↦ omega (arith, w.to-is, l.invariant.room, c.if-not-is_optional.auto.word)
            | else-not-is_optional w ↦ omega (arith, w.to-is, l.invariant.room, c.if-not-is_optional.auto.word)
          ];
    }

pub returns : goal.returns
returns c = rest_done _ _ _ _ _ _ _ _ _ c.loop-i.invariant.left c.loop-i-test.false
