-- `walk_pairs` meets its contract.
-- Assumes nothing.
use Rattle.std.proofs.Common.{◌≡◌, ◌<◌, ◌+◌, ◌*◌, ◌%◌, ◌∙◌, refl, ap, length, arith, Ok}
use Rattle.std.proofs.Math.ListN.{length-set}
use Rattle.refusal.specs.Answer.{acceptance}
use Rattle.document_step.specs.Step.{frame_at, place_at, outside}
use Rattle.document_walk.proofs.Walks.{after_open, after_close, after_text, has_room, goes, stops, walked}
use Rattle.document_walk.proofs.walk_pairs.Goals.{in-Open, in-Close, in-Text}
use Rattle.document_walk.proofs.walk_pairs.Goals as goal

pub loop-i-init : goal.loop-i-init
unfolding place_at outside
loop-i-init c = (refl, omega arith, refl)

pub returns-in-Err : goal.returns-in-Err
unfolding acceptance
returns-in-Err c =
    ap acceptance (stops _ _ _ (2 * c.loop-i.i) c.requires (omega arith) (omega (arith, c.loop-i-test.true)) _ _ _ _ _ c.judge_pair.ensures c.in-Err.is _ refl c.loop-i.invariant.2)

pub loop-i-preserved : goal.loop-i-preserved
unfolding frame_at
loop-i-preserved c =
    let l = c.loop-i in
    let next : 2 * (l.i + 1) ≡ 2 * l.i + 2 = omega arith in
    let even : 2 * l.i % 2 ≡ 0 = omega arith in
    let within : 2 * l.i < length c.args.document.now = omega (arith, c.loop-i-test.true) in
    elim c.match-step.branch [
      | in-Open w ↦
          let told = c.in-Ok.is ∙ ap Ok w.in-Open.is in
          let room = has_room c.judge_pair.ensures told in
          rw (w.frames-is, w.s-is, next, w.opening-s.ensures, w.anew.ensures) (
            length-set _ _ _ ∙ l.invariant.0,
            omega arith,
            goes _ _ _ (2 * l.i) c.requires even within _ _ _ _ _ c.judge_pair.ensures told _ (after_open _ _ _ _ _ _ _ l.invariant.0 room) l.invariant.2,
          )
      | in-Close w ↦
          let told = c.in-Ok.is ∙ ap Ok w.in-Close.is in
          let room = has_room c.judge_pair.ensures told in
          rw (w.frames-is, w.s-is, next, w.anew-s.ensures) (
            l.invariant.0,
            omega arith,
            goes _ _ _ (2 * l.i) c.requires even within _ _ _ _ _ c.judge_pair.ensures told _ (after_close _ _ _ _ _ _ room) l.invariant.2,
          )
      | in-Text w ↦
          let told = c.in-Ok.is ∙ ap Ok w.in-Text.is in
          let room = has_room c.judge_pair.ensures told in
          rw (w.frames-is, w.s-is, next) (
            l.invariant.0,
            l.invariant.1,
            goes _ _ _ (2 * l.i) c.requires even within _ _ _ _ _ c.judge_pair.ensures told _ (after_text _ _ _ _ _ _ room) l.invariant.2,
          )
    ]

pub returns : goal.returns
returns c =
    c.finish.ensures _ _ ∙ ap acceptance (walked _ _ _ (2 * c.loop-i.i) (omega (arith, c.loop-i-test.false, c.requires)) _ c.loop-i.invariant.2)
