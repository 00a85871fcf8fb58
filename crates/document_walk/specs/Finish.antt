-- A means: the verdict at the end of a walk. `walk_pairs` promises what `walk` answers, of
-- crates/document/specs/Walk.antt.
-- Assumes nothing.
use Rattle.std.specs.Prelude.{ℕ, ◌≡◌, Bool, List}
use Rattle.refusal.specs.declared.Acceptance.{Acceptance}
use Rattle.refusal.specs.Answer.{acceptance}
use Rattle.document.specs.declared.Frame.{Frame}
use Rattle.document.specs.Walk.{ended}
use Rattle.document_step.specs.Step.{place_at}

-- The answer r is right at the end of the pairs, whatever the row of frames holds.
abbrev pub Finished : Bool → ℕ → Bool → Acceptance → Type 0
Finished begun depth good r = (top : Frame) (frames : List Frame) → r ≡ acceptance (ended (place_at begun top frames depth) good)
