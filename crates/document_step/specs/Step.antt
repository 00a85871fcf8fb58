-- A means: a walk over a document as the code keeps it, and what a pair does to it. `same` of `Judged` joins a step to
-- `one_pair` of crates/document/specs/Walk.antt.
-- The code keeps how many elements are open, the innermost of them, and a row of frames: its place i has the element that
-- was the innermost at depth i, as it was when the next was opened. Where none is open, the innermost one and place 0
-- have no meaning, and nothing depends on them.
-- Assumes nothing.
use Rattle.std.specs.Prelude.{ℕ, zero, suc, ◌<◌, ◌≡◌, Bool, true, false, List, [], ◌∷◌, get_or, Ok, Err, Result}
use Rattle.refusal.specs.declared.Refusal.TheVariants.{BadDocument}
use Rattle.refusal.specs.Answer.{Answer}
use Rattle.model.specs.Run.{state}
use Rattle.refusal.specs.declared.Refusal.{Refusal}
use Rattle.document.specs.declared.Frame.{Frame}
use Rattle.document.specs.Tree.{deepest}
use Rattle.document.specs.Walk.{Place, before, within, behind, Progress, progress, opening, out_of}
use Rattle.document_step.specs.declared.Step.{Step}
use Rattle.document_step.specs.declared.Step.TheVariants.{Open, Close, Text}

-- The element at place i.
unfoldable pub frame_at : List Frame → ℕ → Frame
frame_at frames i = get_or frames i (opening 0)

-- The elements around the innermost one, where d are around it.
unfoldable pub frames_around : List Frame → ℕ → List Frame
frames_around frames zero = []
frames_around frames (suc d) = frame_at frames (suc d) ∷ frames_around frames d

-- With no element open, the walk is before the root or behind it: `begun` says whether a pair was read.
unfoldable pub outside : Bool → Place
outside false = before
outside true = behind

unfoldable pub place_at : Bool → Frame → List Frame → ℕ → Place
place_at begun top frames zero = outside begun
place_at begun top frames (suc d) = within top (frames_around frames d)

-- What a step makes of a place. An open behind the root and a close outside it are never steps: the call stops there.
unfoldable pub after : Result Step Refusal → ℕ → Place → Answer Progress
after (Ok (Open f g)) x before = Ok (progress (within (opening x) []) g)
after (Ok (Open f g)) x (within t fs) = Ok (progress (within (opening x) (f ∷ fs)) g)
after (Ok (Open f g)) x behind = Ok (progress (within (opening x) []) g)
after (Ok (Close g)) x before = Err BadDocument
after (Ok (Close g)) x (within t fs) = Ok (progress (out_of fs) g)
after (Ok (Close g)) x behind = Err BadDocument
after (Ok (Text g)) x p = Ok (progress p g)
after (Err r) x p = Err r

-- The row has a place for an element that is opened, and an element is open where one is closed or has text.
abbrev pub Room : Result Step Refusal → ℕ → Type 0
Room (Ok (Open f g)) d = d < deepest
Room (Ok (Close g)) d = 0 < d
Room (Ok (Text g)) d = 0 < d
Room (Err r) d = Unit {0}

-- The answer r is the step that `by` gives, or why the walk stops, whatever the row holds.
pub record Judged (by : Place → Bool → Answer Progress) (x : ℕ) (begun : Bool) (depth : ℕ) (top : Frame) (good : Bool) (r : Result Step Refusal) : Type 0 where
  pub same : (frames : List Frame) → by (place_at begun top frames depth) good ≡ after r x (place_at begun top frames depth)
  pub room : Room r depth
