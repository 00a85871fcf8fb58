-- A means: one walk over the pairs of a document from left to right, with the elements that are open. The first fault
-- is the answer, else the verdict. `walk_yes`, `walk_no` and `walk_refused` in proofs/Theorem.antt say what it answers.
-- Assumes nothing.
use Rattle.std.specs.Prelude.{ℕ, zero, suc, Bool, true, false, ◌&&◌, not, List, [], ◌∷◌, eqb, ltb, leb, length, Ok, Err, Option, Some, None}
use Rattle.refusal.specs.declared.Refusal.TheVariants.{BadDocument, TooDeep}
use Rattle.refusal.specs.Answer.{Answer, onward, refuse_if}
use Rattle.model.specs.declared.State.{State}
use Rattle.model.specs.Run.{state}
use Rattle.model_table.specs.Table.{Entry}
use Rattle.model_table_step.specs.Run.{move_in, may_close, allows_text}
use Rattle.document.specs.declared.Frame.{Frame}
use Rattle.document.specs.Tree.{deepest}

-- Where a walk is: before the root; inside an element, with those around it, the innermost first; or behind the root.
pub data Place : Type 0 where
  before : Place
  within : Frame → List Frame → Place
  behind : Place

-- The place, and whether nothing has shown yet that the document is not valid.
pub record Progress : Type 0 where
  pub place : Place
  pub good : Bool

abbrev pub progress : Place → Bool → Progress
progress p g = record { place = p; good = g }

-- ---- one element

-- An element as it is opened: it has no child yet.
abbrev pub opening : ℕ → Frame
opening x = record { name = x; state = state 0 false }

-- The state after one more child. If the run through the children ends with that child, the state stays as it was, and
-- `goes_on` is false.
unfoldable pub kept : State → Option State → State
kept s (Some t) = t
kept s None = s

abbrev pub moved : Frame → Option State → Frame
moved f m = record { name = f.name; state = kept f.state m }

unfoldable pub goes_on : Option State → Bool
goes_on (Some s) = true
goes_on None = false

-- Where a walk is when the innermost element is closed, which was inside these.
unfoldable pub out_of : List Frame → Place
out_of [] = behind
out_of (f ∷ fs) = within f fs

-- ---- one pair

module _ (entries : ℕ → Entry) (x : ℕ) where
  -- An open: "a second root" is 18, "an open that would make depth 33" is 19.
  unfoldable pub opened : Place → Bool → Answer Progress
  opened before g = Ok (progress (within (opening x) []) g)
  opened (within f fs) g =
      let m = move_in (entries f.name) f.state x in
      refuse_if (leb deepest (suc (length fs))) TooDeep (Ok (progress (within (opening x) (moved f m ∷ fs)) (goes_on m && g)))
  opened behind g = Err BadDocument

  -- A close: "unlike its open or with none open" is 18.
  unfoldable pub closed : Place → Bool → Answer Progress
  closed before g = Err BadDocument
  closed (within f fs) g =
      refuse_if (not (eqb x f.name)) BadDocument (Ok (progress (out_of fs) (may_close (entries f.name) f.state && g)))
  closed behind g = Err BadDocument

  -- Text: "with a number other than 0" and "outside the root" are 18.
  unfoldable pub texted : Place → Bool → Answer Progress
  texted before g = Err BadDocument
  texted (within f fs) g =
      refuse_if (not (eqb x 0)) BadDocument (Ok (progress (within f fs) (allows_text (entries f.name) && g)))
  texted behind g = Err BadDocument

  -- "a kind above 2" is 18.
  unfoldable pub by_kind : ℕ → Place → Bool → Answer Progress
  by_kind zero p g = opened p g
  by_kind (suc zero) p g = closed p g
  by_kind (suc (suc zero)) p g = texted p g
  by_kind (suc (suc (suc k))) p g = Err BadDocument

-- One pair: "a number not below N" is 18, and goes before 19.
unfoldable pub one_pair : ℕ → (ℕ → Entry) → Progress → ℕ → ℕ → Answer Progress
one_pair n entries s kind x = refuse_if (not (ltb x n)) BadDocument (by_kind entries x kind s.place s.good)

-- ---- all pairs

-- The end: "no root" and "an open left at the end" are 18.
unfoldable pub ended : Place → Bool → Answer Bool
ended before g = Err BadDocument
ended (within f fs) g = Err BadDocument
ended behind g = Ok g

-- The rest of a document. A single byte at its end is never met: "an odd length is seen before any pair".
unfoldable pub walk : ℕ → (ℕ → Entry) → Progress → List ℕ → Answer Bool
walk n entries s [] = ended s.place s.good
walk n entries s (kind ∷ []) = Err BadDocument
walk n entries s (kind ∷ x ∷ rest) = onward (one_pair n entries s kind x) (λ t. walk n entries t rest)

abbrev pub start : Progress
start = progress before true
