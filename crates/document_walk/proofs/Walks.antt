-- The walk over the pairs, one turn of the loop at a time.
-- Assumes nothing.
use Rattle.std.specs.Prelude.{Ok, Err}
use Prim.Native.Nat.{ℕ, zero, suc, ◌+◌, ◌-◌, ◌%◌, ◌≤◌, ◌<◌}
use mathlib.Core.Path.{◌≡◌, refl, sym, ◌∙◌}
use mathlib.Core.Bool.{Bool, true, false}
use mathlib.Core.List.{List, ◌∷◌}
use native.Mathlib.Omega.{arith}
use native.Mathlib.Numerals.{add-one}
use lib.ListN.{length, get_or, set, drop, drop_of_length-le}
use lib.Seq.{drop-cons, get_or-set_same, get_or-set_other}
use Rattle.std.proofs.Common.{Result, Ok, Err}
use Rattle.refusal.specs.declared.Refusal.{Refusal}
use Rattle.refusal.specs.Answer.{Answer, onward}
use Rattle.document.specs.declared.Frame.{Frame}
use Rattle.model_table.specs.Table.{Entry}
use Rattle.document.specs.Tree.{deepest}
use Rattle.document.specs.Walk.{Place, Progress, progress, opening, out_of, one_pair, ended, walk}
use Rattle.document_step.specs.declared.Step.{Step}
use Rattle.document_step.specs.declared.Step.TheVariants.{Open, Close, Text}
use Rattle.document_step.specs.Step.{frame_at, frames_around, outside, place_at, after, Room, Judged}

-- ---- the elements that are open

-- An element put at a place is found there, and the others stay.
put_same : (frames : List Frame) (i : ℕ) (f : Frame) → i < length frames → frame_at (set frames i f) i ≡ f
unfolding frame_at
put_same frames i f l = get_or-set_same frames i f (opening 0) l

put_other : (frames : List Frame) (i j : ℕ) (f : Frame) → (j ≡ i → ⊥) → frame_at (set frames i f) j ≡ frame_at frames j
unfolding frame_at
put_other frames i j f h = get_or-set_other frames i j f (opening 0) h

-- A store above the elements around the innermost one changes none of them.
around_set : (frames : List Frame) (i : ℕ) (f : Frame) (d : ℕ) → d < i → frames_around (set frames i f) d ≡ frames_around frames d
unfolding frames_around
around_set frames i f zero l = refl
around_set frames i f (suc d) l =
    let n : suc d ≡ i → ⊥ = λ e. omega arith in
    rw (put_other frames i (suc d) f n, around_set frames i f d (omega arith))

-- After an open.
pub after_open : (begun : Bool) (top : Frame) (frames : List Frame) (d x : ℕ) (f : Frame) (g : Bool) → length frames ≡ deepest → d < deepest →
    after (Ok (Open f g)) x (place_at begun top frames d) ≡ Ok (progress (place_at true (opening x) (set frames d f) (d + 1)) g)
unfolding after place_at frames_around outside
after_open true top frames zero x f g p l = refl
after_open false top frames zero x f g p l = refl
after_open begun top frames (suc d) x f g p l = rw (add-one (suc d), put_same frames (suc d) f (omega arith), around_set frames (suc d) f d (omega arith))

-- After a close.
out_of_lem : (frames : List Frame) (d : ℕ) → out_of (frames_around frames d) ≡ place_at true (frame_at frames d) frames d
unfolding place_at frames_around outside out_of
out_of_lem frames zero = refl
out_of_lem frames (suc d) = refl

pub after_close : (begun : Bool) (top : Frame) (frames : List Frame) (d x : ℕ) (g : Bool) → 0 < d →
    after (Ok (Close g)) x (place_at begun top frames d) ≡ Ok (progress (place_at true (frame_at frames (d - 1)) frames (d - 1)) g)
unfolding after place_at
after_close begun top frames zero x g l = absurd (omega arith)
after_close begun top frames (suc d) x g l = let e : suc d - 1 ≡ d = omega arith in rw (e, ← out_of_lem frames d)

-- After text.
pub after_text : (begun : Bool) (top : Frame) (frames : List Frame) (d x : ℕ) (g : Bool) → 0 < d →
    after (Ok (Text g)) x (place_at begun top frames d) ≡ Ok (progress (place_at true top frames d) g)
unfolding after place_at
after_text begun top frames zero x g l = absurd (omega arith)
after_text begun top frames (suc d) x g l = refl

-- ---- one turn

-- there is room for a step
pub has_room : {by : Place → Bool → Answer Progress} {x depth : ℕ} {begun good : Bool} {top : Frame} {r v : Result Step Refusal} →
    Judged by x begun depth top good r → r ≡ v → Room v depth
has_room j q = rw q at j.room

module _ (n : ℕ) (e : ℕ → Entry) (w : List ℕ) (at : ℕ) (even : length w % 2 ≡ 0) (half : at % 2 ≡ 0) (l : at < length w) where
  pair_next : drop at w ≡ get_or w at 0 ∷ get_or w (at + 1) 0 ∷ drop (at + 2) w
  pair_next =
      let k : at + 1 < length w = omega arith in
      let p : drop (at + 1) w ≡ get_or w (at + 1) 0 ∷ drop (suc (at + 1)) w = drop-cons w (at + 1) 0 k in
      let q : at + 2 ≡ suc (at + 1) = omega arith in
      rw (q, drop-cons w at 0, ← p, add-one at)

  walk_next : (s : Progress) → walk n e s (drop at w) ≡ onward (one_pair n e s (get_or w at 0) (get_or w (at + 1) 0)) (λ t. walk n e t (drop (at + 2) w))
  unfolding walk
  walk_next s = rw pair_next

  module _ (begun : Bool) (top : Frame) (frames : List Frame) (depth : ℕ) (good : Bool) {r v : Result Step Refusal}
      (j : Judged (λ p g. one_pair n e (progress p g) (get_or w at 0) (get_or w (at + 1) 0)) (get_or w (at + 1) 0) begun depth top good r) (q : r ≡ v) where
    step_to : (a : Answer Progress) → after v (get_or w (at + 1) 0) (place_at begun top frames depth) ≡ a →
        walk n e (progress (place_at begun top frames depth) good) (drop at w) ≡ onward a (λ t. walk n e t (drop (at + 2) w))
    step_to a h = walk_next (progress (place_at begun top frames depth) good) ∙ rw (j.same frames, q, h)

    pub goes : (t : Progress) → after v (get_or w (at + 1) 0) (place_at begun top frames depth) ≡ Ok t → {b : Answer Bool} →
        walk n e (progress (place_at begun top frames depth) good) (drop at w) ≡ b → walk n e t (drop (at + 2) w) ≡ b
    goes t h i = sym (step_to (Ok t) h) ∙ i

    pub stops : (f : Refusal) → v ≡ Err f → {b : Answer Bool} → walk n e (progress (place_at begun top frames depth) good) (drop at w) ≡ b → Err f ≡ b
    unfolding after
    stops f p i = sym (step_to (Err f) (rw p)) ∙ i

-- At the end of the pairs.
pub walked : (n : ℕ) (e : ℕ → Entry) (w : List ℕ) (at : ℕ) → length w ≤ at → (s : Progress) → {b : Answer Bool} → walk n e s (drop at w) ≡ b → ended s.place s.good ≡ b
unfolding walk
walked n e w at l s i = rw (drop_of_length-le w l) at i
