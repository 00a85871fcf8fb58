-- The run through a word, one name at a time.
-- Assumes nothing.
use Prim.Native.Nat.{ℕ, ◌+◌, ◌<◌, ◌≤◌}
use mathlib.Core.Path.{◌≡◌, refl}
use mathlib.Core.List.{List, [], ◌∷◌, ◌++◌}
use native.Mathlib.Numerals.{add-one}
use lib.ListN.{length, get_or, drop, drop_of_length-le}
use lib.Seq.{drop-cons}
use Rattle.model.specs.declared.Chain.{Chain}
use Rattle.model.specs.declared.State.{State}
use Rattle.std.proofs.Common.{Option, Some, None}
use Rattle.model.specs.Run.{move, run}

pub run_nowhere : (m : Chain) (w : List ℕ) → run m None w ≡ None
unfolding run move
run_nowhere m [] = refl
run_nowhere m (x ∷ w) = run_nowhere m w

-- A run over a joined word is one over its first part and then over the second.
pub run_joined : (m : Chain) (s : Option State) (u v : List ℕ) → run m s (u ++ v) ≡ run m (run m s u) v
unfolding run
run_joined m s [] v = refl
run_joined m s (x ∷ u) v = run_joined m (move m s x) u v

-- One more name of the word moves the state to v.
pub run_more : (m : Chain) (s : State) (w : List ℕ) (i : ℕ) {r v : Option State} → i < length w → r ≡ move m (Some s) (get_or w i 0) → r ≡ v → run m (Some s) (drop i w) ≡ run m v (drop (i + 1) w)
unfolding run
run_more m s w i l f g = rw (drop-cons w i 0, add-one, ← g, f)

pub run_done : (m : Chain) (s : Option State) (w : List ℕ) (i : ℕ) → length w ≤ i → run m s (drop i w) ≡ s
unfolding run
run_done m s w i l = rw (drop_of_length-le w l)
