-- To be believed: which words a record accepts, as paper 01 and XML 1.0, section 3.2, have it: "a joining of one part
-- for each factor in order". A word is a list of name numbers of any length.
-- Assumes nothing.
use Rattle.std.specs.Prelude.{ℕ, zero, suc, ◌<◌, ◌≡◌, List, [], ◌∷◌, ◌++◌, ◌⊎◌}
use Rattle.model.specs.declared.Chain.{Chain}
use Rattle.model.specs.Record.{factor_of, mode_of}

-- One name of factor i.
abbrev pub One : Chain → ℕ → List ℕ → Type 0
One m i u = (x : ℕ) × (u ≡ x ∷ []) × (factor_of m x ≡ i)

-- Any number of names, all of factor i.
abbrev pub Many : Chain → ℕ → List ℕ → Type 0
Many m i [] = Unit {0}
Many m i (x ∷ u) = (factor_of m x ≡ i) × Many m i u

-- A part for factor i, by its mode: "one name of the factor; that or nothing; one or more names of it; or any number of
-- them". By any other mode nothing is accepted; the check of the record (10) refuses such modes.
abbrev pub Part : ℕ → Chain → ℕ → List ℕ → Type 0
Part zero m i u = One m i u
Part (suc zero) m i u = (u ≡ []) ⊎ One m i u
Part (suc (suc zero)) m i u = Many m i u × (u ≡ [] → ⊥)
Part (suc (suc (suc zero))) m i u = Many m i u
Part (suc (suc (suc (suc f)))) m i u = ⊥

-- w is a joining of one part for each factor from i on, in order.
pub data Joined (m : Chain) : ℕ → List ℕ → Type 0 where
  none : {i : ℕ} {w : List ℕ} → i ≡ m.count → w ≡ [] → Joined m i w
  part : {i : ℕ} {w : List ℕ} (u v : List ℕ) → i < m.count → w ≡ u ++ v → Part (mode_of m i) m i u → Joined m (suc i) v → Joined m i w

-- m accepts the word w.
abbrev pub Accepts : Chain → List ℕ → Type 0
Accepts m w = Joined m 0 w

-- Every name of w is below n: a word over n names.
abbrev pub Names : ℕ → List ℕ → Type 0
Names n [] = Unit {0}
Names n (x ∷ w) = (x < n) × Names n w
