-- To be believed: paper 01, "Follow facts", as the steps between points that a word and a list of words show.
-- Assumes nothing.
-- `shows_law` in crates/model_language/proofs/Shows.antt states the steps of a word in the paper's own terms.
use Rattle.std.specs.Prelude.{ℕ, ◌≡◌, List, [], ◌∷◌, ◌⊎◌}
use Rattle.model.specs.declared.Chain.{Chain}
use Rattle.model.specs.Accept.{Accepts}

-- The start of a word, a name, the end of a word.
pub data Point : Type 0 where
  start : Point
  name : ℕ → Point
  end : Point

-- v comes next after u on the way from p over the names of w to the end.
abbrev pub Beside : Point → List ℕ → Point → Point → Type 0
Beside p [] u v = (p ≡ u) × (end ≡ v)
Beside p (x ∷ w) u v = ((p ≡ u) × (name x ≡ v)) ⊎ Beside (name x) w u v

-- The word w shows the step from u to v.
abbrev pub Shows : List ℕ → Point → Point → Type 0
Shows w u v = Beside start w u v

-- The step from u to v is a fact of the words: one of them shows it.
abbrev pub Fact : List (List ℕ) → Point → Point → Type 0
Fact [] u v = ⊥
Fact (w ∷ ws) u v = Shows w u v ⊎ Fact ws u v

-- m accepts every one of the words.
abbrev pub AcceptsAll : Chain → List (List ℕ) → Type 0
AcceptsAll m [] = Unit {0}
AcceptsAll m (w ∷ ws) = Accepts m w × AcceptsAll m ws
