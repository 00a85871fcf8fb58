-- To be believed: paper 01, "Loop groups" and "Levels", for any steps S between points (of words: `Fact words`).
-- Assumes nothing.
use Rattle.std.specs.Prelude.{ℕ, suc, ◌≤◌, ◌<◌}
use Rattle.model_language.specs.Word.{Point, start, name, end}
use Rattle.model_language.specs.Reach.{Reach}

-- x occurs: some step leads to it. (So exactly when it is in a word: `occurs_word` in proofs/Theorem.antt.)
abbrev pub Occurs : (Point → Point → Type 0) → ℕ → Type 0
Occurs S x = (u : Point) × S u (name x)

-- u and v are names of one loop group: "each reaches each, itself included".
abbrev pub OneGroup : (Point → Point → Type 0) → Point → Point → Type 0
OneGroup S start v = ⊥
OneGroup S (name x) start = ⊥
OneGroup S (name x) (name y) = Reach S x y × Reach S y x
OneGroup S (name x) end = ⊥
OneGroup S end v = ⊥

-- k steps lead from start to the point of v: "Take each loop group as one point and drop the steps inside it."
-- Within a loop group one moves freely, and such a move is no step.
pub data Climb (S : Point → Point → Type 0) : ℕ → Point → Type 0 where
  begin : Climb S 0 start
  go : {k : ℕ} {u v : Point} → Climb S k u → S u v → (OneGroup S u v → ⊥) → Climb S (suc k) v
  move : {k : ℕ} {u v : Point} → Climb S k u → OneGroup S u v → Climb S k v

-- "The level of a point is the largest number of steps from start to it."
pub record IsLevel (S : Point → Point → Type 0) (v : Point) (l : ℕ) : Type 0 where
  pub reached : Climb S l v
  pub largest : (k : ℕ) → Climb S k v → k ≤ l

-- "A level is skipped if some step, those from start and to the end included, goes from a lower to a higher level."
abbrev pub Skipped : (Point → Point → Type 0) → ℕ → Type 0
Skipped S l = (u : Point) × (v : Point) × (i : ℕ) × (j : ℕ) × S u v × IsLevel S u i × IsLevel S v j × (i < l) × (l < j)
