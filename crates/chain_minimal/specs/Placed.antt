-- To be believed: paper 01, "The chain", as a statement about a record: its factors are those that the levels give.
-- Assumes nothing.
-- S are the steps between points (of words: `Fact words`).
use Rattle.std.specs.Prelude.{ℕ, ◌≤◌, ◌<◌, ◌≡◌, ◌⊎◌, ◌↔◌}
use Rattle.model.specs.declared.Chain.{Chain}
use Rattle.model.specs.Record.{factor_of, mode_of}
use Rattle.model_language.specs.Word.{Point, name}
use Rattle.model_language.specs.Reach.{Reach}
use Rattle.chain_levels.specs.Level.{Occurs, OneGroup, IsLevel, Skipped}

-- x is in a loop group: it reaches itself.
abbrev pub InLoop : (Point → Point → Type 0) → ℕ → Type 0
InLoop S x = Reach S x x

-- "A name that doesn't reach itself is a single. Names that occur in no word of this parent belong to neither."
abbrev pub Single : (Point → Point → Type 0) → ℕ → Type 0
Single S x = Occurs S x × (¬ InLoop S x)

-- a is the smallest number of the loop group of x.
pub record Smallest (S : Point → Point → Type 0) (x a : ℕ) : Type 0 where
  pub member : OneGroup S (name x) (name a)
  pub least : (y : ℕ) → OneGroup S (name x) (name y) → a ≤ y

-- x and y are on one level.
abbrev pub SameLevel : (Point → Point → Type 0) → ℕ → ℕ → Type 0
SameLevel S x y = (l : ℕ) × IsLevel S (name x) l × IsLevel S (name y) l

-- x is on a lower level than y.
abbrev pub LowerLevel : (Point → Point → Type 0) → ℕ → ℕ → Type 0
LowerLevel S x y = (i : ℕ) × (j : ℕ) × IsLevel S (name x) i × IsLevel S (name y) j × (i < j)

-- The smallest number of the loop group of x is below that of the loop group of y.
abbrev pub LowerGroup : (Point → Point → Type 0) → ℕ → ℕ → Type 0
LowerGroup S x y = (a : ℕ) × (b : ℕ) × Smallest S x a × Smallest S y b × (a < b)

-- x and y are in one factor: "the singles, if any, form one factor", "each loop group is a factor of its own".
abbrev pub Together : (Point → Point → Type 0) → ℕ → ℕ → Type 0
Together S x y = (Single S x × Single S y × SameLevel S x y) ⊎ OneGroup S (name x) (name y)

-- The factor of x comes before that of y: "Go through levels"; at each level the singles "stand first", then each loop
-- group is a factor "in order of its smallest number".
abbrev pub Earlier : (Point → Point → Type 0) → ℕ → ℕ → Type 0
Earlier S x y = LowerLevel S x y ⊎ (SameLevel S x y × ((Single S x × InLoop S y) ⊎ LowerGroup S x y))

-- "the level is not skipped and has just one factor": any two of its names are in one factor. `Placed` asks it of
-- levels that have a name.
pub record Fixed (S : Point → Point → Type 0) (l : ℕ) : Type 0 where
  pub kept : ¬ Skipped S l
  pub alone : (x y : ℕ) → IsLevel S (name x) l → IsLevel S (name y) l → Together S x y

-- The record m is the chain that the levels give.
pub record Placed (S : Point → Point → Type 0) (m : Chain) : Type 0 where
  -- the names that occur have a factor, and no others
  pub held : (x : ℕ) → (factor_of m x < m.count) ↔ Occurs S x
  -- two of them share a factor, or one comes before the other, as the levels say
  pub shared : (x y : ℕ) → Occurs S x → Occurs S y → (factor_of m x ≡ factor_of m y) ↔ Together S x y
  pub order : (x y : ℕ) → Occurs S x → Occurs S y → (factor_of m x < factor_of m y) ↔ Earlier S x y
  -- "If the level is not skipped and has just one factor, singles get mode 0 and a loop group mode 2."
  pub plain : (x l : ℕ) → IsLevel S (name x) l → Fixed S l → Single S x → mode_of m (factor_of m x) ≡ 0
  pub plus : (x l : ℕ) → IsLevel S (name x) l → Fixed S l → InLoop S x → mode_of m (factor_of m x) ≡ 2
  -- "Otherwise singles get mode 1 and loop groups mode 3."
  pub question : (x l : ℕ) → IsLevel S (name x) l → ¬ Fixed S l → Single S x → mode_of m (factor_of m x) ≡ 1
  pub star : (x l : ℕ) → IsLevel S (name x) l → ¬ Fixed S l → InLoop S x → mode_of m (factor_of m x) ≡ 3
