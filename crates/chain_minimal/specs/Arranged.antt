-- A means: `placed_law` in crates/chain_minimal/proofs/Specified.antt joins it to Placed.antt.
-- Assumes nothing.
-- The chain that the levels give, as a statement about a record, by executable levels.
use Rattle.std.specs.Prelude.{ℕ, suc, ◌<◌, ◌≡◌, true, cond, ◌⊎◌, ◌↔◌}
use Rattle.model.specs.declared.Chain.{Chain}
use Rattle.model.specs.Record.{factor_of, mode_of}
use Rattle.follow.specs.Follow.{Follow}
use Rattle.chain_levels.specs.Below.{first_below}
use Rattle.chain_levels.specs.Reach.{same_group, loops, occurs}
use Rattle.chain_levels.specs.Rank.{level_of}
use Rattle.chain_levels.specs.Chain.{fixed, singles_mode, group_mode}

-- On its level, 0 for a single, and one more than the smallest number of its loop group for a name of one.
unfoldable pub group_no : Follow → ℕ → ℕ
group_no f x = cond (loops f x) (suc (first_below f.names (same_group f x))) 0

-- The factor of x stands before that of y: by level, on a level the singles first, then the loop groups by number.
abbrev pub SortsBefore : Follow → ℕ → ℕ → Type 0
SortsBefore f x y = (level_of f x < level_of f y) ⊎ ((level_of f x ≡ level_of f y) × (group_no f x < group_no f y))

-- x and y share a factor: two singles of one level, or two names of one loop group.
abbrev pub SortsWith : Follow → ℕ → ℕ → Type 0
SortsWith f x y = (level_of f x ≡ level_of f y) × (group_no f x ≡ group_no f y)

-- The mode of the factor of x.
unfoldable pub mode_for : Follow → ℕ → ℕ
mode_for f x = cond (loops f x) (group_mode (fixed f (level_of f x))) (singles_mode (fixed f (level_of f x)))

-- The record is the chain that the levels give.
pub record Arranged (f : Follow) (m : Chain) : Type 0 where
  -- the names that occur have a factor, and no others
  pub held : (x : ℕ) → (factor_of m x < m.count) ↔ (occurs f x ≡ true)
  -- the factors stand in the levels' order
  pub order : (x y : ℕ) → occurs f x ≡ true → occurs f y ≡ true → (factor_of m x < factor_of m y) ↔ SortsBefore f x y
  -- a factor holds the singles of one level, or one loop group
  pub shared : (x y : ℕ) → occurs f x ≡ true → occurs f y ≡ true → (factor_of m x ≡ factor_of m y) ↔ SortsWith f x y
  -- modes are as the level is fixed or not
  pub modes : (x : ℕ) → occurs f x ≡ true → mode_of m (factor_of m x) ≡ mode_for f x
