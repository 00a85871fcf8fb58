-- A means: `tables_made` in crates/chain/proofs/Stage.antt joins it to crates/chain_levels/specs/Reach.antt.
-- Assumes nothing.
-- A relation between names, kept as rows of words: row a keeps the set of the names that a is related to.
use Rattle.std.specs.Prelude.{ℕ, ◌<◌, ◌≡◌, Bool, true, List}
use Rattle.nameset.specs.Places.{places}
use Rattle.nameset.specs.Set.{member}
use Rattle.nameset.specs.Rows.{IsRows, row_at}
use Rattle.chain_levels.specs.Below.{any_below}

-- a is related to b.
unfoldable pub in_row : List ℕ → ℕ → ℕ → Bool
in_row rows a b = member (row_at rows a) b

-- The rows of `new` have the names that those of `old` have.
pub record Copied (old new : List ℕ) : Type 0 where
  pub size : IsRows places new
  pub law : (a b : ℕ) → in_row new a b ≡ in_row old a b

-- There is a row for each place, and only the first n names are related: no name from n on is in a row, and the rows
-- from n on are empty.
pub record OnlyNames (n : ℕ) (rows : List ℕ) : Type 0 where
  pub size : IsRows places rows
  pub below : (a b : ℕ) → in_row rows a b ≡ true → (a < n) × (b < n)

-- A name is related to what its related names are related to.
abbrev pub Transitive : List ℕ → Type 0
Transitive rows = (a b c : ℕ) → in_row rows a b ≡ true → in_row rows b c ≡ true → in_row rows a c ≡ true

-- b is in one of the first n rows.
unfoldable pub among_rows : ℕ → List ℕ → ℕ → Bool
among_rows n rows b = any_below n (λ a. in_row rows a b)
