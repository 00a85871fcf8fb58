-- A means: `tables_made` in crates/chain/proofs/Stage.antt joins it to crates/chain_levels/specs/Reach.antt.
-- Assumes nothing.
-- Loop groups by two tables: the rows of `reach` have what each name reaches, and those of `behind` the names among
-- these that do not reach it.
use Rattle.std.specs.Prelude.{ℕ, ◌≡◌, Bool, cond, ◌&&◌, not, List}
use Rattle.nameset.specs.declared.NameSet.{NameSet}
use Rattle.nameset.specs.Places.{places}
use Rattle.nameset.specs.Set.{member, minus}
use Rattle.nameset.specs.Rows.{IsRows, row_at}
use Rattle.chain_levels.specs.Below.{any_below}
use Rattle.chain_rows.specs.Rows.{in_row}

-- The names that a reaches and that do not stand behind it: its loop group.
unfoldable pub group_in : List ℕ → List ℕ → ℕ → NameSet
group_in reach behind a = minus (row_at reach a) (row_at behind a)

-- b is in the loop group of a.
unfoldable pub holds_in : List ℕ → List ℕ → ℕ → ℕ → Bool
holds_in reach behind a b = member (group_in reach behind a) b

-- a reaches b, and b reaches a.
unfoldable pub together : List ℕ → ℕ → ℕ → Bool
together reach a b = in_row reach a b && in_row reach b a

-- a reaches b, and b does not reach a.
unfoldable pub leads_away : List ℕ → ℕ → ℕ → Bool
leads_away reach a b = in_row reach a b && not (in_row reach b a)

-- a reaches itself, and no smaller name reaches a and is reached by it: a is the smallest name of a loop group.
unfoldable pub smallest : List ℕ → ℕ → Bool
smallest reach a = in_row reach a a && not (any_below a (together reach a))

-- `new` has the set s in the rows of a group, and the rows of `old` elsewhere.
pub record PutEach (old new : List ℕ) (group s : NameSet) : Type 0 where
  pub size : IsRows places new
  pub law : (a b : ℕ) → in_row new a b ≡ cond (member group a) (member s b) (in_row old a b)

-- The loop groups: what stands behind each name, the names in groups, and the smallest name of each group.
pub record Grouped (reach behind : List ℕ) (names leaders : NameSet) : Type 0 where
  pub size : IsRows places behind
  pub away : (a b : ℕ) → in_row behind a b ≡ leads_away reach a b
  pub own : (a : ℕ) → member names a ≡ in_row reach a a
  pub lead : (a : ℕ) → member leaders a ≡ smallest reach a
