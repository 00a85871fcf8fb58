-- A means: what the functions of this crate promise of their results, by the members of the sets.
-- Assumes nothing.
use Rattle.std.specs.Prelude.{◌≡◌, ℕ, ◌<◌, ◌≤◌, Bool, true, false, not, ◌&&◌, ◌==◌}
use Rattle.nameset.specs.declared.NameSet.{NameSet}
use Rattle.nameset.specs.Set.{capacity, member, is_empty, first, rest, size}

-- The result r is the set s, and the name j is in it where `law j` is true.
pub record Made (r s : NameSet) (law : ℕ → Bool) : Type 0 where
  pub same : r ≡ s
  pub members : (j : ℕ) → member r j ≡ law j

-- The result r says whether s has no member.
pub record Emptiness (s : NameSet) (r : Bool) : Type 0 where
  pub same : r ≡ is_empty s
  pub none : r ≡ true → (j : ℕ) → member s j ≡ false
  pub all : ((j : ℕ) → j < capacity → member s j ≡ false) → r ≡ true

-- The result r is the smallest member of s, or the capacity where there is none.
pub record Smallest (s : NameSet) (r : ℕ) : Type 0 where
  pub same : r ≡ first s
  pub bound : r ≤ capacity
  pub least : (j : ℕ) → j < r → member s j ≡ false
  pub found : is_empty s ≡ false → (r < capacity) × (member s r ≡ true)

-- The result r is s without its smallest member, and has fewer members where s has any.
pub record Shrunk (s r : NameSet) : Type 0 where
  pub same : r ≡ rest s
  pub members : (j : ℕ) → member r j ≡ (member s j && not (first s == j))
  pub smaller : is_empty s ≡ false → size r < size s
