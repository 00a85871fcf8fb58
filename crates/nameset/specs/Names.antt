-- A means: what a loop over the members of a set is given at each turn: the smallest member, and then the others.
-- Assumes nothing.
use Rattle.std.specs.Prelude.{◌≡◌, ℕ, true, false, Option, Some, None}
use Rattle.nameset.specs.declared.NameSet.{NameSet}
use Rattle.nameset.specs.Set.{is_empty}
use Rattle.nameset.specs.Promise.{Smallest, Shrunk}

-- Of the members s the smallest, k, is given, and t are the others.
pub record Given (s : NameSet) (k : ℕ) (t : NameSet) : Type 0 where
  pub some : is_empty s ≡ false
  pub least : Smallest s k
  pub others : Shrunk s t

-- There is no member, and nothing changes.
pub record Ended (s t : NameSet) : Type 0 where
  pub none : is_empty s ≡ true
  pub same : t ≡ s

-- A turn: from the members s to the members t that are left.
abbrev pub Steps : NameSet → Option ℕ → NameSet → Type 0
Steps s (Some k) t = Given s k t
Steps s None t = Ended s t
