-- A means: the facts that a struct holds; `facts_shown` in crates/follow/proofs/Laws.antt joins them to `follow_of`.
-- Assumes nothing.
use Rattle.std.specs.Prelude.{ℕ, Bool, List}
use Rattle.nameset.specs.declared.NameSet.{NameSet}
use Rattle.nameset.specs.Set.{member}
use Rattle.nameset.specs.Rows.{row_at}
use Rattle.follow.specs.declared.Facts.{Facts}
use Rattle.follow.specs.Follow.{Follow}

-- The facts over n names that a struct holds.
abbrev pub view_of : ℕ → Facts → Follow
view_of n facts =
    record {
      names = n;
      starts = member facts.starts;
      ends = member facts.ends;
      follows = λ a b. member (row_at facts.follows a) b;
      empty = facts.empty;
    }

-- The struct with these names that start and that end, these follow rows, and whether there is an empty word.
abbrev pub facts_with : NameSet → NameSet → List ℕ → Bool → Facts
facts_with starts ends follows empty = record { starts = starts; ends = ends; follows = follows; empty = empty }
