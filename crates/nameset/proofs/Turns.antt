-- A loop over the members of a set, `for k in s.names()`: the name of a turn is the smallest member, the next turn has
-- the others, and after the last turn none is left.
-- Assumes nothing.
use Rattle.std.proofs.Common.{◌≡◌, ℕ, ◌<◌, true, false, not, ◌&&◌, eqb, sym, ap, ◌∙◌}
use Rattle.nameset.specs.declared.NameSet.{NameSet}
use Rattle.nameset.specs.Set.{capacity, member, size}
use Rattle.nameset.specs.Names.{Given, Ended}
use Rattle.nameset.proofs.Laws.{is_empty_none}

module _ {s t : NameSet} {k : ℕ} (g : Given s k t) where
  pub given_member : (k < capacity) × (member s k ≡ true)
  given_member = g.least.found g.some

  pub given_least : (j : ℕ) → j < k → member s j ≡ false
  given_least = g.least.least

  pub given_rest : (j : ℕ) → member t j ≡ (member s j && not (eqb k j))
  given_rest j = g.others.members j ∙ ap (λ (i : ℕ). member s j && not (eqb i j)) (sym g.least.same)

  pub given_fewer : size t < size s
  given_fewer = g.others.smaller g.some

pub none_left : {s t : NameSet} → Ended s t → (j : ℕ) → member s j ≡ false
none_left {s} e = is_empty_none s e.none
