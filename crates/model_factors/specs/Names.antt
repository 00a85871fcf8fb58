-- A means: the names of a factor as a set, and the sets of all factors as rows of words; `names_of_set` in
-- crates/declaration_factor/proofs/Rising.antt joins the set to the names of the factor.
-- Assumes nothing.
use Rattle.std.specs.Prelude.{ℕ, ◌<◌, ◌≡◌, ◌&&◌, List, eqb, ltb}
use Rattle.nameset.specs.Places.{places}
use Rattle.nameset.specs.declared.NameSet.{NameSet}
use Rattle.nameset.specs.Set.{member}
use Rattle.nameset.specs.Rows.{IsRows, row_at}
use Rattle.model.specs.declared.Chain.{Chain}
use Rattle.model.specs.Record.{factor_of}

-- The set has those of the first n names that factor i holds, and no others.
pub record NamesOf (m : Chain) (n i : ℕ) (s : NameSet) : Type 0 where
  pub law : (x : ℕ) → member s x ≡ (ltb x n && eqb (factor_of m x) i)

-- For each place i, the row i has the names of factor i.
pub record RowsOf (m : Chain) (n : ℕ) (rows : List ℕ) : Type 0 where
  pub size : IsRows places rows
  pub row : (i : ℕ) → i < places → NamesOf m n i (row_at rows i)
