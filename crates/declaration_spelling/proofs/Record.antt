-- Factors by the numbers of their names, and the record that they give: what the proofs compare a reader's record with.
-- Assumes nothing.
use Prim.Native.Nat.{ℕ, zero, suc, ◌+◌}
use mathlib.Core.Bool.{Bool, true, cond, ◌&&◌}
use mathlib.Core.List.{List, [], ◌∷◌}
use lib.Dec.{eqb, leb}
use lib.ListN.{length}
use Rattle.model.specs.declared.Chain.{Chain}
use Rattle.model.specs.Record.{no_factor}
use Rattle.declaration_spelling.specs.House.{Factor}
use Rattle.declaration_spelling.specs.Spelled.{times}
use Rattle.declaration_spelling.specs.Stops.{Form}
use Rattle.declaration_spelling.specs.Read.{number_for}

-- the numbers of a list's names
unfoldable pub numbers_for : List (List ℕ) → List (List ℕ) → List ℕ
numbers_for names [] = []
numbers_for names (x ∷ xs) = number_for names x ∷ numbers_for names xs

-- factors by their names' numbers
unfoldable pub numbered : List (List ℕ) → List (Factor (List ℕ)) → List (Factor ℕ)
numbered names [] = []
numbered names (f ∷ fs) = record { names = numbers_for names f.names; mode = f.mode } ∷ numbered names fs

-- ---- a test over names

-- every name of a list, of the factors, of the declaration passes the test
unfoldable pub all_names : (List ℕ → Bool) → List (List ℕ) → Bool
all_names test [] = true
all_names test (x ∷ xs) = test x && all_names test xs

unfoldable pub all_factors : (List ℕ → Bool) → List (Factor (List ℕ)) → Bool
all_factors test [] = true
all_factors test (f ∷ fs) = all_names test f.names && all_factors test fs

unfoldable pub all_form : (List ℕ → Bool) → Form → Bool
all_form test d = test d.parent && all_factors test d.factors

-- ---- repeats

-- how often x stands in the model
unfoldable pub total : ℕ → List (Factor ℕ) → ℕ
total x [] = 0
total x (f ∷ fs) = times x f.names + total x fs

-- no number below n stands in the model twice
unfoldable pub none_twice : ℕ → List (Factor ℕ) → Bool
none_twice zero fs = true
none_twice (suc n) fs = leb (total n fs) 1 && none_twice n fs

-- ---- the record

-- the n values of f from i on
unfoldable pub values_from : ℕ → ℕ → (ℕ → ℕ) → List ℕ
values_from i zero f = []
values_from i (suc n) f = f i ∷ values_from (suc i) n f

-- the first factor, counted from i on, that has x
unfoldable pub place_from : ℕ → List (Factor ℕ) → ℕ → ℕ
place_from i [] x = no_factor
place_from i (f ∷ fs) x = cond (eqb (times x f.names) 0) (place_from (suc i) fs x) i

-- the mode of factor i, 0 where there is none
unfoldable pub mode_at : List (Factor ℕ) → ℕ → ℕ
mode_at [] i = 0
mode_at (f ∷ fs) zero = f.mode
mode_at (f ∷ fs) (suc i) = mode_at fs i

-- the record with these factors, in `size` places
abbrev pub record_of : ℕ → List (Factor ℕ) → Chain
record_of size fs = record { count = length fs; factor = values_from 0 size (place_from 0 fs); mode = values_from 0 size (mode_at fs) }
