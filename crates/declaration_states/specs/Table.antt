-- A means: the steps of crate `declaration_walk` by numbers: a table with a row for each state and a column for each
-- kind of token. The code's table is this one, computed; `table_at` in proofs/Table.antt joins it to the steps.
-- Assumes nothing.
use Rattle.std.specs.Prelude.{ℕ, List, [], ◌∷◌, ◌++◌, map}
use Rattle.declaration_spelling.specs.Kind.{other_kind, word_kind, empty_kind, pcdata_kind, lpar_kind, rpar_kind, comma_kind, bar_kind, end_kind, question_kind, plus_kind, star_kind}
use Rattle.declaration_walk.specs.Walk.{State, states, step, number_of}

-- The kinds by their numbers.
unfoldable pub kinds : List ℕ
kinds =
    other_kind ∷ word_kind ∷ empty_kind ∷ pcdata_kind ∷ lpar_kind ∷ rpar_kind ∷ comma_kind ∷ bar_kind ∷ end_kind ∷ question_kind ∷ plus_kind ∷ star_kind ∷ []

-- The numbers of the states behind a token of each kind.
unfoldable pub row_of : State → List ℕ
row_of state = map (λ kind. number_of (step state kind)) kinds

unfoldable pub rows_of : List State → List ℕ
rows_of [] = []
rows_of (s ∷ ss) = row_of s ++ rows_of ss

unfoldable pub table : List ℕ
table = rows_of states
