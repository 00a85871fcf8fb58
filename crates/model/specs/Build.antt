-- A means, but for `of_rows`: a record under construction, to which factors are appended one after the other. The chain
-- of the levels is built so; `is_placed` in crates/chain_minimal/proofs/Demand.antt says which record that is. To be
-- believed is `of_rows`, by which a table of models (U7) has its records.
-- Assumes nothing.
use Rattle.std.specs.Prelude.{ℕ, suc, ◌+◌, Bool, cond, List, [], ◌∷◌, set}
use Rattle.model.specs.declared.Chain.{Chain}

-- The record of its parts: the number of factors, the factor row and the mode row. Code that runs on borrowed rows
-- promises what the definitions say of this record.
abbrev pub of_rows : ℕ → List ℕ → List ℕ → Chain
of_rows count factors modes = record { count = count; factor = factors; mode = modes }

-- The entries from place x on, with v for each name that the factor holds.
unfoldable pub entries_with : (ℕ → Bool) → ℕ → ℕ → List ℕ → List ℕ
entries_with holds v x [] = []
entries_with holds v x (e ∷ es) = cond (holds x) v e ∷ entries_with holds v (suc x) es

-- One factor more, behind the others.
unfoldable pub with_factor : Chain → (ℕ → Bool) → ℕ → Chain
with_factor m holds mode =
    record { count = m.count + 1; factor = entries_with holds m.count 0 m.factor; mode = set m.mode m.count mode }
