-- The table of states has the number of each step.
-- Assumes nothing.
use Prim.Native.Nat.{ℕ, zero, suc, ◌+◌, ◌*◌, ◌≤◌, ◌<◌}
use mathlib.Core.Path.{◌≡◌, refl, ◌∙◌, ap}
use mathlib.Core.List.{List, [], ◌∷◌, ◌++◌, map}
use native.Mathlib.Omega.{arith}
use native.Mathlib.Nat.{le_of_suc-le-suc, zero-add}
use lib.ListN.{length, get_or, get_or-map}
use Rattle.declaration_spelling.proofs.Record.{values_from}
use Rattle.declaration_spelling.proofs.Numbers.{values_from_lem}
use Rattle.declaration_spelling.specs.Kind.{star_kind}
use Rattle.declaration_walk.specs.Walk.{State, nowhere, last_state, states, state_of, step, number_of}
use Rattle.declaration_walk.proofs.States.{state_number}
use Rattle.declaration_states.specs.Table.{kinds, row_of, rows_of, table}

in_front : (l r : List ℕ) (k c d : ℕ) → k < length l → get_or (l ++ r) k c ≡ get_or l k d
in_front [] r k c d h = absurd (omega arith)
in_front (x ∷ l) r zero c d h = refl
in_front (x ∷ l) r (suc k) c d h = in_front l r k c d (le_of_suc-le-suc h)

behind : (l r : List ℕ) (k d : ℕ) → get_or (l ++ r) (length l + k) d ≡ get_or r k d
behind [] r k d = ap (λ (j : ℕ). get_or r j d) (zero-add k)
behind (x ∷ l) r k d = let e : suc (length l) + k ≡ suc (length l + k) = omega arith in ap (λ (j : ℕ). get_or (x ∷ (l ++ r)) j d) e ∙ behind l r k d

kind_at : (k : ℕ) → k ≤ star_kind → get_or kinds k 0 ≡ k
unfolding kinds values_from
kind_at k h = values_from_lem 0 12 k (λ j. j) 0 (omega arith) ∙ zero-add k

in_row : (s : State) (k : ℕ) (l : List ℕ) → k ≤ star_kind → get_or (row_of s ++ l) k 0 ≡ number_of (step s k)
unfolding row_of kinds
in_row s k l h =
    let f : ℕ → ℕ = λ kind. number_of (step s kind) in
    in_front (map f kinds) l k 0 (f 0) (omega arith) ∙ get_or-map f kinds k 0 ∙ ap f (kind_at k h)

behind_row : (s : State) (k : ℕ) (l : List ℕ) → get_or (row_of s ++ l) (12 + k) 0 ≡ get_or l k 0
unfolding row_of kinds
behind_row s k l = behind (map (λ kind. number_of (step s kind)) kinds) l k 0

rows_at : (ss : List State) (i k : ℕ) → i < length ss → k ≤ star_kind → get_or (rows_of ss) (12 * i + k) 0 ≡ number_of (step (get_or ss i nowhere) k)
unfolding rows_of
rows_at [] i k l h = absurd (omega arith)
rows_at (s ∷ ss) zero k l h = let e : 12 * 0 + k ≡ k = omega arith in ap (λ (j : ℕ). get_or (row_of s ++ rows_of ss) j 0) e ∙ in_row s k (rows_of ss) h
rows_at (s ∷ ss) (suc i) k l h =
    let e : 12 * suc i + k ≡ 12 + (12 * i + k) = omega arith in
    ap (λ (j : ℕ). get_or (row_of s ++ rows_of ss) j 0) e ∙ behind_row s (12 * i + k) (rows_of ss) ∙ rows_at ss i k (le_of_suc-le-suc l) h

pub table_at : (state kind : ℕ) → state ≤ last_state → kind ≤ star_kind → get_or table (12 * state + kind) 0 ≡ number_of (step (state_of state) kind)
unfolding table state_of states
table_at state kind h k = rows_at states state kind (omega arith) k

-- an entry of the table is the number of a state, the one that the step leads to
pub entry : (states : List ℕ) (state kind : ℕ) → states ≡ table → state ≤ last_state → kind ≤ star_kind →
    (state_of (get_or states (12 * state + kind) 0) ≡ step (state_of state) kind) × (get_or states (12 * state + kind) 0 ≤ last_state)
entry states state kind e h k =
    let q = ap (λ (l : List ℕ). get_or l (12 * state + kind) 0) e ∙ table_at state kind h k in
    let s = state_number (step (state_of state) kind) in
    (ap state_of q ∙ s.0, omega (arith, s.1))
