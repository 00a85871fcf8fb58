-- A means: a word that has a given step of a record: before the step and behind it one name of each factor that may not
-- be left out. `over_accepted` and `over_shows` in crates/model_inclusion/proofs/Over.antt say that the record accepts
-- it, and that it has the step. `rep i` is a name of factor i.
-- Assumes nothing.
use Rattle.std.specs.Prelude.{ℕ, zero, suc, ◌-◌, cond, List, [], ◌∷◌, ◌++◌, get_or}
use Rattle.model.specs.declared.Chain.{Chain}
use Rattle.model.specs.Record.{factor_of}
use Rattle.model_language.specs.Word.{Point, start, name, end}
use Rattle.model_language.specs.Step.{optional}

-- Of the k factors from factor i on, a name of each that may not be left out.
unfoldable pub needed : List ℕ → (ℕ → ℕ) → ℕ → ℕ → List ℕ
needed modes rep i zero = []
needed modes rep i (suc k) = cond (optional (get_or modes i 0)) (needed modes rep (suc i) k) (rep i ∷ needed modes rep (suc i) k)

-- The names up to the point that the step leaves, its own included.
abbrev pub lead : Chain → (ℕ → ℕ) → Point → List ℕ
lead m rep start = []
lead m rep (name x) = needed m.mode rep 0 (factor_of m x) ++ (x ∷ [])
lead m rep end = []

-- The names from the point on that the step leads to.
abbrev pub tail : Chain → (ℕ → ℕ) → Point → List ℕ
tail m rep start = []
tail m rep (name y) = y ∷ needed m.mode rep (suc (factor_of m y)) (m.count - suc (factor_of m y))
tail m rep end = []

-- The word over the step from u to v.
unfoldable pub word_over : Chain → (ℕ → ℕ) → Point → Point → List ℕ
word_over m rep u v = lead m rep u ++ tail m rep v
