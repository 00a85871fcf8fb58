-- A means: the steps of a record; `accepts_steps` in crates/model_language/proofs/Theorem.antt joins them to `Accepts`.
-- Assumes nothing.
use Rattle.std.specs.Prelude.{ℕ, zero, suc, ◌≤◌, ◌<◌, ◌≡◌, Bool, true, false, ◌⊎◌}
use Rattle.model.specs.declared.Chain.{Chain}
use Rattle.model.specs.Record.{factor_of, mode_of}
use Rattle.model_language.specs.Word.{Point, start, name, end}

-- Modes that let a factor have no name: 1 and 3.
unfoldable pub optional : ℕ → Bool
optional zero = false
optional (suc zero) = true
optional (suc (suc zero)) = false
optional (suc (suc (suc zero))) = true
optional (suc (suc (suc (suc f)))) = false

-- Modes that let a factor have more than one name: 2 and 3.
unfoldable pub repeats : ℕ → Bool
repeats zero = false
repeats (suc zero) = false
repeats (suc (suc zero)) = true
repeats (suc (suc (suc zero))) = true
repeats (suc (suc (suc (suc f)))) = false

-- The place of a point: 0 for the start, i + 1 for a name of factor i, F + 1 for the end.
abbrev pub place : Chain → Point → ℕ
place m start = 0
place m (name x) = suc (factor_of m x)
place m end = suc m.count

-- The point is the start, the end, or a name that a factor holds.
abbrev pub Held : Chain → Point → Type 0
Held m start = Unit {0}
Held m (name x) = factor_of m x < m.count
Held m end = Unit {0}

-- v lies behind u, and every factor strictly between them is optional.
pub record Over (m : Chain) (u v : Point) : Type 0 where
  pub rises : place m u < place m v
  pub free : (i : ℕ) → place m u ≤ i → suc i < place m v → optional (mode_of m i) ≡ true

-- u and v lie in one factor, and it repeats.
pub record Repeat (m : Chain) (u v : Point) : Type 0 where
  pub factor : ℕ
  pub one : factor < m.count
  pub left : place m u ≡ suc factor
  pub right : place m v ≡ suc factor
  pub loop : repeats (mode_of m factor) ≡ true

-- The step from u to v is a fact of the record.
pub record Step (m : Chain) (u v : Point) : Type 0 where
  pub leaves : Held m u
  pub meets : Held m v
  pub way : Over m u v ⊎ Repeat m u v

-- Every step of m is a step of k.
abbrev pub Includes : Chain → Chain → Type 0
Includes m k = (u v : Point) → Step m u v → Step k u v

-- x stands in an earlier factor than y, or in the same one and it repeats.
abbrev pub Ahead : Chain → ℕ → ℕ → Type 0
Ahead m x y = (factor_of m x < factor_of m y) ⊎ ((factor_of m x ≡ factor_of m y) × (repeats (mode_of m (factor_of m x)) ≡ true))
