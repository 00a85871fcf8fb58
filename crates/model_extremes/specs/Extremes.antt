-- A means: of the names of each factor of a record, the lowest and the highest in another record; `extremes_law` in
-- crates/model_extremes/proofs/Rows.antt says it of two chains. A record is given by its factor row.
-- Assumes nothing.
use Rattle.std.specs.Prelude.{ℕ, ◌≤◌, ◌<◌, ◌≡◌, List, ◌⊎◌, length, get_or}
use Rattle.nameset.specs.Places.{places}
use Rattle.model.specs.Record.{no_factor}
use Rattle.model_extremes.specs.declared.Extremes.{Extremes}

-- The number in the place of a name: there is none.
abbrev pub no_name : ℕ
no_name = 255

-- In the row of factors, a comes no later than b.
abbrev pub Lower : List ℕ → ℕ → ℕ → Type 0
Lower factors a b = get_or factors a no_factor ≤ get_or factors b no_factor

-- In the row of factors, a comes no earlier than b.
abbrev pub Higher : List ℕ → ℕ → ℕ → Type 0
Higher factors a b = get_or factors b no_factor ≤ get_or factors a no_factor

-- r is the name before, if there is one, or the name x, and R holds of r and each of them.
pub record Chosen (R : ℕ → ℕ → Type 0) (before x r : ℕ) : Type 0 where
  pub one : (r ≡ x) ⊎ ((r ≡ before) × (before ≡ no_name → ⊥))
  pub new : R r x
  pub old : (before ≡ no_name → ⊥) → R r before

-- For each factor that holds one of the first n names, the row has a name of that factor, and R holds of it and each of
-- the first n names that the factor holds.
pub record Best (R : ℕ → ℕ → Type 0) (factors : List ℕ) (n : ℕ) (row : List ℕ) : Type 0 where
  pub size : length row ≡ places
  pub own : (i : ℕ) → i < places → (get_or row i 0 ≡ no_name) ⊎ (get_or factors (get_or row i 0) no_factor ≡ i)
  pub some : (y : ℕ) → y < n → get_or factors y no_factor < places → get_or row (get_or factors y no_factor) 0 ≡ no_name → ⊥
  pub best : (y : ℕ) → y < n → get_or factors y no_factor < places → R (get_or row (get_or factors y no_factor) 0) y

-- The lowest and the highest name of each factor of the first record in the second.
pub record AreExtremes (n : ℕ) (first second : List ℕ) (r : Extremes) : Type 0 where
  pub lowest : Best (Lower second) first n r.low
  pub highest : Best (Higher second) first n r.high
