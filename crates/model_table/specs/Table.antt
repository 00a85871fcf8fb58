-- To be believed: a table of models as bytes (paper 02, U7: "With a model for some of the N names"). It has one row for
-- each name, in rising number. A row has a byte that is 0 where the name has no model, the count F, the text byte, the
-- factor of each place and the mode of each factor: 131 bytes at 64 places.
-- Assumes nothing.
use Rattle.std.specs.Prelude.{ℕ, ◌+◌, ◌*◌, Bool, true, false, cond, List, [], ◌∷◌, ◌++◌, eqb, leb, length, get_or, take, drop, replicate, Option, Some, None}
use Rattle.nameset.specs.Places.{places}
use Rattle.model.specs.declared.Model.{Model}
use Rattle.model.specs.Record.{model_with}
use Rattle.model.specs.Build.{of_rows}

-- What a table tells of a name: it has no model, or it has this one.
abbrev pub Entry : Type 0
Entry = Option Model

-- Where the factors and the modes of a row begin, and how many bytes it has.
abbrev pub factors_at : ℕ
factors_at = 3

abbrev pub modes_at : ℕ
modes_at = factors_at + places

abbrev pub row_size : ℕ
row_size = modes_at + places

-- The row of the name x. It has no bytes where the table is too short for the whole row.
unfoldable pub row_of : List ℕ → ℕ → List ℕ
row_of table x = cond (leb (x * row_size + row_size) (length table)) (take row_size (drop (x * row_size) table)) []

-- The row has no model: its first byte is 0, or it has no bytes.
unfoldable pub is_absent : List ℕ → Bool
is_absent row = eqb (get_or row 0 0) 0

-- The record that a row has.
unfoldable pub model_in : List ℕ → Model
model_in row = model_with (of_rows (get_or row 1 0) (take places (drop factors_at row)) (drop modes_at row)) (get_or row 2 0)

unfoldable pub entry_in : Bool → List ℕ → Entry
entry_in true row = None
entry_in false row = Some (model_in row)

-- What the table tells of the name x. Whether the record is a model over the names is not looked at here.
unfoldable pub entry_of : List ℕ → ℕ → Entry
entry_of table x = entry_in (is_absent (row_of table x)) (row_of table x)

-- The row that is written for a model, and the one for a name without a model.
unfoldable pub model_row : Model → List ℕ
model_row m = 1 ∷ m.chain.count ∷ m.text ∷ (m.chain.factor ++ m.chain.mode)

unfoldable pub empty_row : List ℕ
empty_row = replicate row_size 0
