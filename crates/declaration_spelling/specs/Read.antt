-- A means: the number of a name by the book, and what a reader answers. `known_in` in proofs/Named.antt and
-- `name_number` in proofs/Names.antt say what the numbers are. To be believed is `declared`.
-- Assumes nothing.
use Rattle.std.specs.Prelude.{ℕ, Bool, List, Ok, Err, is_some}
use Rattle.std.specs.Option.{unwrap_or}
use Rattle.std.proofs.Math.Option.{Option, none, some}
use Rattle.refusal.specs.declared.Refusal.{Refusal}
use Rattle.refusal.specs.Answer.{Answer}
use Rattle.book.specs.Access.{number_in}
use Rattle.model.specs.declared.Model.{Model}
use Rattle.declaration_spelling.specs.declared.Declared.{Declared}

-- The book has the name.
unfoldable pub known : List (List ℕ) → List ℕ → Bool
known names w = is_some (number_in names w)

-- The number of a name that the book has.
unfoldable pub number_for : List (List ℕ) → List ℕ → ℕ
number_for names w = unwrap_or (number_in names w) 0

-- A declaration by numbers: its parent and its record.
abbrev pub declared : ℕ → Model → Declared
declared p m = record { parent = p; model = m }

abbrev pub or_refuse : {A : Type 0} → Refusal → Option A → Answer A
or_refuse r none = Err r
or_refuse r (some a) = Ok a
