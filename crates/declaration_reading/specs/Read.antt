-- A means: what the call that reads a declaration answers: 1 to 7, 16, 17, then 13, 14, 15, in this order, else the
-- parent and the record. `read_refusals` and `read_exactly` in crates/demands/proofs/Demands.antt say what that is. To be
-- believed is `Reads`.
-- Assumes nothing.
use Rattle.std.specs.Prelude.{ℕ, ◌≡◌, List, Ok}
use Rattle.refusal.specs.Answer.{Answer, onward}
use Rattle.nameset.specs.Places.{places}
use Rattle.book.specs.Taken.{taken_book}
use Rattle.model.specs.declared.Model.{Model}
use Rattle.declaration_spelling.specs.declared.Declared.{Declared}
use Rattle.declaration_spelling.specs.Read.{declared}
use Rattle.declaration_walk.specs.Gather.{text_answer}

-- The answer for any bytes as the book and any text.
unfoldable pub read_answer : List ℕ → List ℕ → Answer Declared
read_answer bytes text = onward (taken_book bytes) (λ b. text_answer places b.names text)

-- The call was not refused, and this is the parent and the record that it answered.
abbrev pub Reads : Answer Declared → ℕ → Model → Type 0
Reads r p m = r ≡ Ok (declared p m)

-- The whole promise of the call that reads a declaration.
abbrev pub ReadsDeclaration : List ℕ → List ℕ → Answer Declared → Type 0
ReadsDeclaration bytes text r = r ≡ read_answer bytes text
