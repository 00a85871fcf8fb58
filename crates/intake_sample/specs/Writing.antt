-- A means: what the call answers that writes the declaration of a parent with the model that its sample gives.
-- `sample_refusals`, `sample_kept` and `sample_done` in crates/demands/proofs/Demands.antt say what that is.
-- Assumes nothing.
use Rattle.std.specs.Prelude.{ℕ, List, length}
use Rattle.refusal.specs.Answer.{Answer, onward}
use Rattle.book.specs.Taken.{taken_book}
use Rattle.declaration_spelling.specs.House.{declaration}
use Rattle.declaration_writing.specs.Write.{fitted, Writes}
use Rattle.intake_sample.specs.Inference.{model_in}

-- The text that is due for any bytes as the book, any parent and a buffer of so many bytes: 1 to 7, 16, 17, then 8,
-- then 9, then 12, else the declaration.
unfoldable pub sample_text : List ℕ → ℕ → ℕ → Answer (List ℕ)
sample_text bytes parent room = onward (taken_book bytes) (λ b. onward (model_in b parent) (λ m. fitted room (declaration b.names parent m)))

-- The whole promise of the call: its answer w, and what the buffer, which held `before`, then holds.
abbrev pub WritesSample : List ℕ → ℕ → Answer ℕ → List ℕ → List ℕ → Type 0
WritesSample bytes parent w before after = Writes (sample_text bytes parent (length before)) w before after
