-- A means: what the call that writes a declaration answers: 1 to 7, 16, 17, 8, 10, 12, in this order, else the
-- declaration. `write_refusals`, `write_kept` and `write_done` in crates/demands/proofs/Demands.antt say what that is.
-- To be believed is `length_due`.
-- Assumes nothing.
use Rattle.std.specs.Prelude.{ℕ, ◌≡◌, not, List, [], ltb, length, Ok, Err}
use Rattle.refusal.specs.declared.Refusal.TheVariants.{BadParent, NotAModel, BufferTooShort}
use Rattle.refusal.specs.Table.{stopped_by}
use Rattle.refusal.specs.Answer.{Answer, onward, refuse_if, value_or}
use Rattle.nameset.specs.Places.{places}
use Rattle.book.specs.Book.{Book}
use Rattle.book.specs.Taken.{taken_book, bad_parent}
use Rattle.model.specs.declared.Model.{Model}
use Rattle.model.specs.Check.{is_model}
use Rattle.declaration_spelling.specs.House.{declaration}
use Rattle.byte_buffer.specs.Put.{wrote}

-- "12: shorter than the declaration", or than the whole DTD or the rows of a table, for a buffer of so many bytes.
unfoldable pub fitted : ℕ → List ℕ → Answer (List ℕ)
fitted room text = refuse_if (ltb room (length text)) BufferTooShort (Ok text)

-- 8, then "10: no chain over N names", or "a text record of any other shape", then 12, else the declaration.
unfoldable pub write_in : Book → ℕ → Model → ℕ → Answer (List ℕ)
write_in b parent m room =
    refuse_if (bad_parent b parent) BadParent
    (refuse_if (not (is_model places (length b.names) m)) NotAModel
    (fitted room (declaration b.names parent m)))

-- The text that is due for any bytes as the book, any parent, any record, and a buffer of so many bytes: 1 to 7, 16,
-- 17, then those.
unfoldable pub write_answer : List ℕ → ℕ → Model → ℕ → Answer (List ℕ)
write_answer bytes parent m room = onward (taken_book bytes) (λ b. write_in b parent m room)

-- How the call ends: with the text's length, or refused.
unfoldable pub written : Answer (List ℕ) → Answer ℕ
written (Ok text) = Ok (length text)
written (Err r) = Err r

-- The length beside the number of an answer; "a length or parent number due is 0".
abbrev pub length_due : Answer ℕ → ℕ
length_due (Ok n) = n
length_due (Err r) = (stopped_by r).length

-- The buffer then: the text stands at its start and all other bytes keep their values; a refused call leaves every
-- byte.
unfoldable pub buffer_after : List ℕ → Answer (List ℕ) → List ℕ
buffer_after buffer a = wrote buffer 0 (value_or [] a)

-- What a call that writes promises, for the text or refusal a that it is to give: its answer w, and what the buffer,
-- which held `before`, then holds.
abbrev pub Writes : Answer (List ℕ) → Answer ℕ → List ℕ → List ℕ → Type 0
Writes a w before after = (w ≡ written a) × (after ≡ buffer_after before a)

-- The whole promise of the call that writes a declaration with a record.
abbrev pub WritesDeclaration : List ℕ → ℕ → Model → Answer ℕ → List ℕ → List ℕ → Type 0
WritesDeclaration bytes parent m w before after = Writes (write_answer bytes parent m (length before)) w before after
