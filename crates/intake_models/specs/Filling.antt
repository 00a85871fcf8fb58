-- To be believed: the table of models of a book, by a definition that looks for each parent's words in all blocks of
-- the book (paper 02, U7: "With a model for some of the N names"). What the call answers is a means: `fill_refusals`,
-- `fill_kept`, `fill_done` and `fill_entry` in crates/demands/proofs/Demands.antt say what that is.
-- Assumes nothing.
use Rattle.std.specs.Prelude.{ℕ, cond, List, length}
use Rattle.refusal.specs.Answer.{Answer, onward}
use Rattle.book.specs.Book.{Book}
use Rattle.book.specs.Taken.{taken_book}
use Rattle.declaration_writing.specs.Write.{fitted, Writes}
use Rattle.intake_sample.specs.Inference.{sample_of, no_word, parent_model}
use Rattle.model_table.specs.Table.{model_row, empty_row}
use Rattle.model_table_rows.specs.Rows.{rows_below}

-- The row of the name x: that of the model of its sample, or the one for no model where it has no block.
unfoldable pub book_row : Book → ℕ → List ℕ
book_row b x = cond (no_word (sample_of b x)) empty_row (model_row (parent_model b x))

-- The rows of all names of a book.
unfoldable pub models_of : Book → List ℕ
models_of b = rows_below (book_row b) (length b.names)

-- The bytes that are due for any bytes as the book and a table of so many bytes: 1 to 7, 16, 17, then 12, else all
-- rows.
unfoldable pub models_answer : List ℕ → ℕ → Answer (List ℕ)
models_answer bytes room = onward (taken_book bytes) (λ b. fitted room (models_of b))

-- The whole promise of the call: its answer w, and what the table, which held `before`, then holds.
abbrev pub WritesModels : List ℕ → Answer ℕ → List ℕ → List ℕ → Type 0
WritesModels bytes w before after = Writes (models_answer bytes (length before)) w before after
