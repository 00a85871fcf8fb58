-- To be believed: the DTD of a book (paper 01, "The program"), by a definition that looks for each parent's words in all
-- blocks of the book. `program_line` in crates/demands/proofs/Demands.antt says which model a line has. What the call
-- answers is a means: `dtd_refusals`, `dtd_kept` and `dtd_done` there say what that is.
-- Assumes nothing.
use Rattle.std.specs.Prelude.{ℕ, zero, suc, cond, List, [], ◌∷◌, ◌++◌, length}
use Rattle.refusal.specs.Answer.{Answer, onward}
use Rattle.book.specs.Book.{Book}
use Rattle.book.specs.Taken.{taken_book}
use Rattle.declaration_spelling.specs.House.{declaration}
use Rattle.declaration_writing.specs.Write.{fitted, Writes}
use Rattle.follow.specs.Follow.{follow_of}
use Rattle.intake_sample.specs.Inference.{sample_of, text_of, no_word, parent_model}
use Rattle.dtd_lines.specs.Lines.{ParentFacts, parent_facts}

-- A parent's declaration and a line feed; nothing for a parent without a block.
unfoldable pub line_of : Book → ℕ → List ℕ
line_of b parent = cond (no_word (sample_of b parent)) [] (declaration b.names parent (parent_model b parent) ++ (10 ∷ []))

-- The lines of the k parents from p on, "in rising number".
unfoldable pub lines_from : Book → ℕ → ℕ → List ℕ
lines_from b p zero = []
lines_from b p (suc k) = line_of b p ++ lines_from b (suc p) k

-- All lines of a book.
unfoldable pub dtd_of : Book → List ℕ
dtd_of b = lines_from b 0 (length b.names)

-- The facts of a parent of the book: those of its words, and whether it has text.
unfoldable pub facts_of : Book → ℕ → ParentFacts
facts_of b parent = parent_facts (follow_of (length b.names) (sample_of b parent)) (text_of b parent)

-- The text that is due for any bytes as the book and a buffer of so many bytes: 1 to 7, 16, 17, then 12, else all
-- lines.
unfoldable pub dtd_answer : List ℕ → ℕ → Answer (List ℕ)
dtd_answer bytes room = onward (taken_book bytes) (λ b. fitted room (dtd_of b))

-- The whole promise of the call: its answer w, and what the buffer, which held `before`, then holds.
abbrev pub WritesDtd : List ℕ → Answer ℕ → List ℕ → List ℕ → Type 0
WritesDtd bytes w before after = Writes (dtd_answer bytes (length before)) w before after

-- No DTD has more bytes: 64 declarations of 2,253 bytes, each with a line feed.
abbrev pub longest_dtd : ℕ
longest_dtd = 144256
