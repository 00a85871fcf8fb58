-- To be believed: what the program prints for any bytes as the book (paper 01, "The program"). `program_line` in
-- crates/demands/proofs/Demands.antt says which model a line has.
-- Assumes nothing.
use Rattle.std.specs.Prelude.{ℕ, ◌+◌, ◌/◌, ◌%◌, cond, List, [], ◌∷◌, ◌++◌, ltb, Ok, Err}
use Rattle.refusal.specs.declared.Refusal.{Refusal}
use Rattle.refusal.specs.Table.{number_of}
use Rattle.refusal.specs.Answer.{Answer}
use Rattle.book.specs.Book.{Book}
use Rattle.intake_dtd.specs.Dtd.{dtd_of}

-- A number below 100 in decimal.
unfoldable pub decimal : ℕ → List ℕ
decimal n = cond (ltb n 10) ((48 + n) ∷ []) ((48 + n / 10) ∷ (48 + n % 10) ∷ [])

-- `refused `
unfoldable pub refused_word : List ℕ
refused_word = 114 ∷ 101 ∷ 102 ∷ 117 ∷ 115 ∷ 101 ∷ 100 ∷ 32 ∷ []

-- "A refused book prints `refused `, the number in decimal and a line feed."
unfoldable pub refused_text : Refusal → List ℕ
refused_text r = refused_word ++ (decimal (number_of r) ++ (10 ∷ []))

-- All output, for the book as it is taken (`taken_book` in crates/book/specs/Taken.antt): its whole DTD, or why it was
-- refused.
unfoldable pub output_of : Answer Book → List ℕ
output_of (Ok b) = dtd_of b
output_of (Err r) = refused_text r
