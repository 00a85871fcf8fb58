-- To be believed: the book as the calls take it. Every call that takes a book, and the program, takes it from here.
-- `bad_parent` is a means: `bad_parent_lem` in proofs/Taken.antt.
-- Assumes nothing.
use Rattle.std.specs.Prelude.{ℕ, ◌≡◌, Bool, not, List, ltb, length, Ok}
use Rattle.refusal.specs.declared.Refusal.TheVariants.{UnusedName}
use Rattle.refusal.specs.Answer.{Answer, onward, refuse_if}
use Rattle.book.specs.Book.{Book, book_of}
use Rattle.book.specs.Used.{has_unused}

-- What is checked of a whole book that was read: "17, an unused name, after 7 and before 8".
unfoldable pub checked_book : Book → Answer Book
checked_book b = refuse_if (has_unused b) UnusedName (Ok b)

-- The book as the calls take it: read (1 to 7, 16), then checked (17).
unfoldable pub taken_book : List ℕ → Answer Book
taken_book bytes = onward (book_of bytes) checked_book

-- The calls take the bytes as the book b.
abbrev pub TakenAs : List ℕ → Book → Type 0
TakenAs bytes b = taken_book bytes ≡ Ok b

-- 8: the parent asked for is "not below N".
unfoldable pub bad_parent : Book → ℕ → Bool
bad_parent b parent = not (ltb parent (length b.names))
