-- A means: going back to the names of a book that was read, for the layers above it. A name has a number exactly when it
-- is one of the names: `known_in` in crates/declaration_spelling/proofs/Named.antt.
-- Assumes nothing.
use Rattle.std.specs.Prelude.{ℕ, suc, ◌≡◌, cond, List, [], ◌∷◌, Option, Some, None, Ok}
use Rattle.std.specs.Ordering.{is_eq}
use Rattle.name_order.specs.Order.{order_of}
use Rattle.book.specs.declared.Layout.{Layout}
use Rattle.book.specs.Book.{Book, book_of}
use Rattle.book.specs.Layout.{layout_of}

-- The bytes are a book, and this is its layout.
pub record LaidOut (bytes : List ℕ) (layout : Layout) : Type 0 where
  pub book : Book
  pub read : book_of bytes ≡ Ok book
  pub same : layout ≡ layout_of book

-- the number of the first of the names, counted from i on, that is the text
unfoldable pub number_from : ℕ → List ℕ → List (List ℕ) → Option ℕ
number_from i text [] = None
number_from i text (x ∷ xs) = cond (is_eq (order_of x text)) (Some i) (number_from (suc i) text xs)

-- A name's number is its place among the names, from 0.
unfoldable pub number_in : List (List ℕ) → List ℕ → Option ℕ
number_in names text = number_from 0 text names
