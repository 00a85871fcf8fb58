-- To be believed: what a table of follow facts keeps. It has a row for each parent of a book.
-- Paper 02, U2: "After each block the facts of every parent are exactly those that the blocks so far show".
-- `Added` is a means: `keeps_more` in proofs/Keeps.antt.
-- Assumes nothing.
use Rattle.std.specs.Prelude.{ℕ, ◌*◌, ◌<◌, ◌≡◌, List, length, take, drop}
use Rattle.book.specs.Book.{Block}
use Rattle.follow_row.specs.Row.{row_size, RowKeeps, RowAdded}

-- The table serves books of up to so many names. The number is its own: with more places a table for all of them would
-- be too large, and the facts of a larger book would be gathered parent by parent.
abbrev pub tabled : ℕ
tabled = 64

-- The words of a table.
abbrev pub table_size : ℕ
table_size = tabled * row_size

-- The row of parent p.
unfoldable pub row_of : List ℕ → ℕ → List ℕ
row_of table p = take row_size (drop (p * row_size) table)

-- The table keeps what the blocks bs show of every parent: the facts of its words, whether it has text, and nothing
-- else.
pub record Keeps (bs : List Block) (table : List ℕ) : Type 0 where
  pub size : length table ≡ table_size
  pub rows : (p : ℕ) → p < tabled → RowKeeps p bs (row_of table p)

-- The table v is the table u with a block of a parent added, of text byte t and word w: the rows of the others stay as
-- they are.
pub record Added (u : List ℕ) (parent t : ℕ) (w v : List ℕ) : Type 0 where
  pub size : length v ≡ table_size
  pub own : RowAdded (row_of u parent) t w (row_of v parent)
  pub others : (p : ℕ) → p < tabled → (p ≡ parent → ⊥) → row_of v p ≡ row_of u p
