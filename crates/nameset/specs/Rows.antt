-- A means: sets kept as rows of machine words, so that many can be borrowed at once. `row_put` and `row_kept` in
-- proofs/Rows.antt say what a row holds after another was put.
-- Assumes nothing.
-- Row a is a set, in most places that of the name a. A row takes one word, since a word has room for a whole set. With a
-- larger capacity a row takes several: then the definitions of this file change, with Set.antt.
use Rattle.std.specs.Prelude.{◌≡◌, ℕ, ◌<◌, List, length, replicate, slice_index, slice_set}
use Rattle.nameset.specs.declared.NameSet.{NameSet}

-- How many words keep n rows. The code has it for a row of each place, as `ROWS`.
abbrev pub rows_length : ℕ → ℕ
rows_length n = n

-- These words are n rows.
abbrev pub IsRows : ℕ → List ℕ → Type 0
IsRows n rows = length rows ≡ rows_length n

-- There is a row a.
abbrev pub HasRow : List ℕ → ℕ → Type 0
HasRow rows a = a < length rows

-- The set in row a, the empty set where there is no such row.
unfoldable pub row_at : List ℕ → ℕ → NameSet
row_at rows a = record { bits = slice_index rows a }

-- The rows with the set s put in as row a.
unfoldable pub put_row : List ℕ → ℕ → NameSet → List ℕ
put_row rows a s = slice_set rows a s.bits

-- n rows, each with the empty set.
unfoldable pub no_rows : ℕ → List ℕ
no_rows n = replicate (rows_length n) 0
