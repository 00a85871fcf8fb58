-- A means: the follow facts of one parent and whether it has text, kept as a row of words. `facts_shown` in
-- crates/follow/proofs/Laws.antt joins `facts_of` to the facts of words. To be believed is `RowKeeps`.
-- Assumes nothing.
use Rattle.std.specs.Prelude.{ℕ, ◌+◌, ◌≡◌, Bool, ◌||◌, cond, List, eqb, length, get_or, set, drop}
use Rattle.nameset.specs.Places.{places}
use Rattle.nameset.specs.Rows.{rows_length, row_at, put_row}
use Rattle.book.specs.Book.{Block}
use Rattle.follow.specs.declared.Facts.{Facts}
use Rattle.follow.specs.Sample.{words_of, has_text, Over}
use Rattle.follow.specs.Adding.{with_first, with_last, with_word, facts_of}

-- The words of a row before those of the following names: two sets and two marks.
abbrev pub row_head : ℕ
row_head = rows_length 2 + 2

-- The place of the mark for text, which is the second of the two.
abbrev pub text_place : ℕ
text_place = rows_length 2 + 1

-- The words of a row.
abbrev pub row_size : ℕ
row_size = row_head + rows_length places

-- The facts that a row keeps: the set of starts, the set of ends, 1 where a word is empty, and behind the head the
-- names that follow each name.
unfoldable pub facts_in : List ℕ → Facts
facts_in row =
    record { starts = row_at row 0; ends = row_at row 1; follows = drop row_head row; empty = eqb (get_or row (rows_length 2) 0) 1 }

-- The row is marked for text: 1 where some block has text.
unfoldable pub text_in : List ℕ → Bool
text_in row = eqb (get_or row text_place 0) 1

-- The row keeps what the blocks bs show of parent p: the facts of its words, whether it has text, and nothing else.
pub record RowKeeps (p : ℕ) (bs : List Block) (row : List ℕ) : Type 0 where
  pub size : length row ≡ row_size
  pub facts : facts_in row ≡ facts_of (words_of p bs)
  pub text : text_in row ≡ has_text p bs

-- The row keeps the facts of some words over n names.
pub record OfWords (n : ℕ) (row : List ℕ) : Type 0 where
  pub size : length row ≡ row_size
  pub words : List (List ℕ)
  pub over : Over n words
  pub facts : facts_in row ≡ facts_of words

-- The row with the first name of a word put into its starts, and the last into its ends.
unfoldable pub with_ends : List ℕ → List ℕ → List ℕ
with_ends row w = put_row (put_row row 0 (with_first (row_at row 0) w)) 1 (with_last (row_at row 1) w)

-- The row with its mark for text set where a block has the text byte 1.
unfoldable pub with_text : List ℕ → ℕ → List ℕ
with_text row t = set row text_place (cond (eqb t 1) 1 (get_or row text_place 0))

-- The row v is the row u with a word w added; the mark for text stays.
pub record WordAdded (u w v : List ℕ) : Type 0 where
  pub size : length v ≡ row_size
  pub facts : facts_in v ≡ with_word (facts_in u) w
  pub text : text_in v ≡ text_in u

-- The row v is the row u with a block added, of text byte t and word w.
pub record RowAdded (u : List ℕ) (t : ℕ) (w v : List ℕ) : Type 0 where
  pub size : length v ≡ row_size
  pub facts : facts_in v ≡ with_word (facts_in u) w
  pub text : text_in v ≡ (text_in u || eqb t 1)
