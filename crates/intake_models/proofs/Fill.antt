-- The answer of each way through the call that fills a table of models.
-- Assumes nothing.
use Rattle.std.specs.Prelude.{Ok, Err}
use Prim.Native.Nat.{ℕ, ◌*◌, ◌≤◌, ◌<◌}
use mathlib.Core.Path.{◌≡◌, refl, sym, ◌∙◌, ap}
use mathlib.Core.Bool.{Bool, true, false}
use mathlib.Core.List.{List}
use native.Mathlib.Omega.{arith}
use native.Mathlib.Nat.{lt_of_lt_of_le}
use lib.ListN.{length}
use borrow.Author.Tests.{lt-ltb, le-ltb}
use Rattle.refusal.specs.declared.Refusal.{Refusal}
use Rattle.refusal.specs.declared.Refusal.TheVariants.{BufferTooShort}
use Rattle.nameset.specs.Places.{places}
use Rattle.book.specs.declared.Layout.{Layout}
use Rattle.book.specs.Book.{Book}
use Rattle.book.specs.Layout.{reading_of}
use Rattle.book.specs.Taken.{taken_book}
use Rattle.book.proofs.Taken as Taken
use Rattle.book_reading.specs.Opening.{blocks_read}
use Rattle.follow_row.specs.Row.{RowKeeps}
use Rattle.follow_table.specs.Table.{row_of, Keeps}
use Rattle.chain_sample.specs.Sample.{show_word}
use Rattle.declaration_writing.specs.Write.{fitted, written, buffer_after, Writes}
use Rattle.declaration_writing.proofs.Calls.{stopped}
use Rattle.byte_buffer.specs.Put.{Put}
use Rattle.intake_sample.proofs.Samples as Sample
use Rattle.dtd_lines.specs.Lines.{row_facts, table_facts, TableOfWords}
use Rattle.intake_dtd.proofs.Call.{of_words}
use Rattle.model_table.specs.Table.{row_size, model_row}
use Rattle.model_table_rows.specs.Rows.{rows_below, fact_row, table_row}
use Rattle.model_table_rows.proofs.Rows.{rows_same, table_size_lem}
use Rattle.intake_models.specs.Filling.{book_row, models_of, models_answer}

module _ (s d : List ℕ) where
  pub stopped_book : (f : Refusal) → Err f ≡ reading_of (taken_book s) → Writes (models_answer s (length d)) (Err f) d d
  unfolding models_answer
  stopped_book f e = stopped d f (models_answer s (length d)) (Taken.take_refused s _ f e)

  module _ (l : Layout) (read : Ok l ≡ reading_of (taken_book s)) (table : List ℕ) (kept : Keeps (blocks_read s) table) where
    abbrev book : Book
    book = Taken.book s l read

    abbrev n : ℕ
    n = l.names

    pub facts_kept : TableOfWords n table
    facts_kept = of_words s d l read table kept

    abbrev rows : List ℕ
    rows = rows_below (table_row n table) n

    -- the facts of each name give the row of the book
    row_is : (p : ℕ) → p < n → table_row n table p ≡ book_row book p
    unfolding table_row table_facts fact_row row_facts book_row
    row_is p below = go (show_word places (row_facts n (row_of table p)).follow) refl
      where
        row : RowKeeps p (blocks_read s) (row_of table p)
        row = kept.rows p (lt_of_lt_of_le below facts_kept.few)

        go : (b : Bool) → show_word places (row_facts n (row_of table p)).follow ≡ b → fact_row (row_facts n (row_of table p)) ≡ book_row book p
        go true e = rw (e, Sample.some_shown s l read p (row_of table p) row e) (ap model_row (Sample.model_shown s l read p (row_of table p) row))
        go false e = rw (e, Sample.none_shown s l read p (row_of table p) row e)

    rows_are : rows ≡ models_of book
    unfolding models_of
    rows_are = rows_same (table_row n table) (book_row book) n row_is ∙ ap (rows_below (book_row book)) (Taken.names_are s l read)

    answer_is : models_answer s (length d) ≡ fitted (length d) rows
    unfolding models_answer
    answer_is = rw (Taken.taken s l read) (ap (fitted (length d)) (sym rows_are))

    size : length rows ≡ n * row_size
    size = table_size_lem n table facts_kept

    pub stopped_short : length d < n * row_size → Writes (models_answer s (length d)) (Err BufferTooShort) d d
    unfolding fitted
    stopped_short h = stopped d BufferTooShort (models_answer s (length d)) (answer_is ∙ rw (lt-ltb (length d) (length rows) (omega (arith, size))))

    pub all_written : n * row_size ≤ length d → (to : ℕ) (f : List ℕ) → Put d 0 rows to f → Writes (models_answer s (length d)) (Ok to) d f
    unfolding fitted written buffer_after
    all_written h to f put =
        let place : to ≡ length rows = omega (arith, put.place) in
        rw (answer_is, le-ltb (length d) (length rows) (omega (arith, size))) (ap Ok place, put.holds)
