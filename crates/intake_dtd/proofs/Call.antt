-- The answer of each way through the call that writes the whole DTD.
-- Assumes nothing.
use Rattle.std.specs.Prelude.{Ok, Err}
use Prim.Native.Nat.{ℕ, ◌≤◌, ◌<◌}
use mathlib.Core.Path.{◌≡◌, sym, ◌∙◌, ap, ap₂, subst}
use mathlib.Core.Bool.{true, false}
use mathlib.Core.List.{List}
use native.Mathlib.Omega.{arith}
use native.Mathlib.Nat.{lt_of_lt_of_le}
use lib.Dec.{ltb}
use lib.ListN.{length}
use borrow.Author.Tests.{ltb-false}
use Rattle.refusal.specs.declared.Refusal.{Refusal}
use Rattle.refusal.specs.declared.Refusal.TheVariants.{BufferTooShort}
use Rattle.nameset.specs.Places.{places}
use Rattle.book.specs.declared.Layout.{Layout}
use Rattle.book.specs.Book.{Book, names_in}
use Rattle.book.specs.Layout.{reading_of}
use Rattle.book.specs.Taken.{taken_book}
use Rattle.book.proofs.Laws.{few_names}
use Rattle.book.proofs.Taken as Taken
use Rattle.book_reading.specs.Opening.{blocks_read}
use Rattle.follow.specs.Follow.{follow_of}
use Rattle.follow.specs.Sample.{words_of, has_text, Over}
use Rattle.follow.specs.View.{view_of}
use Rattle.follow_row.specs.Row.{facts_in, text_in, OfWords}
use Rattle.follow_table.specs.Table.{row_of, Keeps}
use Rattle.chain_sample.proofs.Shown.{view_is}
use Rattle.declaration_writing.specs.Write.{fitted, written, buffer_after, Writes}
use Rattle.declaration_writing.proofs.Calls.{stopped}
use Rattle.byte_buffer.specs.Put.{Put}
use Rattle.intake_sample.specs.Inference.{sample_of, text_of}
use Rattle.intake_sample.proofs.Samples as Sample
use Rattle.dtd_lines.specs.Lines.{parent_facts, fact_lines, row_facts, table_facts, TableOfWords}
use Rattle.intake_dtd.specs.Dtd.{dtd_of, facts_of, dtd_answer}
use Rattle.intake_dtd.proofs.Agree.{lines_by_facts}

module _ (s d : List ℕ) where
  pub stopped_book : (f : Refusal) → Err f ≡ reading_of (taken_book s) → Writes (dtd_answer s (length d)) (Err f) d d
  unfolding dtd_answer
  stopped_book f e = stopped d f (dtd_answer s (length d)) (Taken.take_refused s _ f e)

  module _ (l : Layout) (read : Ok l ≡ reading_of (taken_book s)) (table : List ℕ) (kept : Keeps (blocks_read s) table) where
    abbrev book : Book
    book = Taken.book s l read

    few : l.names ≤ places
    few = few_names s l (Taken.laid s l read)

    -- the table keeps the facts of words, for every parent
    pub of_words : TableOfWords l.names table
    of_words =
        record {
          few = few;
          size = kept.size;
          rows = λ p h. Sample.row_kept s l read p (row_of table p) (kept.rows p (lt_of_lt_of_le h few));
        }

    abbrev pub lines : List ℕ
    lines = fact_lines (names_in s) (table_facts l.names table) 0 l.names

    count : l.names ≡ length book.names
    count = Taken.names_are s l read

    module _ (p : ℕ) (below : p < length book.names) where
      row_kept : OfWords l.names (row_of table p)
      row_kept = of_words.rows p (omega (arith, count, below))

      over : Over (length book.names) (sample_of book p)
      unfolding sample_of of_words row_kept
      over = subst (λ (n : ℕ). Over n (words_of p book.blocks)) count row_kept.over

      follow_is : view_of (length book.names) (facts_in (row_of table p)) ≡ follow_of (length book.names) (sample_of book p)
      unfolding sample_of of_words row_kept
      follow_is = subst (λ (n : ℕ). view_of n (facts_in (row_of table p)) ≡ follow_of n (words_of p book.blocks)) count (view_is l.names (row_of table p) few row_kept)

      text_is : text_in (row_of table p) ≡ text_of book p
      unfolding text_of
      text_is = let h : p < places = omega (arith, count, few) in (kept.rows p h).text ∙ ap (has_text p) (Sample.blocks_are s l read p (row_of table p) (kept.rows p h))

      facts_are : table_facts (length book.names) table p ≡ facts_of book p
      unfolding table_facts row_facts facts_of
      facts_are = ap₂ parent_facts follow_is text_is

    -- so its lines are those of the book
    lines_are : lines ≡ dtd_of book
    lines_are =
        (λ i. fact_lines (Taken.names_taken s l read i) (table_facts (count i) table) 0 (count i))
        ∙ lines_by_facts book (subst (λ (n : ℕ). n ≤ places) count few) (table_facts (length book.names) table) over facts_are

    answer_is : dtd_answer s (length d) ≡ fitted (length d) lines
    unfolding dtd_answer
    answer_is = rw (Taken.taken s l read) (ap (fitted (length d)) (sym lines_are))

    pub stopped_short : ltb (length d) (length lines) ≡ true → Writes (dtd_answer s (length d)) (Err BufferTooShort) d d
    unfolding fitted
    stopped_short h = stopped d BufferTooShort (dtd_answer s (length d)) (answer_is ∙ rw h)

    pub lines_fit : ltb (length d) (length lines) ≡ false → length lines ≤ length d
    lines_fit h = ltb-false (length d) (length lines) h

    pub all_written : ltb (length d) (length lines) ≡ false → (to : ℕ) (e : List ℕ) → Put d 0 lines to e → Writes (dtd_answer s (length d)) (Ok to) d e
    unfolding fitted written buffer_after
    all_written h to e put =
        let size : to ≡ length lines = omega (arith, put.place) in
        rw (answer_is, h) (ap Ok size, put.holds)
