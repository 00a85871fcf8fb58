-- `open_book` meets its contract: section 1, then the count of section 2.
-- Assumes nothing.
use Rattle.std.specs.Prelude.{Ok, Err}
use Prim.Native.Nat.{ℕ, ◌+◌, ◌-◌, ◌≤◌, ◌<◌}
use Rattle.std.proofs.Common.{◌≡◌, sym, ◌∙◌, ap}
use mathlib.Core.List.{List}
use native.Mathlib.Omega.{arith}
use lib.ListN.{length, drop}
use borrow.Author.Tests.{lt-ltb, le-ltb}
use Rattle.refusal.specs.declared.Refusal.{Refusal}
use Rattle.refusal.specs.declared.Refusal.TheVariants.{BookTooLong, BytesMissing}
use Rattle.refusal.specs.Answer.{Answer}
use Rattle.book.specs.declared.Layout.{Layout}
use Rattle.book.specs.Field.{count_size, count_at, count_of}
use Rattle.book.specs.Book.{name_section, longest_book}
use Rattle.book.proofs.Counts.{count_missing, count_given}
use Rattle.book_names.specs.declared.NameTable.{NameTable}
use Rattle.book_names.specs.Tables.{name_table}
use Rattle.book_names.proofs.Table.{TableTold, table_told, table_refused}
use Rattle.book_reading.specs.Opening.{head_of, head_layout, opening_of}
use Rattle.book_reading.proofs.open_book.Goals as goal

too_long : (s : List ℕ) → longest_book < length s → Err BookTooLong ≡ opening_of (head_of s)
unfolding opening_of head_of
too_long s h = rw (lt-ltb longest_book (length s) h)

module _ (s : List ℕ) (h : length s ≤ longest_book) where
  no_names : (r : Refusal) → Err r ≡ name_table (name_section s) → Err r ≡ opening_of (head_of s)
  unfolding opening_of head_of
  no_names r e = rw (le-ltb longest_book (length s) h, table_refused s r e)

  module _ (t : NameTable) (e : Ok t ≡ name_table (name_section s)) where
    named : TableTold s t
    named = table_told s t e

    no_count : length s - t.end < count_size → Err BytesMissing ≡ opening_of (head_of s)
    unfolding opening_of head_of
    no_count l =
        let k : count_of named.names.rest ≡ Err BytesMissing = ap count_of (sym named.rest) ∙ count_missing s t.end (omega arith) in
        rw (le-ltb longest_book (length s) h, named.read, k)

    module _ (l : count_size ≤ length s - t.end) where
      pub room : t.end + count_size ≤ length s
      room = omega (arith, named.fits)

      head_is : head_of s ≡ Ok (record { names = named.names.value; count = count_at s t.end; rest = drop (t.end + count_size) s })
      unfolding head_of
      head_is =
          let k = ap count_of (sym named.rest) ∙ count_given s t.end room in
          rw (le-ltb longest_book (length s) h, named.read, k)

      counted : (m : ℕ) → m ≡ count_at s t.end →
          ◌≡◌ {A = Answer Layout} (Ok (record { names = t.names; offsets = t.offsets; body = t.end + count_size; blocks = m })) (opening_of (head_of s))
      unfolding opening_of head_layout
      counted m em =
          (λ i. Ok (record { names = named.many i; offsets = named.placed i; body = named.end i + count_size; blocks = em i }))
          ∙ sym (ap opening_of head_is)

pub returns-then-bytes-gt-LONGEST : goal.returns-then-bytes-gt-LONGEST
returns-then-bytes-gt-LONGEST c = too_long _ c.if-bytes-gt-LONGEST.true

pub returns-in_err-table : goal.returns-in_err-table
returns-in_err-table c =
    let gone : c.from_residual.result ≡ Err c.in_err-table.field-0.0 = grind arith in
    gone ∙ no_names _ c.if-bytes-gt-LONGEST.false _ c.in_err-table.ensures

pub overflow_sub-bytes : goal.overflow_sub-bytes
overflow_sub-bytes c = (table_told _ _ c.in_ok-table.ensures).fits

pub returns-then-bytes-end-lt-COUNT_SIZE : goal.returns-then-bytes-end-lt-COUNT_SIZE
returns-then-bytes-end-lt-COUNT_SIZE c =
    no_count _ c.if-bytes-gt-LONGEST.false _ c.in_ok-table.ensures c.if-bytes-end-lt-COUNT_SIZE.true

pub returns : goal.returns
returns c =
    counted _ c.if-bytes-gt-LONGEST.false _ c.in_ok-table.ensures c.if-bytes-end-lt-COUNT_SIZE.false _ c.count_at.ensures.0
