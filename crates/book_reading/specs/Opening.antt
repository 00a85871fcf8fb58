-- A means: a book taken in three steps, its head, its blocks and its end, so that each call does with the blocks what it
-- needs while they are read. `closed_book` in proofs/Closing.antt joins the steps to `taken_book`. To be believed is
-- `blocks_read`, and for refused books `head_of` with it.
-- Assumes nothing.
use Rattle.std.specs.Prelude.{ℕ, ◌+◌, cond, List, [], ltb, length, Ok, Err}
use Rattle.refusal.specs.declared.Refusal.TheVariants.{BookTooLong, BytesLeftOver, UnusedName}
use Rattle.refusal.specs.Answer.{Answer, onward, refuse_if, value_or}
use Rattle.nameset.specs.Set.{is_empty}
use Rattle.book.specs.declared.Layout.{Layout}
use Rattle.book.specs.Field.{count_size, count_of}
use Rattle.book.specs.Book.{Block, Book, longest_book, name_section, blocks_of}
use Rattle.book.specs.Layout.{offset_table, end_from}
use Rattle.book.specs.Taken.{checked_book}
use Rattle.book_blocks.specs.declared.BlocksEnd.{BlocksEnd}
use Rattle.book_blocks.specs.Gathers.{blocks_from}

-- What comes before the first block: the names and the count M; `rest` follows them.
pub record Head : Type 0 where
  pub names : List (List ℕ)
  pub count : ℕ
  pub rest : List ℕ

-- "1: above 60,000 bytes", then section 1, then the count of section 2.
unfoldable pub head_of : List ℕ → Answer Head
head_of bytes =
    refuse_if (ltb longest_book (length bytes)) BookTooLong
    (onward (name_section bytes) (λ names.
    onward (count_of names.rest) (λ m.
    Ok (record { names = names.value; count = m.value; rest = m.rest }))))

-- The blocks behind a head, then the book's end ("7: bytes left over"), then what is checked of a whole book (17).
unfoldable pub body_of : Head → Answer Book
body_of h =
    onward (blocks_of (length h.names) h.count h.rest) (λ blocks.
    refuse_if (ltb 0 (length blocks.rest)) BytesLeftOver
    (checked_book (record { names = h.names; blocks = blocks.value })))

-- The blocks that are read of these bytes before the call stops: all blocks of a book that is not refused
-- (`taken_blocks` in proofs/Closing.antt), and of one that is refused those before the fault.
unfoldable pub blocks_read : List ℕ → List Block
blocks_read bytes = value_or [] (onward (head_of bytes) (λ h. Ok (blocks_from (length h.names) h.count h.rest)))

-- The layout of a book with this head.
unfoldable pub head_layout : Head → Layout
head_layout h =
    record {
      names = length h.names;
      offsets = offset_table h.names;
      body = end_from count_size h.names + count_size;
      blocks = h.count;
    }

-- The answer to the first step.
unfoldable pub opening_of : Answer Head → Answer Layout
opening_of (Ok h) = Ok (head_layout h)
opening_of (Err r) = Err r

-- The answer to the last step, for a book of so many bytes with this layout, whose blocks ended so.
unfoldable pub closing : ℕ → Layout → Answer BlocksEnd → Answer Layout
closing size layout (Ok end) =
    cond (ltb end.at size) (Err BytesLeftOver) (cond (is_empty end.unused) (Ok layout) (Err UnusedName))
closing size layout (Err r) = Err r
