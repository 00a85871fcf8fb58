-- To be believed: which book a list of bytes is (paper 01, "The book" and rows 1 to 7 of "Where a call stops"; paper
-- 02, U5: the text byte and 16). Read from `book_of`, at the end, inwards: the checks of a definition apply from top to
-- bottom, and the first that applies is the answer.
-- Assumes nothing.
use Rattle.std.specs.Prelude.{ℕ, zero, suc, ◌≡◌, Bool, true, ◌&&◌, not, List, [], ◌∷◌, ltb, length, Ok}
use Rattle.refusal.specs.declared.Refusal.TheVariants.{BookTooLong, BadNameCount, BadName, NameNotAbove, NumberNotBelow, BytesLeftOver, BadText}
use Rattle.refusal.specs.Answer.{Answer, onward, refuse_if, value_or}
use Rattle.nameset.specs.Places.{good_count}
use Rattle.name.specs.Rule.{good_length, good_bytes}
use Rattle.name_order.specs.Order.{rises}
use Rattle.book.specs.Field.{Field, field, byte_of, bytes_of, count_of}

-- a parent number; 1 where the block has text, 0 where not; and the child list, a word
pub record Block : Type 0 where
  pub parent : ℕ
  pub text : ℕ
  pub word : List ℕ

-- the names, by rising number, and the blocks in their order
pub record Book : Type 0 where
  pub names : List (List ℕ)
  pub blocks : List Block

-- the most bytes that a book has
abbrev pub longest_book : ℕ
longest_book = 60000

-- each number of a word is below n
unfoldable pub all_below : ℕ → List ℕ → Bool
all_below n [] = true
all_below n (x ∷ xs) = ltb x n && all_below n xs

-- One name, after the name `before`: a length byte, then that many bytes; "4: bad length or byte"; "5: not above the
-- one before".
unfoldable pub name_of : List ℕ → List ℕ → Answer (Field (List ℕ))
name_of before bytes =
    onward (byte_of bytes) (λ size.
    refuse_if (not (good_length size.value)) BadName
    (onward (bytes_of size.value size.rest) (λ name.
    refuse_if (not (good_bytes name.value)) BadName
    (refuse_if (not (rises before name.value)) NameNotAbove
    (Ok name)))))

-- n names, each above the one before it; nothing stands before the first, and every name is above nothing
unfoldable pub names_of : ℕ → List ℕ → List ℕ → Answer (Field (List (List ℕ)))
names_of zero before bytes = Ok (field [] bytes)
names_of (suc n) before bytes =
    onward (name_of before bytes) (λ first.
    onward (names_of n first.value first.rest) (λ others.
    Ok (field (first.value ∷ others.value) others.rest)))

-- One block over n names: a parent, a text byte, a child count, then that many children; "6: number not below N"; "16,
-- a text byte above 1, checked after the parent number and before the child count".
unfoldable pub block_of : ℕ → List ℕ → Answer (Field Block)
block_of n bytes =
    onward (byte_of bytes) (λ parent.
    refuse_if (not (ltb parent.value n)) NumberNotBelow
    (onward (byte_of parent.rest) (λ text.
    refuse_if (ltb 1 text.value) BadText
    (onward (byte_of text.rest) (λ size.
    onward (bytes_of size.value size.rest) (λ word.
    refuse_if (not (all_below n word.value)) NumberNotBelow
    (Ok (field (record { parent = parent.value; text = text.value; word = word.value }) word.rest))))))))

-- m blocks over n names
unfoldable pub blocks_of : ℕ → ℕ → List ℕ → Answer (Field (List Block))
blocks_of n zero bytes = Ok (field [] bytes)
blocks_of n (suc m) bytes =
    onward (block_of n bytes) (λ first.
    onward (blocks_of n m first.rest) (λ others.
    Ok (field (first.value ∷ others.value) others.rest)))

-- Section 1: the count N, "3: 0 or above 64", then N names.
unfoldable pub name_section : List ℕ → Answer (Field (List (List ℕ)))
name_section bytes =
    onward (count_of bytes) (λ n.
    refuse_if (not (good_count n.value)) BadNameCount
    (names_of n.value [] n.rest))

-- Section 2 over n names: the count M, then M blocks, and the book's end; "7: bytes left over".
unfoldable pub block_section : ℕ → List ℕ → Answer (List Block)
block_section n bytes =
    onward (count_of bytes) (λ m.
    onward (blocks_of n m.value m.rest) (λ blocks.
    refuse_if (ltb 0 (length blocks.rest)) BytesLeftOver
    (Ok blocks.value)))

-- The whole book: "1: above 60,000 bytes", then its two sections.
unfoldable pub book_of : List ℕ → Answer Book
book_of bytes =
    refuse_if (ltb longest_book (length bytes)) BookTooLong
    (onward (name_section bytes) (λ names.
    onward (block_section (length names.value) names.rest) (λ blocks.
    Ok (record { names = names.value; blocks = blocks }))))

-- The bytes are the book b: they are not refused.
abbrev pub IsBook : List ℕ → Book → Type 0
IsBook bytes b = book_of bytes ≡ Ok b

-- The names and the blocks of a book, none where it is refused.
unfoldable pub names_in : List ℕ → List (List ℕ)
names_in bytes = value_or [] (onward (book_of bytes) (λ b. Ok b.names))

unfoldable pub blocks_in : List ℕ → List Block
blocks_in bytes = value_or [] (onward (book_of bytes) (λ b. Ok b.blocks))
