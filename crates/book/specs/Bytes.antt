-- To be believed: names and blocks as the bytes of a book, each before the bytes that follow it.
-- Assumes nothing.
use Rattle.std.specs.Prelude.{ℕ, List, [], ◌∷◌, ◌++◌, length}
use Rattle.book.specs.Book.{Block}

-- a length byte, then the name's bytes
unfoldable pub name_bytes : List ℕ → List ℕ → List ℕ
name_bytes name rest = length name ∷ (name ++ rest)

unfoldable pub names_bytes : List (List ℕ) → List ℕ → List ℕ
names_bytes [] rest = rest
names_bytes (x ∷ xs) rest = name_bytes x (names_bytes xs rest)

-- The head of a block is what comes before its children: a parent number, a text byte, then a child count. It has so
-- many bytes, and the text byte and the child count are at these places of it; the parent is at place 0. For the code
-- and its laws: `block_placed` in proofs/Placed.antt joins them to `block_bytes`.
abbrev pub head_size : ℕ
head_size = 3

abbrev pub text_at : ℕ
text_at = 1

abbrev pub child_count_at : ℕ
child_count_at = 2

-- a parent number, a text byte, a child count, then the children
unfoldable pub block_bytes : Block → List ℕ → List ℕ
block_bytes b rest = b.parent ∷ (b.text ∷ (length b.word ∷ (b.word ++ rest)))

unfoldable pub blocks_bytes : List Block → List ℕ → List ℕ
blocks_bytes [] rest = rest
blocks_bytes (b ∷ bs) rest = block_bytes b (blocks_bytes bs rest)
