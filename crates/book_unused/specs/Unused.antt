-- A means: the names that no block has used so far, as a set from which each block takes its own. `all_taken_out` in
-- proofs/Laws.antt joins it to `some_unused`.
-- Assumes nothing.
use Rattle.std.specs.Prelude.{ℕ, ◌+◌, List, [], ◌∷◌, get_or, take, drop}
use Rattle.nameset.specs.declared.NameSet.{NameSet}
use Rattle.nameset.specs.Set.{without}
use Rattle.book.specs.Book.{Block}
use Rattle.book.specs.Bytes.{head_size, text_at}

-- The set s without the numbers of a word.
unfoldable pub without_word : NameSet → List ℕ → NameSet
without_word s [] = s
without_word s (x ∷ xs) = without_word (without s x) xs

-- The set s without the names that a block uses: its parent and its children.
unfoldable pub without_block : NameSet → Block → NameSet
without_block s b = without_word (without s b.parent) b.word

-- The set s without the names that these blocks use.
unfoldable pub without_blocks : NameSet → List Block → NameSet
without_blocks s [] = s
without_blocks s (b ∷ bs) = without_blocks (without_block s b) bs

-- The block of so many children whose bytes are at a place.
unfoldable pub block_at : List ℕ → ℕ → ℕ → Block
block_at bytes at size = record { parent = get_or bytes at 0; text = get_or bytes (at + text_at) 0; word = take size (drop (at + head_size) bytes) }
