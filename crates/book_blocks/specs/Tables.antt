-- A means: the answers of the steps that read blocks, as the code has them. The functions of this crate promise them.
-- Assumes nothing.
use Rattle.std.specs.Prelude.{ℕ, ◌+◌, List, [], ◌∷◌, length, Ok, Err}
use Rattle.refusal.specs.Answer.{Answer}
use Rattle.nameset.specs.declared.NameSet.{NameSet}
use Rattle.book.specs.Field.{Field}
use Rattle.book.specs.Book.{Block}
use Rattle.book.specs.Bytes.{head_size}
use Rattle.book_unused.specs.Unused.{without_blocks}
use Rattle.book_blocks.specs.declared.BlocksEnd.{BlocksEnd}

-- a block that was read, by the number of its children
unfoldable pub block_step : Answer (Field Block) → Answer ℕ
block_step (Ok block) = Ok (length block.value.word)
block_step (Err r) = Err r

-- the place behind blocks that stand one after the other from `at` on
unfoldable pub behind_blocks : ℕ → List Block → ℕ
behind_blocks at [] = at
behind_blocks at (b ∷ bs) = behind_blocks (at + head_size + length b.word) bs

-- where such blocks end, and what is left of a set without the names that they use
unfoldable pub blocks_end : ℕ → NameSet → Answer (Field (List Block)) → Answer BlocksEnd
blocks_end at set (Ok blocks) = Ok (record { at = behind_blocks at blocks.value; unused = without_blocks set blocks.value })
blocks_end at set (Err r) = Err r
