-- The words of a book's blocks are short.
-- Assumes nothing.
use Prim.Native.Nat.{ℕ, ◌+◌, ◌≤◌, ◌<◌}
use mathlib.Core.Path.{◌≡◌}
use mathlib.Core.List.{List, [], ◌∷◌}
use native.Mathlib.Omega.{arith}
use lib.ListN.{length, drop, get_or}
use Rattle.book.specs.Book.{Block}
use Rattle.book.specs.Bytes.{head_size, child_count_at, blocks_bytes}
use Rattle.book.proofs.Placed.{block_placed}

-- Where every byte is below 256, every word has at most 255 names. For readers: nothing else rests on it.
abbrev pub ShortWords : List Block → Type 0
ShortWords [] = Unit {0}
ShortWords (b ∷ bs) = (length b.word ≤ 255) × ShortWords bs

pub words_short : (s : List ℕ) → ((i : ℕ) → get_or s i 0 < 256) → (at : ℕ) (bs : List Block) (after : List ℕ) → drop at s ≡ blocks_bytes bs after → ShortWords bs
unfolding blocks_bytes
words_short s bytes at [] after e = tt
words_short s bytes at (b ∷ bs) after e =
    let p = block_placed s at b (blocks_bytes bs after) e in
    (omega (arith, p.size, bytes (at + child_count_at)), words_short s bytes (at + head_size + length b.word) bs after p.rest)
