-- What the answer of one step tells of the book's bytes from a place on.
-- Assumes nothing.
use Rattle.std.specs.Prelude.{Ok, Err}
use Prim.Native.Nat.{ℕ, ◌+◌, ◌-◌, ◌≤◌, ◌<◌}
use mathlib.Core.Path.{◌≡◌, refl, ◌∙◌, ap}
use mathlib.Core.Bool.{true, false≢true}
use mathlib.Core.List.{List, [], ◌∷◌}
use native.Mathlib.Omega.{arith}
use native.Mathlib.Nat.{lt_of_lt_of_le}
use lib.ListN.{length, get_or, take, drop}
use Rattle.refusal.specs.declared.Refusal.{Refusal}
use Rattle.refusal.specs.Answer.{Answer}
use Rattle.nameset.specs.Places.{places}
use Rattle.book.specs.Field.{Field}
use Rattle.book.specs.Book.{Block, longest_book, all_below, block_of}
use Rattle.book.specs.Bytes.{head_size, text_at, blocks_bytes}
use Rattle.book.proofs.Told.{block_told}
use Rattle.book.proofs.Placed.{block_placed}
use Rattle.book.proofs.Laws.{all_below_more}
use Rattle.book_unused.specs.Unused.{block_at}
use Rattle.book_blocks.specs.Tables.{block_step, behind_blocks}

-- a block of k children was read at `at`
pub record BlockRead (n : ℕ) (s : List ℕ) (at k : ℕ) : Type 0 where
  pub block : Field Block
  pub read : block_of n (drop at s) ≡ Ok block
  pub size : length block.value.word ≡ k
  pub fits : at + head_size + k ≤ length s
  pub rest : drop (at + head_size + k) s ≡ block.rest
  -- its parent, its text byte and its word, as the bytes have them
  pub parent : get_or s at 0 ≡ block.value.parent
  pub text : get_or s (at + text_at) 0 ≡ block.value.text
  pub word : take k (drop (at + head_size) s) ≡ block.value.word
  pub below : block.value.parent < n
  pub children : all_below n block.value.word ≡ true

pub block_read : (n : ℕ) (s : List ℕ) (at k : ℕ) → Ok k ≡ block_step (block_of n (drop at s)) → BlockRead n s at k
unfolding block_step
block_read n s at k e = go (block_of n (drop at s)) refl e
  where
    go : (a : Answer (Field Block)) → block_of n (drop at s) ≡ a → Ok k ≡ block_step a → BlockRead n s at k
    go (Ok block) q e =
        let z : length block.value.word ≡ k = cc in
        let t = block_told n (drop at s) block q in
        let p = block_placed s at block.value block.rest t.bytes in
        record {
          block = block;
          read = q;
          size = z;
          fits = rw (← z) p.fits;
          rest = rw (← z) p.rest;
          parent = p.parent;
          text = p.text;
          word = rw (← z) p.word;
          below = t.parent;
          children = t.children;
        }
    go (Err r) q e = absurd (false≢true cc)

-- it is the block whose bytes stand there,
pub same_block : (n : ℕ) (s : List ℕ) (at k : ℕ) (b : BlockRead n s at k) → block_at s at k ≡ b.block.value
unfolding block_at
same_block n s at k b = λ i. record { parent = b.parent i; text = b.text i; word = b.word i }

-- and its numbers are those of names: what `without_block` asks
pub block_small : (n : ℕ) (s : List ℕ) (at k : ℕ) (b : BlockRead n s at k) → length s ≤ longest_book → n ≤ places →
    (length s ≤ longest_book) × (at + head_size + k ≤ length s) × ((block_at s at k).parent < places) × (all_below places (block_at s at k).word ≡ true)
block_small n s at k b short few =
    rw (same_block n s at k b) (short, b.fits, lt_of_lt_of_le b.below few, all_below_more n places b.block.value.word few b.children)

-- the part of the bytes that the code takes as the children
pub part_read : (n : ℕ) (s : List ℕ) (at k : ℕ) (b : BlockRead n s at k) (w : List ℕ) → w ≡ take (at + head_size + k - (at + head_size)) (drop (at + head_size) s) → w ≡ b.block.value.word
part_read n s at k b w e =
    let d : at + head_size + k - (at + head_size) ≡ k = omega arith in
    e ∙ ap (λ (j : ℕ). take j (drop (at + head_size) s)) d ∙ b.word

-- they are the block's,
pub same_parts : (n : ℕ) (s : List ℕ) (at k : ℕ) (b : BlockRead n s at k) (p : ℕ) → p ≡ get_or s at 0 →
    (w : List ℕ) → w ≡ take (at + head_size + k - (at + head_size)) (drop (at + head_size) s) →
    record { parent = p; text = get_or s (at + text_at) 0; word = w } ≡ b.block.value
same_parts n s at k b p q w e = λ i. record { parent = (q ∙ b.parent) i; text = b.text i; word = part_read n s at k b w e i }

-- and the numbers of names
pub parent_small : (n : ℕ) (s : List ℕ) (at k : ℕ) (b : BlockRead n s at k) (p : ℕ) → p ≡ get_or s at 0 → n ≤ places → p < places
parent_small n s at k b p q few = rw (q ∙ b.parent) (lt_of_lt_of_le b.below few)

pub word_small : (n : ℕ) (s : List ℕ) (at k : ℕ) (b : BlockRead n s at k) (w : List ℕ) →
    w ≡ take (at + head_size + k - (at + head_size)) (drop (at + head_size) s) → n ≤ places → all_below places w ≡ true
word_small n s at k b w e few = rw (part_read n s at k b w e) (all_below_more n places b.block.value.word few b.children)

pub block_stopped : (a : Answer (Field Block)) (r : Refusal) → Err r ≡ block_step a → a ≡ Err r
unfolding block_step
block_stopped (Ok block) r e = absurd (false≢true cc)
block_stopped (Err q) r e = cc

-- ---- the bytes behind blocks

pub behind_blocks_lem : (s : List ℕ) (at : ℕ) (bs : List Block) (after : List ℕ) → drop at s ≡ blocks_bytes bs after → drop (behind_blocks at bs) s ≡ after
unfolding blocks_bytes behind_blocks
behind_blocks_lem s at [] after e = e
behind_blocks_lem s at (b ∷ bs) after e = behind_blocks_lem s (at + head_size + length b.word) bs after (block_placed s at b (blocks_bytes bs after) e).rest
