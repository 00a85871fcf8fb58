-- Where the bytes of a name and of a block stand.
-- Assumes nothing.
use Prim.Native.Nat.{ℕ, ◌+◌, ◌≤◌}
use mathlib.Core.Path.{◌≡◌}
use mathlib.Core.List.{List, [], ◌∷◌, ◌++◌}
use native.Mathlib.Omega.{arith}
use lib.ListN.{length, take, drop, get_or, length-append}
use Rattle.book.specs.Book.{Block}
use Rattle.book.specs.Bytes.{name_bytes, head_size, text_at, child_count_at, block_bytes}
use Rattle.book.proofs.Parts.{behind, standing, reaches, byte_at}

-- where a name's length byte stands
pub name_placed : (s : List ℕ) (at : ℕ) (name rest : List ℕ) → drop at s ≡ name_bytes name rest →
    (at + 1 + length name ≤ length s) × (take (length name) (drop (at + 1) s) ≡ name) × (drop (at + 1 + length name) s ≡ rest)
unfolding name_bytes
name_placed s at name rest e =
    let d : drop (at + 1) s ≡ name ++ rest = behind s at (length name ∷ []) (name ++ rest) e in
    let l : at + 1 + length (name ++ rest) ≡ length s = reaches s at (length name) (name ++ rest) e in
    (omega (arith, length-append name rest), standing s (at + 1) name rest d, behind s (at + 1) name rest d)

-- what stands where a block does
pub record BlockPlaced (s : List ℕ) (at : ℕ) (b : Block) (after : List ℕ) : Type 0 where
  pub fits : at + head_size + length b.word ≤ length s
  pub parent : get_or s at 0 ≡ b.parent
  pub text : get_or s (at + text_at) 0 ≡ b.text
  pub size : get_or s (at + child_count_at) 0 ≡ length b.word
  pub word : take (length b.word) (drop (at + head_size) s) ≡ b.word
  pub rest : drop (at + head_size + length b.word) s ≡ after

pub block_placed : (s : List ℕ) (at : ℕ) (b : Block) (after : List ℕ) → drop at s ≡ block_bytes b after → BlockPlaced s at b after
unfolding block_bytes
block_placed s at b after e =
    let sized : List ℕ = length b.word ∷ (b.word ++ after) in
    let text : drop (at + text_at) s ≡ b.text ∷ sized = behind s at (b.parent ∷ []) (b.text ∷ sized) e in
    let count : drop (at + child_count_at) s ≡ sized = behind s at (b.parent ∷ (b.text ∷ [])) sized e in
    let word : drop (at + head_size) s ≡ b.word ++ after = behind s at (b.parent ∷ (b.text ∷ (length b.word ∷ []))) (b.word ++ after) e in
    let l : at + child_count_at + 1 + length (b.word ++ after) ≡ length s = reaches s (at + child_count_at) (length b.word) (b.word ++ after) count in
    record {
      fits = omega (arith, length-append b.word after);
      parent = byte_at s at b.parent (b.text ∷ sized) e;
      text = byte_at s (at + text_at) b.text sized text;
      size = byte_at s (at + child_count_at) (length b.word) (b.word ++ after) count;
      word = standing s (at + head_size) b.word after word;
      rest = behind s (at + head_size) b.word after word;
    }
