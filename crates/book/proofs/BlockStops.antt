-- When exactly a block and blocks are refused: what a refusal tells, and what leads to one.
-- Assumes nothing.
use Rattle.std.specs.Prelude.{Ok, Err}
use Prim.Native.Nat.{ℕ, zero, suc, ◌≤◌, ◌<◌}
use mathlib.Core.Path.{◌≡◌, refl, ◌∙◌, ap}
use mathlib.Core.Bool.{true, not}
use mathlib.Core.List.{List, [], ◌∷◌}
use mathlib.Core.Logic.{◌⊎◌, inl, inr, ⊎_elim}
use native.Mathlib.Omega.{arith}
use native.Mathlib.Nat.{le_of_suc-le-suc}
use lib.Dec.{ltb}
use lib.ListN.{length}
use borrow.Author.Tests.{lt-ltb, le-ltb, ltb-true, ltb-false, not-true, not-false}
use Rattle.refusal.specs.declared.Refusal.{Refusal}
use Rattle.refusal.specs.declared.Refusal.TheVariants.{BytesMissing, NumberNotBelow, BadText}
use Rattle.refusal.specs.Answer.{onward}
use Rattle.refusal.proofs.Answers.{refused_same, given_refused, onward_refused, check_refused}
use Rattle.book.specs.Field.{Field, field, byte_of, bytes_of}
use Rattle.book.specs.Book.{Block, all_below, block_of, blocks_of}
use Rattle.book.specs.Bytes.{block_bytes, blocks_bytes}
use Rattle.book.specs.Stops.{BlocksBelow, BlockMissing, BlockText, BlockBad}
use Rattle.book.proofs.Told.{bytes_told, joined, taken, counted, texted, block_told}
use Rattle.book.proofs.FieldStops.{bytes_missing, bytes_given, bytes_stop}

-- ---- a block

-- what is wrong with the block at the head of `rest`, and its number
pub data BlockStop (n : ℕ) (rest : List ℕ) (r : Refusal) : Type 0 where
  cut : BlockMissing n rest → BytesMissing ≡ r → BlockStop n rest r
  over : BlockBad n rest → NumberNotBelow ≡ r → BlockStop n rest r
  marked : BlockText n rest → BadText ≡ r → BlockStop n rest r

-- behind a parent that is below n
module _ (n p : ℕ) (r : Refusal) (below : p < n) where
  module _ (text : ℕ) (low : text ≤ 1) where
    word_stop : (size : ℕ) (more : List ℕ) → onward (bytes_of size more) (taken n p text) ≡ Err r → BlockStop n (p ∷ text ∷ size ∷ more) r
    unfolding block_bytes
    word_stop size more e =
        ⊎_elim (λ h. let k = bytes_stop size more r h in cut (inr (inr (inr (p, text, size, more, refl, below, low, k.0)))) k.1) (λ h. read h.0 h.1 h.2)
        (onward_refused (bytes_of size more) (taken n p text) r e)
      where
        read : (w : Field (List ℕ)) → bytes_of size more ≡ Ok w → taken n p text w ≡ Err r → BlockStop n (p ∷ text ∷ size ∷ more) r
        read w b e =
            let t = bytes_told size more w b in
            let block : Block = record { parent = p; text = text; word = w.value } in
            let s : (p ∷ text ∷ size ∷ more) ≡ block_bytes block w.rest = rw (t.0, t.1) refl in
            ⊎_elim (λ h. over (inr (block, w.rest, s, below, low, not-true _ h.0)) h.1) (λ h. absurd (given_refused _ r h.1))
            (check_refused (not (all_below n w.value)) NumberNotBelow _ r e)

    size_stop : (s : List ℕ) → counted n p text s ≡ Err r → BlockStop n (p ∷ text ∷ s) r
    unfolding byte_of
    size_stop [] e = cut (inr (inr (inl (p, text, refl, below, low)))) (refused_same {A = Field Block} BytesMissing r e)
    size_stop (size ∷ more) e = word_stop size more e

  text_stop : (s : List ℕ) → onward (byte_of s) (texted n p) ≡ Err r → BlockStop n (p ∷ s) r
  unfolding byte_of
  text_stop [] e = cut (inr (inl (p, refl, below))) (refused_same {A = Field Block} BytesMissing r e)
  text_stop (text ∷ more) e =
      ⊎_elim (λ h. marked (p, text, more, refl, below, ltb-true 1 text h.0) h.1) (λ h. size_stop text (ltb-false 1 text h.0) more h.1)
      (check_refused (ltb 1 text) BadText _ r e)

pub block_stop : (n : ℕ) (s : List ℕ) (r : Refusal) → block_of n s ≡ Err r → BlockStop n s r
unfolding block_of byte_of
block_stop n [] r e = cut (inl refl) (refused_same {A = Field Block} BytesMissing r e)
block_stop n (p ∷ more) r e =
    ⊎_elim (λ h. over (inl (p, more, refl, ltb-false p n (not-true (ltb p n) h.0))) h.1)
    (λ h. text_stop n p r (ltb-true p n (not-false (ltb p n) h.0)) more h.1)
    (check_refused (not (ltb p n)) NumberNotBelow (onward (byte_of more) (texted n p)) r e)

pub block_missing : (n : ℕ) (rest : List ℕ) → BlockMissing n rest → block_of n rest ≡ Err BytesMissing
unfolding block_of byte_of
block_missing n rest (inl e) = rw e
block_missing n rest (inr (inl (p, e, l))) = rw (e, lt-ltb p n l)
block_missing n rest (inr (inr (inl (p, text, e, l, t)))) = rw (e, lt-ltb p n l, le-ltb 1 text t)
block_missing n rest (inr (inr (inr (p, text, size, more, e, l, t, k)))) = rw (e, lt-ltb p n l, le-ltb 1 text t, bytes_missing size more k)

pub block_text : (n : ℕ) (rest : List ℕ) → BlockText n rest → block_of n rest ≡ Err BadText
unfolding block_of byte_of
block_text n rest (p, text, more, e, l, t) = rw (e, lt-ltb p n l, lt-ltb 1 text t)

pub block_bad : (n : ℕ) (rest : List ℕ) → BlockBad n rest → block_of n rest ≡ Err NumberNotBelow
unfolding block_of byte_of block_bytes
block_bad n rest (inl (p, more, e, h)) = rw (e, le-ltb p n h)
block_bad n rest (inr (b, more, e, l, t, k)) = rw (e, lt-ltb b.parent n l, le-ltb 1 b.text t, bytes_given b.word more, k)

block_given : (n : ℕ) (b : Block) (rest : List ℕ) → b.parent < n → b.text ≤ 1 → all_below n b.word ≡ true → block_of n (block_bytes b rest) ≡ Ok (field b rest)
unfolding block_of byte_of block_bytes
block_given n b rest l t k = rw (lt-ltb b.parent n l, le-ltb 1 b.text t, bytes_given b.word rest, k)

-- ---- blocks

-- some blocks stand there, and the one behind them is refused
pub record BlocksStop (n k : ℕ) (s : List ℕ) (r : Refusal) : Type 0 where
  pub blocks : List Block
  pub rest : List ℕ
  pub within : BlocksBelow n blocks
  pub stand : s ≡ blocks_bytes blocks rest
  pub fewer : length blocks < k
  pub at : block_of n rest ≡ Err r

pub blocks_stop : (n k : ℕ) (s : List ℕ) (r : Refusal) → blocks_of n k s ≡ Err r → BlocksStop n k s r
unfolding blocks_of blocks_bytes
blocks_stop n zero s r e = absurd (given_refused _ r e)
blocks_stop n (suc k) s r e = more (λ t h. blocks_stop n k t r h) (onward_refused (block_of n s) _ r e)
  where
    behind : (b : Field Block) → block_of n s ≡ Ok b → BlocksStop n k b.rest r → BlocksStop n (suc k) s r
    behind b h u =
        let t = block_told n s b h in
        record {
          blocks = b.value ∷ u.blocks;
          rest = u.rest;
          within = (t.parent, t.text, t.children, u.within);
          stand = t.bytes ∙ ap (block_bytes b.value) u.stand;
          fewer = omega (arith, u.fewer);
          at = u.at;
        }

    more : ((t : List ℕ) → blocks_of n k t ≡ Err r → BlocksStop n k t r) →
        (block_of n s ≡ Err r) ⊎ ((b : Field Block) × (block_of n s ≡ Ok b) × (onward (blocks_of n k b.rest) (joined b) ≡ Err r)) → BlocksStop n (suc k) s r
    more again (inl h) = record { blocks = []; rest = s; within = tt; stand = refl; fewer = omega arith; at = h }
    more again (inr (b, h, e)) =
        ⊎_elim (λ q. behind b h (again b.rest q)) (λ q. absurd (given_refused _ r q.2)) (onward_refused (blocks_of n k b.rest) (joined b) r e)

pub blocks_refused : (n : ℕ) (bs : List Block) (rest : List ℕ) (r : Refusal) (k : ℕ) → BlocksBelow n bs → length bs < k → block_of n rest ≡ Err r →
    blocks_of n k (blocks_bytes bs rest) ≡ Err r
unfolding blocks_of blocks_bytes
blocks_refused n [] rest r zero w l e = absurd (omega arith)
blocks_refused n [] rest r (suc k) w l e = rw e
blocks_refused n (b ∷ bs) rest r zero w l e = absurd (omega arith)
blocks_refused n (b ∷ bs) rest r (suc k) (p, t, c, w) l e = rw (block_given n b (blocks_bytes bs rest) p t c, blocks_refused n bs rest r k w (le_of_suc-le-suc l) e)

pub blocks_given : (n : ℕ) (bs : List Block) (rest : List ℕ) → BlocksBelow n bs → blocks_of n (length bs) (blocks_bytes bs rest) ≡ Ok (field bs rest)
unfolding blocks_of blocks_bytes
blocks_given n [] rest w = refl
blocks_given n (b ∷ bs) rest (p, t, c, w) = rw (block_given n b (blocks_bytes bs rest) p t c, blocks_given n bs rest w)
