-- A loop over the blocks: what is left to read decides the answer.
-- Assumes nothing.
use Rattle.std.specs.Prelude.{Ok, Err}
use Prim.Native.Nat.{ℕ, zero, suc, ◌+◌, ◌≤◌}
use mathlib.Core.Path.{◌≡◌, refl, sym, ◌∙◌, ap}
use mathlib.Core.Bool.{Bool, true}
use mathlib.Core.List.{List, ◌∷◌}
use native.Mathlib.Omega.{arith}
use lib.ListN.{length, drop}
use Rattle.refusal.specs.declared.Refusal.{Refusal}
use Rattle.refusal.specs.Answer.{Answer, onward}
use Rattle.nameset.specs.declared.NameSet.{NameSet}
use Rattle.nameset.specs.Set.{empty, is_empty}
use Rattle.nameset.proofs.Laws.{is_empty_is}
use Rattle.book.specs.Field.{Field, field}
use Rattle.book.specs.Book.{Block, block_of, blocks_of}
use Rattle.book.specs.Bytes.{head_size}
use Rattle.book_unused.specs.Unused.{without_block, without_blocks, block_at}
use Rattle.book_blocks.specs.declared.BlocksEnd.{BlocksEnd}
use Rattle.book_blocks.specs.Tables.{blocks_end, behind_blocks}
use Rattle.book_blocks.proofs.Steps.{BlockRead, same_block}

-- Where a loop is: `left` blocks are due from `at` on, and `unused` is what those before them leave of a set; they decide
-- what the m blocks from `from` on give.
pub record Walk (s : List ℕ) (n m from : ℕ) (set : NameSet) (left at : ℕ) (unused : NameSet) : Type 0 where
  pub within : at ≤ length s
  pub same : blocks_end from set (blocks_of n m (drop from s)) ≡ blocks_end at unused (blocks_of n left (drop at s))

pub walk_none : (s : List ℕ) (n m from : ℕ) (set unused : NameSet) (left : ℕ) → from ≤ length s → unused ≡ set → left ≡ m → Walk s n m from set left from unused
walk_none s n m from set unused left h e l = record { within = h; same = rw (e, l) }

one_more : (at : ℕ) (unused : NameSet) (b : Block) (a : Answer (Field (List Block))) →
    blocks_end at unused (onward a (λ others. Ok (field (b ∷ others.value) others.rest))) ≡ blocks_end (at + head_size + length b.word) (without_block unused b) a
unfolding blocks_end behind_blocks without_blocks
one_more at unused b (Ok blocks) = refl
one_more at unused b (Err r) = refl

none_left : (n left at : ℕ) (unused : NameSet) (s : List ℕ) → left ≤ 0 → blocks_end at unused (blocks_of n left s) ≡ Ok (record { at = at; unused = unused })
unfolding blocks_end blocks_of behind_blocks without_blocks
none_left n zero at unused s h = refl
none_left n (suc left) at unused s h = absurd (omega arith)

module _ (s : List ℕ) (n m from : ℕ) (set : NameSet) (left at : ℕ) (unused : NameSet) (w : Walk s n m from set left at unused) where
  pub walk_done : left ≤ 0 → Ok (record { at = at; unused = unused }) ≡ blocks_end from set (blocks_of n m (drop from s))
  walk_done h = sym (w.same ∙ none_left n left at unused (drop at s) h)

  -- where nothing is left of the set, what the other blocks give for the empty set is the answer
  pub walk_rest : (e : Bool) → e ≡ is_empty unused → e ≡ true → (r : Answer BlocksEnd) → r ≡ blocks_end at empty (blocks_of n left (drop at s)) → r ≡ blocks_end from set (blocks_of n m (drop from s))
  walk_rest e is q r h = h ∙ ap (λ (u : NameSet). blocks_end at u (blocks_of n left (drop at s))) (sym (is_empty_is unused (sym is ∙ q))) ∙ sym w.same

  module _ (others : ℕ) (k : left ≡ suc others) where
    pub walk_stopped : (r : Refusal) → block_of n (drop at s) ≡ Err r → Err r ≡ blocks_end from set (blocks_of n m (drop from s))
    unfolding blocks_end blocks_of
    walk_stopped r e = sym (w.same ∙ rw (k, e))

    pub walk_more : (size : ℕ) → BlockRead n s at size → (next : NameSet) → next ≡ without_block unused (block_at s at size) → Walk s n m from set others (at + head_size + size) next
    unfolding blocks_of
    walk_more size t next e =
        let q : next ≡ without_block unused t.block.value = e ∙ ap (without_block unused) (same_block n s at size t) in
        record {
          within = t.fits;
          same =
              w.same
              ∙ ap (λ (l : ℕ). blocks_end at unused (blocks_of n l (drop at s))) k
              ∙ rw (t.read, t.rest, ← t.size, q) (one_more at unused t.block.value (blocks_of n others t.block.rest));
        }
