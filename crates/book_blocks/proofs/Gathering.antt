-- A loop over the blocks that gathers what they show: block after block, it is what the blocks so far show.
-- Assumes nothing.
use Rattle.std.specs.Prelude.{Ok, Err}
use Prim.Native.Nat.{ℕ, zero, suc, ◌+◌, ◌≤◌}
use mathlib.Core.Path.{◌≡◌, refl, sym, ◌∙◌, ap, subst}
use mathlib.Core.Bool.{Bool, true}
use mathlib.Core.List.{List, [], ◌∷◌, ◌++◌, append_assoc, append-nil}
use native.Mathlib.Omega.{arith}
use lib.ListN.{length, drop}
use Rattle.refusal.specs.declared.Refusal.{Refusal}
use Rattle.refusal.specs.Answer.{Answer, onward}
use Rattle.refusal.proofs.Answers.{onward_given, given_same}
use Rattle.nameset.specs.declared.NameSet.{NameSet}
use Rattle.nameset.specs.Set.{empty, is_empty}
use Rattle.book.specs.Field.{Field, field}
use Rattle.book.specs.Book.{Block, block_of, blocks_of}
use Rattle.book.specs.Bytes.{head_size}
use Rattle.book.specs.Stops.{BlocksBelow}
use Rattle.book.proofs.Told.{block_told}
use Rattle.book_unused.specs.Unused.{without_block, block_at}
use Rattle.book_blocks.specs.declared.BlocksEnd.{BlocksEnd}
use Rattle.book_blocks.specs.Tables.{block_step, blocks_end}
use Rattle.book_blocks.specs.Gathers.{Gathers, with_others, blocks_from, GathersAll}
use Rattle.book_blocks.proofs.Steps.{BlockRead, block_stopped}
use Rattle.book_blocks.proofs.Walk.{Walk, walk_none, walk_done, walk_rest, walk_stopped, walk_more}

-- ---- the blocks from the front of some bytes

from_none : (n m : ℕ) (s : List ℕ) → m ≤ 0 → blocks_from n m s ≡ []
unfolding blocks_from
from_none n zero s h = refl
from_none n (suc m) s h = absurd (omega arith)

-- where none of the blocks is refused, they are all of them
pub from_all : (n m : ℕ) (s : List ℕ) (f : Field (List Block)) → blocks_of n m s ≡ Ok f → blocks_from n m s ≡ f.value
unfolding blocks_of blocks_from with_others
from_all n zero s f e = ap (λ (x : Field (List Block)). x.value) (given_same (field [] s) f e)
from_all n (suc m) s f e = more (λ t g. from_all n m t g) (onward_given (block_of n s) _ f e)
  where
    more : ((t : List ℕ) (g : Field (List Block)) → blocks_of n m t ≡ Ok g → blocks_from n m t ≡ g.value) →
        ((b : Field Block) × (block_of n s ≡ Ok b) × (onward (blocks_of n m b.rest) (λ others. Ok (field (b.value ∷ others.value) others.rest)) ≡ Ok f)) →
        with_others (block_of n s) (blocks_from n m) ≡ f.value
    more again (b, h, e) =
        let o = onward_given (blocks_of n m b.rest) _ f e in
        ap (λ (a : Answer (Field Block)). with_others a (blocks_from n m)) h
        ∙ ap (λ (bs : List Block). b.value ∷ bs) (again b.rest o.0 o.1)
        ∙ ap (λ (x : Field (List Block)). x.value) (given_same _ f o.2)

-- each of them is a block over n names
pub from_below : (n m : ℕ) (s : List ℕ) → BlocksBelow n (blocks_from n m s)
unfolding blocks_from with_others
from_below n zero s = tt
from_below n (suc m) s = go (λ t. from_below n m t) (block_of n s) refl
  where
    go : ((t : List ℕ) → BlocksBelow n (blocks_from n m t)) → (a : Answer (Field Block)) → block_of n s ≡ a → BlocksBelow n (with_others a (blocks_from n m))
    go again (Ok b) e = let t = block_told n s b e in (t.parent, t.text, t.children, again b.rest)
    go again (Err r) e = tt

-- ---- one step

module _ (K : List Block → List ℕ → Type 0) (n : ℕ) (s : List ℕ) (at : ℕ) (t u : List ℕ) where
  pub gathers_block : (size : ℕ) (b : BlockRead n s at size) → Gathers K (Ok b.block) t u → Gathers K (block_of n (drop at s)) t u
  gathers_block size b h = subst (λ (a : Answer (Field Block)). Gathers K a t u) (sym b.read) h

  pub gathers_none : (r : Refusal) → block_of n (drop at s) ≡ Err r → u ≡ t → Gathers K (block_of n (drop at s)) t u
  gathers_none r e h = subst (λ (a : Answer (Field Block)). Gathers K a t u) (sym e) h

-- ---- the loop

-- Where a loop is: it has gathered the blocks `seen`, which leave `unused` of a set, and `left` are due from `at` on.
pub record Gathering (K : List Block → List ℕ → Type 0) (s : List ℕ) (n m from : ℕ) (set : NameSet) (t₀ : List ℕ) (left at : ℕ) (unused : NameSet) (t : List ℕ) : Type 0 where
  pub walk : Walk s n m from set left at unused
  pub seen : List Block
  pub kept : GathersAll K seen t₀ t
  pub split : blocks_from n m (drop from s) ≡ seen ++ blocks_from n left (drop at s)

-- what the whole loop has gathered
abbrev pub Gathered : (List Block → List ℕ → Type 0) → List ℕ → ℕ → ℕ → ℕ → List ℕ → List ℕ → Type 0
Gathered K s n m from t₀ t = GathersAll K (blocks_from n m (drop from s)) t₀ t

module _ (K : List Block → List ℕ → Type 0) (s : List ℕ) (n m from : ℕ) (set : NameSet) where
  pub gather_none : (unused : NameSet) (t : List ℕ) (left : ℕ) → from ≤ length s → unused ≡ set → left ≡ m → Gathering K s n m from set t left from unused t
  gather_none unused t left h e l =
      record {
        walk = walk_none s n m from set unused left h e l;
        seen = [];
        kept = λ bs k. subst (λ (cs : List Block). K cs t) (sym (append-nil bs)) k;
        split = rw l;
      }

  module _ (t₀ : List ℕ) (left at : ℕ) (unused : NameSet) (t : List ℕ) (g : Gathering K s n m from set t₀ left at unused t) where
    all_seen : g.seen ≡ blocks_from n m (drop from s) → (u : List ℕ) → u ≡ t → Gathered K s n m from t₀ u
    all_seen e u q bs k = rw (q, ← e) (g.kept bs k)

    pub gather_done : left ≤ 0 → (Ok (record { at = at; unused = unused }) ≡ blocks_end from set (blocks_of n m (drop from s))) × Gathered K s n m from t₀ t
    gather_done h = (
      walk_done s n m from set left at unused g.walk h,
      all_seen (sym (g.split ∙ ap (λ (bs : List Block). g.seen ++ bs) (from_none n left (drop at s) h) ∙ append-nil g.seen)) t refl,
    )

    -- where nothing is left of the set, the other blocks end the loop
    pub gather_rest_lem : (e : Bool) → e ≡ is_empty unused → e ≡ true → (r : Answer BlocksEnd) (u : List ℕ) → r ≡ blocks_end at empty (blocks_of n left (drop at s)) → Gathered K s n left at t u →
        (r ≡ blocks_end from set (blocks_of n m (drop from s))) × Gathered K s n m from t₀ u
    gather_rest_lem e is q r u answer others = (
      walk_rest s n m from set left at unused g.walk e is q r answer,
      λ bs h. subst (λ (cs : List Block). K cs u) (append_assoc bs g.seen (blocks_from n left (drop at s)) ∙ ap (λ (cs : List Block). bs ++ cs) (sym g.split))
          (others (bs ++ g.seen) (g.kept bs h)),
    )

    module _ (others : ℕ) (k : left ≡ suc others) where
      first : blocks_from n left (drop at s) ≡ with_others (block_of n (drop at s)) (blocks_from n others)
      unfolding blocks_from
      first = ap (λ (l : ℕ). blocks_from n l (drop at s)) k

      pub gather_stopped : (x : Answer ℕ) → x ≡ block_step (block_of n (drop at s)) → (r : Refusal) → x ≡ Err r → (u : List ℕ) → Gathers K (block_of n (drop at s)) t u →
          (Err r ≡ blocks_end from set (blocks_of n m (drop from s))) × Gathered K s n m from t₀ u
      unfolding with_others
      gather_stopped x q r v u step =
          let e = block_stopped (block_of n (drop at s)) r (sym v ∙ q) in
          let same : u ≡ t = subst (λ (a : Answer (Field Block)). Gathers K a t u) e step in (
            walk_stopped s n m from set left at unused g.walk others k r e,
            all_seen (sym (g.split ∙ ap (λ (bs : List Block). g.seen ++ bs) (first ∙ rw e) ∙ append-nil g.seen)) u same,
          )

      pub gather_more : (size : ℕ) → BlockRead n s at size → (next : NameSet) → next ≡ without_block unused (block_at s at size) → (u : List ℕ) → Gathers K (block_of n (drop at s)) t u →
          Gathering K s n m from set t₀ others (at + head_size + size) next u
      unfolding with_others
      gather_more size b next q u step =
          let own : Gathers K (Ok b.block) t u = subst (λ (a : Answer (Field Block)). Gathers K a t u) b.read step in
          let one : List Block = b.block.value ∷ [] in
          record {
            walk = walk_more s n m from set left at unused g.walk others k size b next q;
            seen = g.seen ++ one;
            kept = λ bs k. subst (λ (cs : List Block). K cs u) (append_assoc bs g.seen one) (own (bs ++ g.seen) (g.kept bs k));
            split =
                g.split
                ∙ ap (λ (bs : List Block). g.seen ++ bs) (first ∙ rw (b.read, b.rest))
                ∙ sym (append_assoc g.seen one (blocks_from n others (drop (at + head_size + size) s)));
          }
