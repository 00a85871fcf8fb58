-- The set of the names that no block has used: its members, and when it is empty.
-- Assumes nothing.
use Prim.Native.Nat.{ℕ, ◌≤◌, ◌<◌}
use mathlib.Core.Path.{◌≡◌, refl, sym, ◌∙◌, ap, ap₂}
use mathlib.Core.Bool.{Bool, true, false, ◌&&◌, ◌||◌, not, false≢true, and-true, and-false}
use mathlib.Core.List.{List, [], ◌∷◌}
use lib.Dec.{eqb}
use borrow.Author.Tests.{lt-ltb, le-ltb}
use native.Mathlib.Omega.{arith}
use native.Mathlib.Decide.{dec_lt}
use Rattle.nameset.specs.declared.NameSet.{NameSet}
use Rattle.nameset.specs.Set.{capacity, member, Sized, empty, below, without, is_empty}
use Rattle.nameset.proofs.Laws.{member_below, member_without, sized_below, sized_without, is_empty_none, none_is_empty, without_empty}
use Rattle.book.specs.Book.{Block}
use Rattle.book.specs.Used.{is_child, uses, is_used, some_unused}
use Rattle.book.proofs.Used.{some_unused_lem, none_unused}
use Rattle.book_unused.specs.Unused.{without_word, without_block, without_blocks}

-- ---- members

-- what is left of a member where it may be taken out twice
twice : (m a b : Bool) → ((m && not a) && not b) ≡ (m && not (a || b))
twice true true b = refl
twice true false b = refl
twice false a b = refl

member_word : (s : NameSet) (w : List ℕ) (j : ℕ) → member (without_word s w) j ≡ (member s j && not (is_child j w))
unfolding without_word is_child
member_word s [] j = sym (and-true (member s j))
member_word s (x ∷ w) j =
    member_word (without s x) w j ∙ ap (λ (m : Bool). m && not (is_child j w)) (member_without s x j) ∙ twice (member s j) (eqb x j) (is_child j w)

member_block : (s : NameSet) (b : Block) (j : ℕ) → member (without_block s b) j ≡ (member s j && not (uses b j))
unfolding without_block uses
member_block s b j =
    member_word (without s b.parent) b.word j
    ∙ ap (λ (m : Bool). m && not (is_child j b.word)) (member_without s b.parent j)
    ∙ twice (member s j) (eqb b.parent j) (is_child j b.word)

member_blocks : (s : NameSet) (bs : List Block) (j : ℕ) → member (without_blocks s bs) j ≡ (member s j && not (is_used bs j))
unfolding without_blocks is_used
member_blocks s [] j = sym (and-true (member s j))
member_blocks s (b ∷ bs) j =
    member_blocks (without_block s b) bs j ∙ ap (λ (m : Bool). m && not (is_used bs j)) (member_block s b j) ∙ twice (member s j) (uses b j) (is_used bs j)

-- ---- `Sized`

sized_word : (s : NameSet) (w : List ℕ) → Sized s → Sized (without_word s w)
unfolding without_word
sized_word s [] h = h
sized_word s (x ∷ w) h = sized_word (without s x) w (sized_without s x h)

sized_blocks : (s : NameSet) (bs : List Block) → Sized s → Sized (without_blocks s bs)
unfolding without_blocks without_block
sized_blocks s [] h = h
sized_blocks s (b ∷ bs) h = sized_blocks (without_block s b) bs (sized_word (without s b.parent) b.word (sized_without s b.parent h))

-- ---- the empty set

word_empty : (w : List ℕ) → without_word empty w ≡ empty
unfolding without_word
word_empty [] = refl
word_empty (x ∷ w) = ap (λ (s : NameSet). without_word s w) (without_empty x) ∙ word_empty w

-- A block takes nothing out of the empty set.
pub block_empty : (b : Block) → without_block empty b ≡ empty
unfolding without_block
block_empty b = ap (λ (s : NameSet). without_word s b.word) (without_empty b.parent) ∙ word_empty b.word

-- a set with a member is not empty
some_member : (s : NameSet) (i : ℕ) → member s i ≡ true → is_empty s ≡ false
some_member s i h = go (is_empty s) refl
  where
    go : (t : Bool) → is_empty s ≡ t → is_empty s ≡ false
    go true e = absurd (false≢true (sym (is_empty_none s e i) ∙ h))
    go false e = e

-- Of n names all are taken out exactly where none is unused.
pub all_taken_out : (n : ℕ) (bs : List Block) → n ≤ capacity → is_empty (without_blocks (below n) bs) ≡ not (some_unused n bs)
all_taken_out n bs few = go (some_unused n bs) refl
  where
    go : (t : Bool) → some_unused n bs ≡ t → is_empty (without_blocks (below n) bs) ≡ not t
    go true e =
        let (i, l, u) = some_unused_lem n bs e in
        let left : member (without_blocks (below n) bs) i ≡ true = member_blocks (below n) bs i ∙ ap₂ (λ (x y : Bool). x && not y) (member_below n i few ∙ lt-ltb i n l) u in
        some_member (without_blocks (below n) bs) i left
    go false e = none_is_empty (without_blocks (below n) bs) (sized_blocks (below n) bs (sized_below n)) (λ j h. member_blocks (below n) bs j ∙ out j (dec_lt j n))
      where
        out : (j : ℕ) → Dec (j < n) → (member (below n) j && not (is_used bs j)) ≡ false
        out j (yes l) = rw (none_unused n bs e j l) (and-false (member (below n) j))
        out j (no l) = let past : member (below n) j ≡ false = member_below n j few ∙ le-ltb j n (omega arith) in rw past
