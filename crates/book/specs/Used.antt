-- To be believed: which names of a book its blocks use (paper 02, U6: "A book with a name that is neither a parent nor
-- a child in any block is to be turned down").
-- From `is_child` on a means: `unused_law` in proofs/Used.antt joins `has_unused` to `Unused`.
-- Assumes nothing.
use Rattle.std.specs.Prelude.{ℕ, ◌<◌, ◌≡◌, Bool, false, ◌||◌, not, ◌⊎◌, eqb, length}
use mathlib.Core.List.{List, [], ◌∷◌, Memᴰ}
use Rattle.nameset.specs.Tests.{any_below}
use Rattle.book.specs.Book.{Block, Book}

-- One of the blocks has the name with number i as its parent or among its children.
abbrev pub Used : List Block → ℕ → Type 0
Used blocks i = (k : Block) × Memᴰ k blocks × ((k.parent ≡ i) ⊎ Memᴰ i k.word)

-- Each name of the book is a parent or a child in some block.
abbrev pub AllUsed : Book → Type 0
AllUsed b = (i : ℕ) → i < length b.names → Used b.blocks i

-- The number i is that of a name of the book "that is neither a parent nor a child in any block".
pub record Unused (b : Book) (i : ℕ) : Type 0 where
  pub name : i < length b.names
  pub no_parent : (k : Block) → Memᴰ k b.blocks → ¬ (k.parent ≡ i)
  pub no_child : (k : Block) → Memᴰ k b.blocks → ¬ Memᴰ i k.word

-- The number i is in a word.
unfoldable pub is_child : ℕ → List ℕ → Bool
is_child i [] = false
is_child i (x ∷ xs) = eqb x i || is_child i xs

-- A block uses the number i, for its parent or for a child.
unfoldable pub uses : Block → ℕ → Bool
uses k i = eqb k.parent i || is_child i k.word

-- One of the blocks uses it.
unfoldable pub is_used : List Block → ℕ → Bool
is_used [] i = false
is_used (k ∷ ks) i = uses k i || is_used ks i

-- Some number below n is used by none of the blocks.
unfoldable pub some_unused : ℕ → List Block → Bool
some_unused n blocks = any_below n (λ i. not (is_used blocks i))

-- Some name of the book is used by none of its blocks.
unfoldable pub has_unused : Book → Bool
has_unused b = some_unused (length b.names) b.blocks
