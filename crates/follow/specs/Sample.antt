-- To be believed: paper 01, "A parent's sample is the words of all its blocks."; paper 02, U5, "That a parent has text
-- is a fact too". `text_law` in proofs/Text.antt says of `has_text` what it tests.
-- Assumes nothing.
use Rattle.std.specs.Prelude.{ℕ, Bool, false, ◌&&◌, ◌||◌, cond, ◌↔◌, eqb}
use mathlib.Core.List.{List, [], ◌∷◌, Memᴰ}
use Rattle.book.specs.Book.{Block}
use Rattle.model.specs.Accept.{Names}

-- The words of all blocks of a parent, in their order.
unfoldable pub words_of : ℕ → List Block → List (List ℕ)
words_of parent [] = []
words_of parent (b ∷ bs) = cond (eqb b.parent parent) (b.word ∷ words_of parent bs) (words_of parent bs)

-- Some block of the parent has text.
unfoldable pub has_text : ℕ → List Block → Bool
has_text parent [] = false
has_text parent (b ∷ bs) = (eqb b.parent parent && eqb b.text 1) || has_text parent bs

-- Each of the words is a word over n names.
abbrev pub Over : ℕ → List (List ℕ) → Type 0
Over n [] = Unit {0}
Over n (w ∷ ws) = Names n w × Over n ws

-- The same words, in whatever order and however often.
abbrev pub SameWords : List (List ℕ) → List (List ℕ) → Type 0
SameWords us vs = (w : List ℕ) → Memᴰ w us ↔ Memᴰ w vs
