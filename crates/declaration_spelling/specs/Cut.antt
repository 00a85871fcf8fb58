-- A means: a text cut into tokens, and a test of the white space between them. `cut_sound` and `cut_complete` in
-- proofs/Cutting.antt join it to `Spells`.
-- Assumes nothing.
use Rattle.std.specs.Prelude.{ℕ, Bool, true, false, cond, not, ◌&&◌, List, [], ◌∷◌, eqb}
use Rattle.std.proofs.Math.Option.{Option, none, some}
use Rattle.name.specs.Word.{word_byte}
use Rattle.declaration_spelling.specs.Token.{is_space, Token, word, lpar, rpar, comma, bar, end, mark, other, Room, tight, apart, free, room}

-- Two byte lists are equal.
unfoldable pub same : List ℕ → List ℕ → Bool
same [] [] = true
same [] (b ∷ bs) = false
same (a ∷ as') [] = false
same (a ∷ as') (b ∷ bs) = eqb a b && same as' bs

-- The text behind a fixed beginning.
unfoldable pub strip : List ℕ → List ℕ → Option (List ℕ)
strip [] text = some text
strip (a ∷ as') [] = none
strip (a ∷ as') (b ∷ bs) = cond (eqb a b) (strip as' bs) none

-- ---- a text cut into tokens

-- A token, and whether white space stands behind it.
pub record SpacedToken : Type 0 where
  pub token : Token
  pub gap : Bool

-- A text: whether white space stands before its first token, and its pieces.
pub record Cut : Type 0 where
  pub gap : Bool
  pub pieces : List SpacedToken

-- The token of a byte that is in no word.
unfoldable pub sign : ℕ → Token
sign b =
    cond (eqb b 40) lpar
    (cond (eqb b 41) rpar
    (cond (eqb b 44) comma
    (cond (eqb b 124) bar
    (cond (eqb b 62) end
    (cond (eqb b 63) (mark 0)
    (cond (eqb b 43) (mark 1)
    (cond (eqb b 42) (mark 2) (other b))))))))

unfoldable pub at_front : Token → Cut → Cut
at_front t c = record { gap = false; pieces = record { token = t; gap = c.gap } ∷ c.pieces }

unfoldable pub space_before : Cut → Cut
space_before c = record { gap = true; pieces = c.pieces }

-- A word's byte right before a token makes a word longer, and is a word of its own before any other.
unfoldable pub longer : ℕ → Token → Bool → List SpacedToken → Cut
longer b (word w) g ps = record { gap = false; pieces = record { token = word (b ∷ w); gap = g } ∷ ps }
longer b lpar g ps = at_front (word (b ∷ [])) record { gap = false; pieces = record { token = lpar; gap = g } ∷ ps }
longer b rpar g ps = at_front (word (b ∷ [])) record { gap = false; pieces = record { token = rpar; gap = g } ∷ ps }
longer b comma g ps = at_front (word (b ∷ [])) record { gap = false; pieces = record { token = comma; gap = g } ∷ ps }
longer b bar g ps = at_front (word (b ∷ [])) record { gap = false; pieces = record { token = bar; gap = g } ∷ ps }
longer b end g ps = at_front (word (b ∷ [])) record { gap = false; pieces = record { token = end; gap = g } ∷ ps }
longer b (mark m) g ps = at_front (word (b ∷ [])) record { gap = false; pieces = record { token = mark m; gap = g } ∷ ps }
longer b (other d) g ps = at_front (word (b ∷ [])) record { gap = false; pieces = record { token = other d; gap = g } ∷ ps }

unfoldable pub letter_before : ℕ → Bool → List SpacedToken → Cut
letter_before b true ps = at_front (word (b ∷ [])) record { gap = true; pieces = ps }
letter_before b false [] = at_front (word (b ∷ [])) record { gap = false; pieces = [] }
letter_before b false (p ∷ ps) = longer b p.token p.gap ps

-- One byte more before a text: white space, a word's byte, or any other.
unfoldable pub byte_before : Bool → Bool → ℕ → Cut → Cut
byte_before true l b c = space_before c
byte_before false true b c = letter_before b c.gap c.pieces
byte_before false false b c = at_front (sign b) c

unfoldable pub cut : List ℕ → Cut
cut [] = record { gap = false; pieces = [] }
cut (b ∷ bs) = byte_before (is_space b) (word_byte b) b (cut bs)

-- ---- the white space

unfoldable pub fits : Room → Bool → Bool
fits tight gap = not gap
fits apart gap = gap
fits free gap = true

-- White space stands only where it may, and none at the end.
unfoldable pub spaced : Token → Bool → List SpacedToken → Bool
spaced t gap [] = not gap
spaced t gap (p ∷ ps) = fits (room t p.token) gap && spaced p.token p.gap ps

unfoldable pub tokens : List SpacedToken → List Token
tokens [] = []
tokens (p ∷ ps) = p.token ∷ tokens ps
