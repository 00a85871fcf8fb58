-- To be believed: the tokens of a declaration, the bytes of each, and the white space that may be between two of them
-- (paper 01, "The declaration"; paper 02, U1).
-- Assumes nothing.
use Rattle.std.specs.Prelude.{ℕ, zero, suc, ◌≡◌, Bool, true, ◌||◌, List, [], ◌∷◌, ◌++◌, eqb}

-- White space "as XML 1.0 production 3 has it (space, tab, CR, LF)".
unfoldable pub is_space : ℕ → Bool
is_space byte = eqb byte 32 || (eqb byte 9 || (eqb byte 13 || eqb byte 10))

-- A run of bytes that may be in a name or in `#PCDATA`; ( ) , | > ; the mark of mode m + 1; any other byte.
pub data Token : Type 0 where
  word : List ℕ → Token
  lpar rpar comma bar end : Token
  mark : ℕ → Token
  other : ℕ → Token

-- The mark of mode m + 1: ? + *
unfoldable pub mark_byte : ℕ → ℕ
mark_byte zero = 63
mark_byte (suc zero) = 43
mark_byte (suc (suc m)) = 42

unfoldable pub spell : Token → List ℕ
spell (word w) = w
spell lpar = 40 ∷ []
spell rpar = 41 ∷ []
spell comma = 44 ∷ []
spell bar = 124 ∷ []
spell end = 62 ∷ []
spell (mark m) = mark_byte m ∷ []
spell (other b) = b ∷ []

-- Between two tokens: no white space, one byte or more of it, any number.
pub data Room : Type 0 where
  tight apart free : Room

-- The white space before a word or `(`: some after a word, any after anything else.
unfoldable pub behind : Token → Room
behind (word w) = apart
behind lpar = free
behind rpar = free
behind comma = free
behind bar = free
behind end = free
behind (mark m) = free
behind (other b) = free

-- "one or more spaces in place of each space, and spaces before `>`, after and before any bracket, comma or bar, but
-- none before a mark"; since U1 any white space "wherever spaces were allowed"
unfoldable pub room : Token → Token → Room
room t (word w) = behind t
room t lpar = behind t
room t rpar = free
room t comma = free
room t bar = free
room t end = free
room t (mark m) = tight
room t (other b) = free

-- The bytes between two tokens are as many as their room lets in.
abbrev pub Fits : Room → List ℕ → Type 0
Fits tight gap = gap ≡ []
Fits apart gap = (b : ℕ) × (bs : List ℕ) × (gap ≡ b ∷ bs)
Fits free gap = Unit {0}

-- Every byte of the list passes the test.
abbrev pub All : (ℕ → Bool) → List ℕ → Type 0
All test [] = Unit {0}
All test (b ∷ bs) = (test b ≡ true) × All test bs

-- The text, behind the token t, is these tokens in order, with fitting white space before each, and nothing behind the
-- last.
abbrev pub Spells : Token → List Token → List ℕ → Type 0
Spells t [] text = text ≡ []
Spells t (u ∷ us) text =
    (gap : List ℕ) × (rest : List ℕ) × (text ≡ gap ++ (spell u ++ rest)) × All is_space gap × Fits (room t u) gap × Spells u us rest
