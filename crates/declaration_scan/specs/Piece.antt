-- A means: the token that comes next in a text, by its place; `piece_over` and `piece_first` in proofs/Pieces.antt join
-- it to the tokens of the text.
-- Assumes nothing.
use Rattle.std.specs.Prelude.{ℕ, ◌+◌, cond, List, [], ◌∷◌, ltb, drop}
use Rattle.name.specs.Word.{word_byte}
use Rattle.declaration_spelling.specs.Token.{is_space, Token, word}
use Rattle.declaration_spelling.specs.Cut.{sign}
use Rattle.declaration_bytes.specs.Unread.{next_of, run_of}
use Rattle.declaration_scan.specs.declared.Piece.{Piece}
use Rattle.declaration_scan.specs.Kind.{kind_of}

-- How many bytes the token at the start of a text has: a run of the bytes of words, or one byte, or none at
-- the end of the text.
unfoldable pub token_length : List ℕ → ℕ
token_length [] = 0
token_length (b ∷ bs) = cond (word_byte b) (run_of word_byte (b ∷ bs)) 1

-- Where the token that begins at a place ends.
unfoldable pub word_end : List ℕ → ℕ → ℕ
word_end text from = from + token_length (drop from text)

-- Behind the white space.
unfoldable pub space_end : List ℕ → ℕ → ℕ
space_end text at = at + run_of is_space (drop at text)

-- The token that begins at `from`, where the white space before it begins at `at`.
abbrev pub piece_from : List ℕ → ℕ → ℕ → Piece
piece_from text at from = record { gap = ltb at from; kind = kind_of (next_of (drop from text)); from = from; to = word_end text from }

-- The next token from a place on.
unfoldable pub piece_at : List ℕ → ℕ → Piece
piece_at text at = piece_from text at (space_end text at)

-- The token whose bytes these are: a word, or a sign.
unfoldable pub token_of : List ℕ → Token
token_of [] = word []
token_of (b ∷ bs) = cond (word_byte b) (word (b ∷ bs)) (sign b)
