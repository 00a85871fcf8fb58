-- A means: the kinds of tokens, numbered as in the code (crates/declaration_scan/src/lib.rt). `lpar_is` and its like in
-- crates/declaration_walk/proofs/Arrows.antt say which token has a kind.
-- Assumes nothing.
use Rattle.std.specs.Prelude.{ℕ, zero, suc, cond}
use Rattle.declaration_spelling.specs.Token.{Token, word, lpar, rpar, comma, bar, end, mark, other}
use Rattle.declaration_spelling.specs.House.{empty_word, pcdata_word}
use Rattle.declaration_spelling.specs.Cut.{same}

-- Any byte that is no token of a declaration.
abbrev pub other_kind : ℕ
other_kind = 0

-- A word, and the words `EMPTY` and `#PCDATA`.
abbrev pub word_kind : ℕ
word_kind = 1

abbrev pub empty_kind : ℕ
empty_kind = 2

abbrev pub pcdata_kind : ℕ
pcdata_kind = 3

-- ( ) , | >
abbrev pub lpar_kind : ℕ
lpar_kind = 4

abbrev pub rpar_kind : ℕ
rpar_kind = 5

abbrev pub comma_kind : ℕ
comma_kind = 6

abbrev pub bar_kind : ℕ
bar_kind = 7

abbrev pub end_kind : ℕ
end_kind = 8

-- The marks ? + *
abbrev pub question_kind : ℕ
question_kind = 9

abbrev pub plus_kind : ℕ
plus_kind = 10

abbrev pub star_kind : ℕ
star_kind = 11

-- The kind of the mark of mode m + 1: no mode is above 3.
unfoldable pub mark_kind : ℕ → ℕ
mark_kind zero = question_kind
mark_kind (suc zero) = plus_kind
mark_kind (suc (suc zero)) = star_kind
mark_kind (suc (suc (suc m))) = other_kind

unfoldable pub token_kind : Token → ℕ
token_kind (word x) = cond (same x empty_word) empty_kind (cond (same x pcdata_word) pcdata_kind word_kind)
token_kind lpar = lpar_kind
token_kind rpar = rpar_kind
token_kind comma = comma_kind
token_kind bar = bar_kind
token_kind end = end_kind
token_kind (mark m) = mark_kind m
token_kind (other b) = other_kind
