-- A means: the kind of a token by its first byte; `by_kind` in proofs/ByKind.antt joins it to the tokens.
-- Assumes nothing.
use Rattle.std.specs.Prelude.{ℕ, cond, eqb}
use Rattle.name.specs.Word.{word_byte}
use Rattle.declaration_spelling.specs.Kind.{other_kind, word_kind, lpar_kind, rpar_kind, comma_kind, bar_kind, end_kind, question_kind, plus_kind, star_kind}

-- The kind of a token that is no word, by its first byte; what stands for the end of the text is no token.
unfoldable pub sign_kind : ℕ → ℕ
sign_kind next =
    cond (eqb next 40) lpar_kind
    (cond (eqb next 41) rpar_kind
    (cond (eqb next 44) comma_kind
    (cond (eqb next 124) bar_kind
    (cond (eqb next 62) end_kind
    (cond (eqb next 63) question_kind
    (cond (eqb next 43) plus_kind
    (cond (eqb next 42) star_kind other_kind)))))))

-- The kind of the token that begins with a byte. Of a word it does not say whether it is `EMPTY` or
-- `#PCDATA`.
unfoldable pub kind_of : ℕ → ℕ
unfolding sign_kind
kind_of next = cond (word_byte next) word_kind (sign_kind next)
