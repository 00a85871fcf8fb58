-- A means: the traversal of crate `declaration_walk` that fills the record, by places of the text: the tokens from a
-- place on, and what a token is by its kind and its bytes. The functions that read a model promise it; `known_next`,
-- `take_next`, `text_next` and `answer_next` in proofs/Places.antt join it to that traversal.
-- Assumes nothing.
use Rattle.std.specs.Prelude.{ℕ, zero, suc, ◌-◌, Bool, true, false, cond, List, eqb, get_or, set, take, drop}
use Rattle.std.proofs.Math.Option.{Option, some}
use Rattle.nameset.specs.Places.{places}
use Rattle.model.specs.Record.{no_factor}
use Rattle.declaration_spelling.specs.Token.{Token, word}
use Rattle.declaration_spelling.specs.Cut.{cut, tokens}
use Rattle.declaration_spelling.specs.Kind.{word_kind, pcdata_kind, comma_kind, question_kind, plus_kind, star_kind, token_kind}
use Rattle.declaration_spelling.specs.Read.{known, number_for}
use Rattle.declaration_walk.specs.Gather.{Rows, with_name, next_factor, with_mode}

-- The tokens from a place on.
unfoldable pub tokens_at : List ℕ → ℕ → List Token
tokens_at text at = tokens (cut (drop at text)).pieces

-- The bytes from one place up to another.
unfoldable pub part_of : List ℕ → ℕ → ℕ → List ℕ
part_of text from to = take (to - from) (drop from text)

-- No word, or a name of the book.
unfoldable pub known_kind : List (List ℕ) → ℕ → List ℕ → Bool
known_kind names kind bytes = cond (eqb kind word_kind) (known names bytes) true

-- The number of a word by the book, `places` where it is no name of it; 0 for what is no word.
unfoldable pub number_at : List (List ℕ) → ℕ → List ℕ → ℕ
number_at names kind bytes = cond (eqb kind word_kind) (cond (known names bytes) (number_for names bytes) places) 0

-- The word `#PCDATA`.
unfoldable pub text_kind : ℕ → List ℕ → Bool
text_kind kind bytes = cond (eqb kind word_kind) (eqb (token_kind (word bytes)) pcdata_kind) false

-- The mode that a mark stands for, 0 for what is no mark.
unfoldable pub kind_mode : ℕ → ℕ
kind_mode kind = cond (eqb kind question_kind) 1 (cond (eqb kind plus_kind) 2 (cond (eqb kind star_kind) 3 0))

-- One token; x is the number of a word.
unfoldable pub take_kind : ℕ → ℕ → ℕ → Rows → Option Rows
take_kind size kind x g = cond (eqb kind word_kind) (with_name x g) (cond (eqb kind comma_kind) (next_factor size g) (some (with_mode (kind_mode kind) g)))

-- ---- one token, row by row

-- No factor holds x.
unfoldable pub free_at : List ℕ → ℕ → Bool
free_at factor x = eqb (get_or factor x no_factor) no_factor

-- No word, or a name that no factor holds.
unfoldable pub free_kind : ℕ → List ℕ → ℕ → Bool
free_kind kind factor x = cond (eqb kind word_kind) (free_at factor x) true

unfoldable pub factor_after : ℕ → List ℕ → ℕ → ℕ → List ℕ
factor_after kind factor x index = cond (eqb kind word_kind) (set factor x index) factor

unfoldable pub mode_after : ℕ → List ℕ → ℕ → List ℕ
mode_after zero mode index = mode
mode_after (suc m) mode index = set mode index (suc m)

unfoldable pub index_after : ℕ → ℕ → ℕ
index_after kind index = cond (eqb kind comma_kind) (suc index) index
