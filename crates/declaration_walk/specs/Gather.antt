-- A means: a text that has the form of a declaration, read token by token: every name looked up (14), then the record
-- filled, a name twice (15). `read_exactly` in proofs/Theorem.antt joins it to `Spelled`, proofs/Refusals.antt to the
-- conditions of 13, 14 and 15.
-- Assumes nothing.
use Rattle.std.specs.Prelude.{ℕ, zero, suc, Bool, false, cond, not, List, [], ◌∷◌, eqb, ltb, get_or, set, replicate, drop, Ok, Err}
use Rattle.std.proofs.Math.Option.{Option, none, some}
use Rattle.refusal.specs.declared.Refusal.TheVariants.{NotADeclaration, UnknownName, NameTwice}
use Rattle.refusal.specs.Answer.{Answer, onward, refuse_if}
use Rattle.model.specs.declared.Model.{Model}
use Rattle.model.specs.Record.{no_factor, model_with, empty_chain}
use Rattle.declaration_spelling.specs.Token.{Token, word, lpar, rpar, comma, bar, end, mark, other}
use Rattle.declaration_spelling.specs.Cut.{cut, tokens}
use Rattle.declaration_spelling.specs.Kind.{pcdata_kind, bar_kind, token_kind}
use Rattle.declaration_spelling.specs.declared.Declared.{Declared}
use Rattle.declaration_spelling.specs.Read.{known, number_for, declared, or_refuse}
use Rattle.declaration_walk.specs.Walk.{is_word, all_pass, has_form}

-- ---- every name is in the book

abbrev pub known_tokens : List (List ℕ) → List Token → Bool
known_tokens names ts = all_pass (known names) ts

-- ---- the record under way

-- The number of the factor under way, the factor of each name, the mode of each factor.
pub record Rows : Type 0 where
  pub index : ℕ
  pub factor : List ℕ
  pub mode : List ℕ

-- The first factor is under way and nothing is filled.
unfoldable pub start_rows : ℕ → Rows
start_rows size = record { index = 0; factor = replicate size no_factor; mode = replicate size 0 }

-- No factor holds x yet.
unfoldable pub is_free : Rows → ℕ → Bool
is_free g x = eqb (get_or g.factor x no_factor) no_factor

-- The name x in the factor under way; none where a factor holds it already.
unfoldable pub with_name : ℕ → Rows → Option Rows
with_name x g = cond (is_free g x) (some record { index = g.index; factor = set g.factor x g.index; mode = g.mode }) none

-- The next factor; none where the record has no place for it: as each factor has a name, a name came twice.
unfoldable pub next_factor : ℕ → Rows → Option Rows
next_factor size g = cond (ltb (suc g.index) size) (some record { index = suc g.index; factor = g.factor; mode = g.mode }) none

-- A mode for the factor under way: 0 is there already.
unfoldable pub with_mode : ℕ → Rows → Rows
with_mode zero g = g
with_mode (suc m) g = record { index = g.index; factor = g.factor; mode = set g.mode g.index (suc m) }

-- One token.
unfoldable pub take_token : ℕ → List (List ℕ) → Token → Rows → Option Rows
take_token size names (word x) g = with_name (number_for names x) g
take_token size names lpar g = some g
take_token size names rpar g = some g
take_token size names comma g = next_factor size g
take_token size names bar g = some g
take_token size names end g = some g
take_token size names (mark m) g = some (with_mode (suc m) g)
take_token size names (other b) g = some g

-- One step after another, as long as there is one.
unfoldable pub and_then : {A B : Type 0} → Option A → (A → Option B) → Option B
and_then none next = none
and_then (some a) next = next a

-- The tokens from left to right.
unfoldable pub gather_from : ℕ → List (List ℕ) → List Token → Rows → Option Rows
gather_from size names [] g = some g
gather_from size names (t ∷ ts) g = and_then (take_token size names t g) (gather_from size names ts)

-- The model with this text byte, once its last factor is filled.
unfoldable pub model_of : ℕ → Rows → Model
model_of mixed g = model_with record { count = suc g.index; factor = g.factor; mode = g.mode } mixed

-- ---- the answer

-- The factors of a model, for a parent that is known: 14, then 15, else the record. `mixed` is the text byte.
unfoldable pub factors_answer : ℕ → List (List ℕ) → ℕ → ℕ → List Token → Answer Declared
factors_answer size names p mixed ts =
    refuse_if (not (known_tokens names ts)) UnknownName
    (onward (or_refuse NameTwice (gather_from size names ts (start_rows size))) (λ g. Ok (declared p (model_of mixed g))))

-- A model without a factor: `EMPTY`, or with text.
abbrev pub no_factors : ℕ → ℕ → ℕ → Answer Declared
no_factors size p mixed = Ok (declared p (model_with (empty_chain size) mixed))

unfoldable pub begins_with_word : List Token → Bool
begins_with_word [] = false
begins_with_word (t ∷ ts) = is_word t

unfoldable pub begins_with : ℕ → List Token → Bool
begins_with kind [] = false
begins_with kind (t ∷ ts) = eqb (token_kind t) kind

-- What stands behind `(#PCDATA`: a bar before each name of its one factor, or no name.
unfoldable pub mixed_answer : ℕ → List (List ℕ) → ℕ → List Token → Answer Declared
mixed_answer size names p ts = cond (begins_with bar_kind ts) (factors_answer size names p 1 ts) (no_factors size p 1)

-- The model: a word is `EMPTY`, for the text has the form; `#PCDATA` may stand behind the bracket.
unfoldable pub content_answer : ℕ → List (List ℕ) → ℕ → List Token → Answer Declared
content_answer size names p ts =
    cond (begins_with_word ts) (no_factors size p 0)
    (cond (begins_with pcdata_kind (drop 1 ts)) (mixed_answer size names p (drop 2 ts)) (factors_answer size names p 0 ts))

-- The parent, which is a name of the book, and the model.
unfoldable pub tokens_answer : ℕ → List (List ℕ) → List Token → Answer Declared
tokens_answer size names [] = Err NotADeclaration
tokens_answer size names (word x ∷ ts) = refuse_if (not (known names x)) UnknownName (content_answer size names (number_for names x) ts)
tokens_answer size names (lpar ∷ ts) = Err NotADeclaration
tokens_answer size names (rpar ∷ ts) = Err NotADeclaration
tokens_answer size names (comma ∷ ts) = Err NotADeclaration
tokens_answer size names (bar ∷ ts) = Err NotADeclaration
tokens_answer size names (end ∷ ts) = Err NotADeclaration
tokens_answer size names (mark m ∷ ts) = Err NotADeclaration
tokens_answer size names (other b ∷ ts) = Err NotADeclaration

-- The text: 13, then what stands behind the nine bytes of `<!ELEMENT`.
unfoldable pub text_answer : ℕ → List (List ℕ) → List ℕ → Answer Declared
text_answer size names text = refuse_if (not (has_form text)) NotADeclaration (tokens_answer size names (tokens (cut (drop 9 text)).pieces))
