-- To be believed: what a spelling of a record is: its factors with the names of each group in any order, with a choice
-- of brackets and of white space (paper 01, "The declaration"; paper 02, U1 and U5). Stated without the function that
-- reads; `read_exactly` in crates/declaration_walk/proofs/Theorem.antt says that the two agree.
-- Assumes nothing.
use Rattle.std.specs.Prelude.{ℕ, zero, suc, ◌≤◌, ◌<◌, ◌≡◌, cond, List, [], ◌∷◌, ◌++◌, ◌⊎◌, eqb, length}
use Rattle.model.specs.declared.Chain.{Chain}
use Rattle.model.specs.declared.Model.{Model}
use Rattle.model.specs.Record.{factor_of, mode_of, IsModel}
use Rattle.declaration_spelling.specs.Token.{Token, word, lpar, rpar, comma, bar, end, mark, Spells}
use Rattle.declaration_spelling.specs.House.{Factor, name_at, named, opening, empty_word, pcdata_word}

-- The tokens of a declaration. What follows a part is the last argument of a function, or `after` in a relation.

-- A mark: none for mode 0.
unfoldable pub mark_tokens : ℕ → List Token → List Token
mark_tokens zero after = after
mark_tokens (suc m) after = mark m ∷ after

-- The later names of a group, each behind `|`, and `)`.
unfoldable pub bars_tokens : List (List ℕ) → List Token → List Token
bars_tokens [] after = rpar ∷ after
bars_tokens (x ∷ xs) after = bar ∷ word x ∷ bars_tokens xs after

-- A group of one or more names and its mark: `(`, the names joined by `|`, `)`, then the mark of one of the four modes.
abbrev pub IsGroup : Factor (List ℕ) → List Token → List Token → Type 0
IsGroup f after ts =
    (x : List ℕ) × (xs : List (List ℕ)) × (f.names ≡ x ∷ xs) × (f.mode ≤ 3) × (ts ≡ lpar ∷ word x ∷ bars_tokens xs (mark_tokens f.mode after))

-- One name without brackets, and its mark.
abbrev pub IsBare : Factor (List ℕ) → List Token → List Token → Type 0
IsBare f after ts = (x : List ℕ) × (f.names ≡ x ∷ []) × (f.mode ≤ 3) × (ts ≡ word x ∷ mark_tokens f.mode after)

-- A factor: one name without brackets, or a group. So one name may also be "in its own brackets, any mark after the
-- closing bracket" (U1).
abbrev pub IsFactor : Factor (List ℕ) → List Token → List Token → Type 0
IsFactor f after ts = IsBare f after ts ⊎ IsGroup f after ts

-- The later factors, each behind `,`; then `)` and `>`.
abbrev pub AreLater : List (Factor (List ℕ)) → List Token → Type 0
AreLater [] ts = ts ≡ rpar ∷ end ∷ []
AreLater (f ∷ fs) ts = (us : List Token) × (after : List Token) × (ts ≡ comma ∷ us) × IsFactor f after us × AreLater fs after

-- A model without text, and `>`: `EMPTY`; the factors in brackets; or "a whole model that is one group of one or more
-- names, with or without a mark behind it, as one factor" (U1).
abbrev pub IsPlain : List (Factor (List ℕ)) → List Token → Type 0
IsPlain [] ts = ts ≡ word empty_word ∷ end ∷ []
IsPlain (f ∷ fs) ts =
    ((us : List Token) × (after : List Token) × (ts ≡ lpar ∷ us) × IsFactor f after us × AreLater fs after)
    ⊎ ((fs ≡ []) × IsGroup f (end ∷ []) ts)

-- A model with text, and `>`: `(#PCDATA)`, with or without a star behind it; or "`#PCDATA` first and the names in any
-- order", each behind `|`, in brackets with a star behind them. The names are those of one starred factor.
abbrev pub IsMixed : List (Factor (List ℕ)) → List Token → Type 0
IsMixed [] ts = (ts ≡ lpar ∷ word pcdata_word ∷ rpar ∷ end ∷ []) ⊎ (ts ≡ lpar ∷ word pcdata_word ∷ rpar ∷ mark 2 ∷ end ∷ [])
IsMixed (f ∷ fs) ts =
    (fs ≡ []) × (f.mode ≡ 3) × ((x : List ℕ) × (xs : List (List ℕ)) × (f.names ≡ x ∷ xs)
    × (ts ≡ lpar ∷ word pcdata_word ∷ bars_tokens (x ∷ xs) (mark 2 ∷ end ∷ [])))

-- A model by its text byte, and `>`.
abbrev pub IsContent : ℕ → List (Factor (List ℕ)) → List Token → Type 0
IsContent zero fs ts = IsPlain fs ts
IsContent (suc zero) fs ts = IsMixed fs ts
IsContent (suc (suc t)) fs ts = ⊥

-- The text is `<!ELEMENT`, the parent and the model, by the bytes of their names, with fitting white space; `mixed` is
-- the text byte of the model.
pub record SpelledBy (parent : List ℕ) (mixed : ℕ) (factors : List (Factor (List ℕ))) (text : List ℕ) : Type 0 where
  pub rest : List ℕ
  pub opens : text ≡ opening ++ rest
  pub tokens : List Token
  pub model : IsContent mixed factors tokens
  pub spaced : Spells (word opening) (word parent ∷ tokens) rest

-- How often x stands in a list.
unfoldable pub times : ℕ → List ℕ → ℕ
times x [] = 0
times x (y ∷ ys) = cond (eqb x y) (suc (times x ys)) (times x ys)

-- These are the factors of m from factor i on, each with its names in any order: a name of the factor stands there
-- once, any other never.
abbrev pub Reordered : Chain → ℕ → List (Factor ℕ) → Type 0
Reordered m i [] = i ≡ m.count
Reordered m i (f ∷ fs) =
    (i < m.count) × (f.mode ≡ mode_of m i) × ((x : ℕ) → times x f.names ≡ cond (eqb (factor_of m x) i) 1 0) × Reordered m (suc i) fs

-- The text is a spelling of the declaration of m, a model over the names, for the parent p.
-- `size` is the number of places of a record, 64 in paper 01.
pub record Spelled (size : ℕ) (names : List (List ℕ)) (text : List ℕ) (p : ℕ) (m : Model) : Type 0 where
  pub parent : p < length names
  pub model : IsModel size (length names) m
  pub factors : List (Factor ℕ)
  pub order : Reordered m.chain 0 factors
  pub spelled : SpelledBy (name_at names p) m.text (named names factors) text
