-- To be believed: the canonical form of a declaration, paper 01's house spelling: "`<!ELEMENT`, one space, the parent,
-- one space, `EMPTY` if F = 0, else `(`, the factors joined by `,`, and `)`; then `>`. A factor with one name is the
-- name; with more, `(`, the names in rising order joined by `|`, `)`. Its mark follows." Paper 02, U5, for a model with
-- text: `(#PCDATA)` if F = 0, else `(#PCDATA|a|b)*` with the names of its one factor, rising.
-- Assumes nothing.
use Rattle.std.specs.Prelude.{ℕ, zero, suc, cond, List, [], ◌∷◌, ◌++◌, eqb, length, get_or}
use Rattle.model.specs.declared.Chain.{Chain}
use Rattle.model.specs.declared.Model.{Model}
use Rattle.model.specs.Record.{factor_of, mode_of}
use Rattle.declaration_spelling.specs.Token.{mark_byte}

-- A factor: its names, as bytes or as numbers, and its mode.
pub record Factor (A : Type 0) : Type 0 where
  pub names : List A
  pub mode : ℕ

-- Of the r numbers from k on, those that factor i holds, rising.
unfoldable pub members : Chain → ℕ → ℕ → ℕ → List ℕ
members m i k zero = []
members m i k (suc r) = cond (eqb (factor_of m k) i) (k ∷ members m i (suc k) r) (members m i (suc k) r)

-- The r factors from factor i on, over n names.
unfoldable pub factors_from : Chain → ℕ → ℕ → ℕ → List (Factor ℕ)
factors_from m n i zero = []
factors_from m n i (suc r) = record { names = members m i 0 n; mode = mode_of m i } ∷ factors_from m n (suc i) r

-- All factors of the record.
unfoldable pub factors_of : Chain → ℕ → List (Factor ℕ)
factors_of m n = factors_from m n 0 m.count

-- The bytes of name x.
unfoldable pub name_at : List (List ℕ) → ℕ → List ℕ
name_at names x = get_or names x []

-- The bytes of each name of a list.
unfoldable pub names_at : List (List ℕ) → List ℕ → List (List ℕ)
names_at names [] = []
names_at names (x ∷ xs) = name_at names x ∷ names_at names xs

-- Factors by their names' bytes.
unfoldable pub named : List (List ℕ) → List (Factor ℕ) → List (Factor (List ℕ))
named names [] = []
named names (f ∷ fs) = record { names = names_at names f.names; mode = f.mode } ∷ named names fs

-- `<!ELEMENT`
unfoldable pub opening : List ℕ
opening = 60 ∷ 33 ∷ 69 ∷ 76 ∷ 69 ∷ 77 ∷ 69 ∷ 78 ∷ 84 ∷ []

-- `EMPTY`
unfoldable pub empty_word : List ℕ
empty_word = 69 ∷ 77 ∷ 80 ∷ 84 ∷ 89 ∷ []

-- `#PCDATA`
unfoldable pub pcdata_word : List ℕ
pcdata_word = 35 ∷ 80 ∷ 67 ∷ 68 ∷ 65 ∷ 84 ∷ 65 ∷ []

-- Each function below takes the text that comes after its own as its last argument, and gives both joined.

-- A mark: none for mode 0.
unfoldable pub mark_text : ℕ → List ℕ → List ℕ
mark_text zero after = after
mark_text (suc m) after = mark_byte m ∷ after

-- The later names of a group, each behind `|`, and `)`.
unfoldable pub bars_text : List (List ℕ) → List ℕ → List ℕ
bars_text [] after = 41 ∷ after
bars_text (x ∷ xs) after = 124 ∷ (x ++ bars_text xs after)

-- "A factor with one name is the name; with more, `(`, the names joined by `|`, `)`." A chain has no factor without a
-- name.
unfoldable pub group_text : List (List ℕ) → List ℕ → List ℕ
group_text [] after = 40 ∷ 41 ∷ after
group_text (x ∷ []) after = x ++ after
group_text (x ∷ y ∷ xs) after = 40 ∷ (x ++ bars_text (y ∷ xs) after)

unfoldable pub factor_text : Factor (List ℕ) → List ℕ → List ℕ
factor_text f after = group_text f.names (mark_text f.mode after)

-- The later factors, each behind `,`, and `)>`.
unfoldable pub others_text : List (Factor (List ℕ)) → List ℕ
others_text [] = 41 ∷ 62 ∷ []
others_text (f ∷ fs) = 44 ∷ factor_text f (others_text fs)

-- A model without text, and `>`.
unfoldable pub body_text : List (Factor (List ℕ)) → List ℕ
body_text [] = empty_word ++ (62 ∷ [])
body_text (f ∷ fs) = 40 ∷ factor_text f (others_text fs)

-- A model with text, and `>`: `(#PCDATA)`, or `(#PCDATA`, the names of the one factor that it has, each behind `|`, and
-- `)*`.
unfoldable pub mixed_text : List (Factor (List ℕ)) → List ℕ
mixed_text [] = 40 ∷ (pcdata_word ++ (41 ∷ 62 ∷ []))
mixed_text (f ∷ fs) = 40 ∷ (pcdata_word ++ bars_text f.names (42 ∷ 62 ∷ []))

-- A model by its text byte and its factors, and `>`.
unfoldable pub content_text : ℕ → List (Factor (List ℕ)) → List ℕ
content_text zero factors = body_text factors
content_text (suc t) factors = mixed_text factors

-- A declaration by the bytes of its parent, the text byte of its model, and the bytes of the names in its factors.
unfoldable pub house_text : List ℕ → ℕ → List (Factor (List ℕ)) → List ℕ
house_text parent mixed factors = opening ++ (32 ∷ (parent ++ (32 ∷ content_text mixed factors)))

-- The canonical form of the declaration of the model m for the parent p.
unfoldable pub declaration : List (List ℕ) → ℕ → Model → List ℕ
declaration names p m = house_text (name_at names p) m.text (named names (factors_of m.chain (length names)))
