-- A means: the length of a declaration in canonical form. To be believed is `longest_declaration`, the greatest there is
-- (`longest_declaration_lem` in proofs/Length.antt).
-- Assumes nothing.
use Rattle.std.specs.Prelude.{ℕ, zero, suc, ◌+◌, List, [], ◌∷◌, length}
use Rattle.model.specs.declared.Model.{Model}
use Rattle.declaration_spelling.specs.House.{Factor, factors_of, name_at, named}

-- Paper 01: "The longest has 2,253 bytes."
abbrev pub longest_declaration : ℕ
longest_declaration = 2253

unfoldable pub mark_length : ℕ → ℕ
mark_length zero = 0
mark_length (suc m) = 1

-- each name and the `|` or `)` beside it
unfoldable pub names_length : List (List ℕ) → ℕ
names_length [] = 0
names_length (x ∷ xs) = length x + 1 + names_length xs

-- a group has one `(` more
unfoldable pub group_length : List (List ℕ) → ℕ
group_length [] = 2
group_length (x ∷ []) = length x
group_length (x ∷ y ∷ xs) = 1 + names_length (x ∷ y ∷ xs)

-- each factor and the `,` or `)` beside it
unfoldable pub factors_length : List (Factor (List ℕ)) → ℕ
factors_length [] = 0
factors_length (f ∷ fs) = group_length f.names + mark_length f.mode + 1 + factors_length fs

-- a model without text and `>`: `EMPTY` has 5 bytes, any other model a `(` more than its factors
unfoldable pub body_length : List (Factor (List ℕ)) → ℕ
body_length [] = 6
body_length (f ∷ fs) = 2 + factors_length (f ∷ fs)

-- a model with text and `>`: `(#PCDATA)>` has 10 bytes, and `(#PCDATA)*>` 11 without its names
unfoldable pub mixed_length : List (Factor (List ℕ)) → ℕ
mixed_length [] = 10
mixed_length (f ∷ fs) = 11 + names_length f.names

unfoldable pub content_length : ℕ → List (Factor (List ℕ)) → ℕ
content_length zero factors = body_length factors
content_length (suc t) factors = mixed_length factors

-- `<!ELEMENT` and two spaces have 11 bytes
unfoldable pub declaration_length : List (List ℕ) → ℕ → Model → ℕ
declaration_length names p m =
    11 + length (name_at names p) + content_length m.text (named names (factors_of m.chain (length names)))
