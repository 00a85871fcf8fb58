-- To be believed: the marked lines of paper 01, "Samples with their models", as printed there; and with text, by paper
-- 02, U5.
-- Assumes nothing.
use Rattle.std.specs.Prelude.{ℕ, suc, Bool, true, false, cond, List, [], ◌∷◌, ◌++◌, map, eqb, length}
use Prim.Native.String.{String}
use Rattle.nameset.specs.Places.{places}
use Rattle.model.specs.declared.Model.{Model}
use Rattle.chain_sample.specs.Sample.{model_of_words}
use Rattle.declaration_spelling.specs.House.{declaration}
use Rattle.declaration_spelling.specs.Text.{bytes}

-- A line of the table: its names, its sample and its model.
pub record Line : Type 0 where
  -- the names, one letter each, in rising order
  pub letters : String
  -- the words of the sample, each a string of letters; "" is the empty word
  pub sample : List String
  -- whether a block has text
  pub text : Bool
  -- the model as it is printed
  pub model : String

-- A line of a parent without text, and of one with text.
abbrev pub line : String → List String → String → Line
line letters sample model = record { letters = letters; sample = sample; text = false; model = model }

abbrev pub text_line : String → List String → String → Line
text_line letters sample model = record { letters = letters; sample = sample; text = true; model = model }

-- The marked lines, in the table's order. No letter occurs in the first: it has the name `a` since a book has a name.
unfoldable pub lines : List Line
lines =
    line "a" ("" ∷ []) "EMPTY"
    ∷ line "a" ("a" ∷ []) "(a)"
    ∷ line "a" ("" ∷ "a" ∷ []) "(a?)"
    ∷ line "a" ("aa" ∷ []) "(a+)"
    ∷ line "a" ("" ∷ "aa" ∷ []) "(a*)"
    ∷ line "ab" ("ab" ∷ "b" ∷ []) "(a?,b)"
    ∷ line "abc" ("ab" ∷ "c" ∷ []) "((a|c),b?)"
    ∷ line "ab" ("aba" ∷ []) "((a|b)+)"
    ∷ line "ab" ("aa" ∷ "bb" ∷ []) "(a*,b*)"
    ∷ line "abk" ("kkb" ∷ "a" ∷ []) "(a?,k*,b?)"
    ∷ line "abc" ("ac" ∷ "bbc" ∷ []) "(a?,b*,c)"
    ∷ line "abcde" ("abc" ∷ "ade" ∷ "abe" ∷ []) "(a,(b|d),(c|e))"
    ∷ []

-- "Text and no children anywhere: `(#PCDATA)`. Text and children: `(#PCDATA|a|b)*`, with exactly the names that stand
-- in its words, rising."
unfoldable pub text_lines : List Line
text_lines =
    text_line "a" ("" ∷ []) "(#PCDATA)"
    ∷ text_line "ab" ("" ∷ "" ∷ []) "(#PCDATA)"
    ∷ text_line "ab" ("b" ∷ "ba" ∷ []) "(#PCDATA|a|b)*"
    ∷ text_line "abc" ("" ∷ "bb" ∷ []) "(#PCDATA|b)*"
    ∷ text_line "abcd" ("dca" ∷ "cd" ∷ []) "(#PCDATA|a|c|d)*"
    ∷ []

-- The names of a line as bytes.
unfoldable pub line_names : Line → List (List ℕ)
line_names l = map (λ letter. letter ∷ []) (bytes l.letters)

-- "A name's number is its place, from 0."
unfoldable pub letter_number : List ℕ → ℕ → ℕ
letter_number [] x = 0
letter_number (letter ∷ letters) x = cond (eqb letter x) 0 (suc (letter_number letters x))

-- The words of a line as lists of numbers.
unfoldable pub line_words : Line → List (List ℕ)
line_words l = map (λ w. map (letter_number (bytes l.letters)) (bytes w)) l.sample

-- The model that the papers' rules give to these words: a record of 64 places.
unfoldable pub line_model : Line → Model
line_model l = model_of_words places (length (line_names l)) (line_words l) l.text

-- The declaration of this model. A declaration names a parent and the table gives none: the first letter is taken.
-- The model does not depend on the parent.
unfoldable pub line_declaration : Line → List ℕ
line_declaration l = declaration (line_names l) 0 (line_model l)

-- The declaration with the model's text as printed. The first letter of every line is `a`.
unfoldable pub printed_declaration : Line → List ℕ
printed_declaration l = bytes "<!ELEMENT a " ++ (bytes l.model ++ bytes ">")
