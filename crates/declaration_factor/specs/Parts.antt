-- A means: the parts of a declaration as they are written, from left to right; `text_is` in
-- crates/declaration_text/proofs/Text.antt says that together they are the canonical form.
-- Assumes nothing.
use Rattle.std.specs.Prelude.{ℕ, zero, suc, ◌<◌, ◌≡◌, Bool, true, false, cond, ◌||◌, List, [], ◌∷◌, ◌++◌, eqb, ltb, length}
use Rattle.nameset.specs.declared.NameSet.{NameSet}
use Rattle.nameset.specs.Set.{member}
use Rattle.model.specs.declared.Chain.{Chain}
use Rattle.model.specs.declared.Model.{Model}
use Rattle.model.specs.Record.{factor_of, mode_of}
use Rattle.declaration_spelling.specs.Token.{mark_byte}
use Rattle.declaration_spelling.specs.House.{members, name_at, names_at, opening, empty_word, pcdata_word}
use Rattle.byte_buffer.specs.Put.{shown}

-- Before a name of a factor: nothing where it is the only one, `(` before the first, `|` before each other.
unfoldable pub lead_byte : Bool → Bool → ℕ
lead_byte true true = 124
lead_byte true false = 40
lead_byte false some = 0

-- Behind the names of a factor.
unfoldable pub close_byte : Bool → ℕ
close_byte true = 41
close_byte false = 0

-- The mark of a mode, 0 for none.
unfoldable pub mode_byte : ℕ → ℕ
mode_byte zero = 0
mode_byte (suc m) = mark_byte m

-- Before factor i.
unfoldable pub before_byte : ℕ → ℕ
before_byte zero = 40
before_byte (suc i) = 44

-- A name behind its lead, or nothing where the factor does not hold it.
unfoldable pub member_text : Bool → ℕ → List ℕ → List ℕ
member_text here lead name = cond here (shown lead ++ name) []

-- The names of factor i among the r numbers from k on; `some` says whether one, or `#PCDATA`, stands before them.
unfoldable pub names_text : List (List ℕ) → Chain → ℕ → Bool → Bool → ℕ → ℕ → List ℕ
names_text names m i many some k zero = []
names_text names m i many some k (suc r) =
    member_text (eqb (factor_of m k) i) (lead_byte many some) (name_at names k) ++ names_text names m i many (eqb (factor_of m k) i || some) (suc k) r

-- Of the r numbers from k on, those in the set, rising.
unfoldable pub rising : NameSet → ℕ → ℕ → List ℕ
rising s k zero = []
rising s k (suc r) = cond (member s k) (k ∷ rising s (suc k) r) (rising s (suc k) r)

-- The set has names below n alone.
abbrev pub MembersBelow : ℕ → NameSet → Type 0
MembersBelow n s = (x : ℕ) → member s x ≡ true → x < n

-- Names, each behind its lead; `some` says whether one, or `#PCDATA`, stands before them.
unfoldable pub leads : Bool → Bool → List (List ℕ) → List ℕ
leads many some [] = []
leads many some (x ∷ xs) = shown (lead_byte many some) ++ (x ++ leads many true xs)

-- The names of a set, rising, each behind its lead. For the set of a factor's names it is `names_text`: `names_of_set`
-- in proofs/Rising.antt.
unfoldable pub set_text : List (List ℕ) → ℕ → NameSet → Bool → Bool → List ℕ
set_text names n s many some = leads many some (names_at names (rising s 0 n))

-- Whether factor i holds more than one of the n names.
unfoldable pub many_in : ℕ → Chain → ℕ → Bool
many_in n m i = ltb 1 (length (members m i 0 n))

-- Factor i of a record over n names, with its mark.
unfoldable pub part_text : List (List ℕ) → ℕ → Chain → ℕ → List ℕ
part_text names n m i =
    names_text names m i (many_in n m i) false 0 n ++ (shown (close_byte (many_in n m i)) ++ shown (mode_byte (mode_of m i)))

-- The r factors from factor i on, each behind its bracket or comma.
unfoldable pub factors_text : List (List ℕ) → ℕ → Chain → ℕ → ℕ → List ℕ
factors_text names n m i zero = []
factors_text names n m i (suc r) = shown (before_byte i) ++ (part_text names n m i ++ factors_text names n m (suc i) r)

-- A model without text.
unfoldable pub body_part : List (List ℕ) → ℕ → Chain → List ℕ
body_part names n m = cond (eqb m.count 0) empty_word (factors_text names n m 0 m.count ++ shown 41)

-- Behind `(#PCDATA` of a model with text: `)`, or the names of factor 0, each behind `|`, and `)*`.
unfoldable pub mixed_end : List (List ℕ) → ℕ → Chain → List ℕ
mixed_end names n m = cond (eqb m.count 0) (shown 41) (names_text names m 0 true true 0 n ++ (41 ∷ 42 ∷ []))

-- A model with text.
unfoldable pub mixed_part : List (List ℕ) → ℕ → Chain → List ℕ
mixed_part names n m = (40 ∷ pcdata_word) ++ mixed_end names n m

-- The model, by its text byte.
unfoldable pub content_part : List (List ℕ) → ℕ → Model → List ℕ
content_part names n m = cond (eqb m.text 0) (body_part names n m.chain) (mixed_part names n m.chain)

-- The declaration, over n names.
unfoldable pub text_of : List (List ℕ) → ℕ → ℕ → Model → List ℕ
text_of names n p m = (opening ++ (32 ∷ [])) ++ (name_at names p ++ (shown 32 ++ (content_part names n m ++ shown 62)))
