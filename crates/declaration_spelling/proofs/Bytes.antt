-- The bytes of words, white space and the signs of a declaration do not meet.
-- Assumes nothing.
use Prim.Native.Nat.{ℕ, suc, ◌<◌}
use mathlib.Core.Path.{◌≡◌, refl, sym, ◌∙◌, ap}
use mathlib.Core.Bool.{Bool, true, false, true≢false}
use mathlib.Core.List.{List, [], ◌∷◌}
use native.Mathlib.Omega.{arith}
use lib.Dec.{eqb}
use lib.ListN.{length, get_or}
use borrow.Author.Tests.{ne_eqb}
use Rattle.name.specs.Class.{between, start_byte, later_byte}
use Rattle.name.specs.Rule.{good_length, all_later, good_bytes, is_name}
use Rattle.name.specs.Word.{word_byte}
use Rattle.name.proofs.Words.{name_bytes_lem, name_size, NoWord, space_no_word, no_word_lem}
use Rattle.declaration_spelling.specs.Token.{is_space, All}
use Rattle.declaration_spelling.specs.House.{empty_word, pcdata_word}

all_of : (test : ℕ → Bool) (bs : List ℕ) → ((k : ℕ) → k < length bs → test (get_or bs k 0) ≡ true) → All test bs
all_of test [] f = tt
all_of test (b ∷ bs) f = (f 0 (omega arith), all_of test bs (λ k h. f (suc k) (omega arith)))

-- a word has a byte, and all of its bytes are those of words
abbrev pub Word : List ℕ → Type 0
Word w = (b : ℕ) × (bs : List ℕ) × (w ≡ b ∷ bs) × All word_byte w

-- a name is a word
pub name_word : (w : List ℕ) → is_name w ≡ true → Word w
name_word [] e = let h = (name_size [] e).0 in absurd (omega arith)
name_word (b ∷ bs) e = (b, bs, refl, all_of word_byte (b ∷ bs) (name_bytes_lem (b ∷ bs) e))

-- a byte of words is no other byte
pub other_byte : (b k : ℕ) → word_byte b ≡ true → word_byte k ≡ false → b ≡ k → ⊥
other_byte b k e f q = true≢false (sym e ∙ ap word_byte q ∙ f)

-- no white space is a byte of words
pub word_not_space : (b : ℕ) → word_byte b ≡ true → is_space b ≡ false
unfolding is_space
word_not_space b e =
    let s = space_no_word in
    let n : (k : ℕ) → word_byte k ≡ false → eqb b k ≡ false = λ k f. ne_eqb b k (other_byte b k e f) in
    rw (n 32 s.0, n 9 s.1.0, n 13 s.1.1.0, n 10 s.1.1.1.0)

pub space_is : is_space 32 ≡ true
unfolding is_space
space_is = refl

-- none of these is white space
abbrev NoSpace : List ℕ → Type 0
NoSpace [] = Unit {0}
NoSpace (b ∷ bs) = (is_space b ≡ false) × NoSpace bs

-- neither white space nor a byte of words
abbrev pub Neither : List ℕ → Type 0
Neither [] = Unit {0}
Neither (b ∷ bs) = ((is_space b ≡ false) × (word_byte b ≡ false)) × Neither bs

neither : (bs : List ℕ) → NoSpace bs → NoWord bs → Neither bs
neither [] s w = tt
neither (b ∷ bs) s w = ((s.0, w.0), neither bs s.1 w.1)

-- ( ) , | > ? + *
pub signs : Neither (40 ∷ 41 ∷ 44 ∷ 124 ∷ 62 ∷ 63 ∷ 43 ∷ 42 ∷ [])
unfolding is_space
signs = neither (40 ∷ 41 ∷ 44 ∷ 124 ∷ 62 ∷ 63 ∷ 43 ∷ 42 ∷ []) (refl, (refl, (refl, (refl, (refl, (refl, (refl, (refl, tt)))))))) no_word_lem.1

-- `EMPTY` is a name
pub empty_name : is_name empty_word ≡ true
unfolding is_name good_length good_bytes all_later empty_word later_byte start_byte between
empty_name = refl

pub empty_word_lem : Word empty_word
empty_word_lem = name_word empty_word empty_name

-- `#PCDATA` is a word and no name
pub pcdata_word_lem : Word pcdata_word
unfolding pcdata_word word_byte later_byte start_byte between
pcdata_word_lem = (35, 80 ∷ 67 ∷ 68 ∷ 65 ∷ 84 ∷ 65 ∷ [], refl, (refl, (refl, (refl, (refl, (refl, (refl, (refl, tt))))))))

pub pcdata_no_name : is_name pcdata_word ≡ false
unfolding is_name good_length good_bytes all_later pcdata_word later_byte start_byte between
pcdata_no_name = refl
