-- The kind of a token, by its first byte: of a word, and of each sign.
-- Assumes nothing.
use Prim.Native.Nat.{ℕ}
use mathlib.Core.Path.{◌≡◌, refl, sym}
use mathlib.Core.Bool.{Bool, true, false}
use borrow.Author.Tests.{ne_eqb}
use Rattle.name.specs.Word.{word_byte}
use Rattle.name.proofs.Words.{no_word_lem}
use Rattle.declaration_spelling.specs.Kind.{other_kind, word_kind}
use Rattle.declaration_spelling.proofs.Bytes.{other_byte}
use Rattle.declaration_bytes.specs.Unread.{end_of_text}
use Rattle.declaration_bytes.proofs.Runs.{word_end_lem}
use Rattle.declaration_scan.specs.Kind.{sign_kind, kind_of}

pub kind_word : (n : ℕ) → word_byte n ≡ true → word_kind ≡ kind_of n
unfolding kind_of
kind_word n e = rw e

pub kind_sign : (n k : ℕ) → word_byte n ≡ false → k ≡ sign_kind n → k ≡ kind_of n
unfolding kind_of
kind_sign n k e q = rw e q

-- what stands for the end of a text has no kind of its own
pub end_kind_lem : other_kind ≡ kind_of end_of_text
unfolding kind_of sign_kind
end_kind_lem = rw word_end_lem

pub kind_other : (n : ℕ) → (n ≡ 40 → ⊥) → (n ≡ 41 → ⊥) → (n ≡ 44 → ⊥) → (n ≡ 124 → ⊥) → (n ≡ 62 → ⊥) → (n ≡ 63 → ⊥) → (n ≡ 43 → ⊥) → (n ≡ 42 → ⊥) → other_kind ≡ sign_kind n
unfolding sign_kind
kind_other n a b c d f g h i = rw (ne_eqb n 40 a, ne_eqb n 41 b, ne_eqb n 44 c, ne_eqb n 124 d, ne_eqb n 62 f, ne_eqb n 63 g, ne_eqb n 43 h, ne_eqb n 42 i)

-- no sign is a byte of words
word_no_sign : (n : ℕ) → word_byte n ≡ true → other_kind ≡ sign_kind n
word_no_sign n e =
    let s = no_word_lem.1 in
    let o : (k : ℕ) → word_byte k ≡ false → n ≡ k → ⊥ = λ k f. other_byte n k e f in
    kind_other n (o 40 s.0) (o 41 s.1.0) (o 44 s.1.1.0) (o 124 s.1.1.1.0) (o 62 s.1.1.1.1.0) (o 63 s.1.1.1.1.1.0)
    (o 43 s.1.1.1.1.1.1.0) (o 42 s.1.1.1.1.1.1.1.0)

pub sign_no_word : (n : ℕ) → (sign_kind n ≡ other_kind → ⊥) → word_byte n ≡ false
sign_no_word n d = go (word_byte n) refl
  where
    go : (k : Bool) → word_byte n ≡ k → k ≡ false
    go true e = absurd (d (sym (word_no_sign n e)))
    go false e = refl
