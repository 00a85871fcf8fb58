-- The tokens of a text, taken from its start: white space, a word, a sign.
-- Assumes nothing.
use Prim.Native.Nat.{ℕ, zero, suc}
use mathlib.Core.Path.{◌≡◌, refl, ◌∙◌, ap}
use mathlib.Core.Bool.{Bool, true, false, cond}
use mathlib.Core.List.{List, [], ◌∷◌}
use lib.Dec.{eqb}
use lib.ListN.{take, drop}
use Rattle.name.specs.Word.{word_byte}
use Rattle.declaration_spelling.specs.Token.{is_space, Token, word, lpar, rpar, comma, bar, end, mark, other}
use Rattle.declaration_spelling.specs.Cut.{SpacedToken, Cut, sign, at_front, space_before, longer, letter_before, byte_before, cut}
use Rattle.declaration_spelling.proofs.Bytes.{word_not_space}
use Rattle.declaration_bytes.specs.Unread.{run_of}

unfoldable pub some_of : ℕ → Bool
some_of zero = false
some_of (suc k) = true

longer_low : (b : ℕ) (u : Token) (g : Bool) (ps : List SpacedToken) → (longer b u g ps).gap ≡ false
unfolding longer at_front
longer_low b (word w) g ps = refl
longer_low b lpar g ps = refl
longer_low b rpar g ps = refl
longer_low b comma g ps = refl
longer_low b bar g ps = refl
longer_low b end g ps = refl
longer_low b (mark m) g ps = refl
longer_low b (other d) g ps = refl

letter_low : (b : ℕ) (g : Bool) (ps : List SpacedToken) → (letter_before b g ps).gap ≡ false
unfolding letter_before at_front
letter_low b true ps = refl
letter_low b false [] = refl
letter_low b false (p ∷ ps) = longer_low b p.token p.gap ps

byte_low : (l : Bool) (b : ℕ) (c : Cut) → (byte_before false l b c).gap ≡ false
unfolding byte_before at_front
byte_low true b c = letter_low b c.gap c.pieces
byte_low false b c = refl

cut_low : (b : ℕ) (t : List ℕ) → is_space b ≡ false → (cut (b ∷ t)).gap ≡ false
unfolding cut
cut_low b t e = rw e (byte_low (word_byte b) b (cut t))

-- white space at the start of a text is passed over, and leaves its mark
pub cut_spaces : (t : List ℕ) → cut t ≡ record { gap = some_of (run_of is_space t); pieces = (cut (drop (run_of is_space t) t)).pieces }
unfolding cut run_of some_of byte_before space_before
cut_spaces [] = refl
cut_spaces (b ∷ t) = go (is_space b) refl (cut_spaces t)
  where
    go : (k : Bool) → is_space b ≡ k → cut t ≡ record { gap = some_of (run_of is_space t); pieces = (cut (drop (run_of is_space t) t)).pieces }
        → cut (b ∷ t) ≡ record { gap = some_of (cond k (suc (run_of is_space t)) 0); pieces = (cut (drop (cond k (suc (run_of is_space t)) 0) (b ∷ t))).pieces }
    go true e ih = ap (λ (q : Bool). byte_before q (word_byte b) b (cut t)) e ∙ ap space_before ih
    go false e ih = λ i. record { gap = cut_low b t e i; pieces = (cut (b ∷ t)).pieces }

-- a text that begins with a sign
pub cut_sign : (b : ℕ) (t : List ℕ) → is_space b ≡ false → word_byte b ≡ false → cut (b ∷ t) ≡ at_front (sign b) (cut t)
unfolding cut byte_before
cut_sign b t p q = rw (p, q)

abbrev Alone : ℕ → Bool → List SpacedToken → Token → Type 0
Alone b g ps u = longer b u g ps ≡ at_front (word (b ∷ [])) record { gap = false; pieces = record { token = u; gap = g } ∷ ps }

pick : (b : ℕ) (g : Bool) (ps : List SpacedToken) (k : Bool) (u v : Token) → Alone b g ps u → Alone b g ps v → Alone b g ps (cond k u v)
pick b g ps true u v p q = p
pick b g ps false u v p q = q

sign_alone : (b c : ℕ) (g : Bool) (ps : List SpacedToken) → Alone b g ps (sign c)
unfolding sign longer
sign_alone b c g ps =
    let P = pick b g ps in
    P (eqb c 40) lpar _ refl (P (eqb c 41) rpar _ refl (P (eqb c 44) comma _ refl (P (eqb c 124) bar _ refl (P (eqb c 62) end _ refl
    (P (eqb c 63) (mark 0) _ refl (P (eqb c 43) (mark 1) _ refl (P (eqb c 42) (mark 2) (other c) refl refl)))))))

lettered : (b : ℕ) (t : List ℕ) → word_byte b ≡ true → cut (b ∷ t) ≡ letter_before b (cut t).gap (cut t).pieces
unfolding cut byte_before
lettered b t e = rw (word_not_space b e, e)

last_of : (b c : ℕ) (t : List ℕ) → word_byte c ≡ false → (k : Bool) → is_space c ≡ k → letter_before b (cut (c ∷ t)).gap (cut (c ∷ t)).pieces ≡ at_front (word (b ∷ [])) (cut (c ∷ t))
unfolding cut byte_before space_before letter_before at_front longer
last_of b c t e true q = rw q
last_of b c t e false q = rw (q, e) (sign_alone b c (cut t).gap (cut t).pieces)

alone : (b : ℕ) → letter_before b (cut []).gap (cut []).pieces ≡ at_front (word (b ∷ [])) (cut [])
unfolding cut letter_before
alone b = refl

grows : (b : ℕ) (w : List ℕ) (k : Cut) → letter_before b (at_front (word w) k).gap (at_front (word w) k).pieces ≡ at_front (word (b ∷ w)) k
unfolding letter_before longer at_front
grows b w k = refl

-- a text that begins with a byte of words: the longest run of them is the word
pub cut_word : (b : ℕ) (t : List ℕ) → word_byte b ≡ true
    → cut (b ∷ t) ≡ at_front (word (take (run_of word_byte (b ∷ t)) (b ∷ t))) (cut (drop (run_of word_byte (b ∷ t)) (b ∷ t)))
unfolding run_of
cut_word b [] e = lettered b [] e ∙ rw e (alone b)
cut_word b (c ∷ t) e = lettered b (c ∷ t) e ∙ rw e (go (word_byte c) refl (λ q. cut_word c t q))
  where
    go : (k : Bool) → word_byte c ≡ k → (word_byte c ≡ true → cut (c ∷ t) ≡ at_front (word (take (run_of word_byte (c ∷ t)) (c ∷ t))) (cut (drop (run_of word_byte (c ∷ t)) (c ∷ t))))
        → letter_before b (cut (c ∷ t)).gap (cut (c ∷ t)).pieces ≡ at_front (word (b ∷ take (run_of word_byte (c ∷ t)) (c ∷ t))) (cut (drop (run_of word_byte (c ∷ t)) (c ∷ t)))
    go true q ih = ap (λ (k : Cut). letter_before b k.gap k.pieces) (ih q) ∙ grows b _ _
    go false q ih = last_of b c t q (is_space c) refl ∙ rw q
