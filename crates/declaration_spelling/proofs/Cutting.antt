-- A text is cut into tokens exactly as it is spelled.
-- Assumes nothing.
use Prim.Native.Nat.{ℕ, zero, suc, ◌<◌}
use mathlib.Core.Path.{◌≡◌, refl, sym, ◌∙◌, ap, subst}
use mathlib.Core.Bool.{Bool, true, false, cond, ◌&&◌, true≢false, false≢true}
use mathlib.Core.List.{List, [], ◌∷◌, ◌++◌}
use mathlib.Core.Logic.{◌⊎◌, inl, inr}
use native.Mathlib.Omega.{arith}
use lib.Dec.{eqb}
use borrow.Author.Tests.{eqb-true, not-true}
use Rattle.declaration_spelling.specs.Token.{is_space, Token, word, lpar, rpar, comma, bar, end, mark, other, mark_byte, spell, Room, tight, apart, free, behind, room, Fits, All, Spells}
use Rattle.name.specs.Word.{word_byte}
use Rattle.declaration_spelling.specs.Cut.{SpacedToken, Cut, sign, at_front, space_before, longer, letter_before, byte_before, cut, fits, spaced, tokens}
use Rattle.declaration_spelling.proofs.Tests.{and_is, true_or_false}
use Rattle.declaration_spelling.proofs.Bytes.{Word, word_not_space, signs}

-- a sign's byte
pub sign_spell : (b : ℕ) → spell (sign b) ≡ b ∷ []
unfolding spell sign mark_byte
sign_spell b = go1 (true_or_false (eqb b 40))
  where
    is : (t : Token) (k : ℕ) (rest : Token) → spell t ≡ k ∷ [] → (eqb b k ≡ true) ⊎ (eqb b k ≡ false) → (eqb b k ≡ false → spell rest ≡ b ∷ []) → spell (cond (eqb b k) t rest) ≡ b ∷ []
    is t k rest s (inl e) h = rw e (s ∙ ap {B = List ℕ} (λ (x : ℕ). x ∷ []) (sym (eqb-true b k e)))
    is t k rest s (inr e) h = rw e (h e)

    at : (t : Token) (k : ℕ) (rest : Token) → spell t ≡ k ∷ [] → spell rest ≡ b ∷ [] → spell (cond (eqb b k) t rest) ≡ b ∷ []
    at t k rest s h = is t k rest s (true_or_false (eqb b k)) (λ e. h)

    go1 : (eqb b 40 ≡ true) ⊎ (eqb b 40 ≡ false) → spell (sign b) ≡ b ∷ []
    go1 q =
        at lpar 40 _ refl (at rpar 41 _ refl (at comma 44 _ refl (at bar 124 _ refl (at end 62 _ refl
        (at (mark 0) 63 _ refl (at (mark 1) 43 _ refl (at (mark 2) 42 _ refl refl)))))))

filled : List ℕ → Bool
filled [] = false
filled (b ∷ bs) = true

-- the text is the pieces in order, with white space where they say so
abbrev Cuts : Bool → List SpacedToken → List ℕ → Type 0
Cuts g [] text = All is_space text × (filled text ≡ g)
Cuts g (p ∷ ps) text =
    (gap : List ℕ) × (rest : List ℕ) × (text ≡ gap ++ (spell p.token ++ rest)) × All is_space gap × (filled gap ≡ g) × Cuts p.gap ps rest

abbrev CutAs : Cut → List ℕ → Type 0
CutAs c text = Cuts c.gap c.pieces text

front : (t : Token) (c : Cut) (text whole : List ℕ) → CutAs c text → whole ≡ spell t ++ text → CutAs (at_front t c) whole
unfolding at_front filled
front t c text whole h e = ([], text, e, tt, refl, h)

space : (b : ℕ) (g : Bool) (ps : List SpacedToken) (text : List ℕ) → is_space b ≡ true → Cuts g ps text → Cuts true ps (b ∷ text)
unfolding filled
space b g [] text q h = ((q, h.0), refl)
space b g (p ∷ ps) text q (gap, rest, e, a, f, k) = (b ∷ gap, rest, ap (λ (l : List ℕ). b ∷ l) e, (q, a), refl, k)

not_filled : (gap : List ℕ) → filled gap ≡ false → gap ≡ []
unfolding filled
not_filled [] e = refl
not_filled (b ∷ bs) e = absurd (true≢false e)

grown : (b : ℕ) (t : Token) (g : Bool) (ps : List SpacedToken) (text : List ℕ)
    → Cuts false (record { token = t; gap = g } ∷ ps) text → CutAs (longer b t g ps) (b ∷ text)
unfolding longer spell filled
grown b (word w) g ps text (gap, rest, e, a, f, k) = ([], rest, ap (λ (l : List ℕ). b ∷ l) (e ∙ ap (λ (l : List ℕ). l ++ (w ++ rest)) (not_filled gap f)), tt, refl, k)
grown b lpar g ps text h = front (word (b ∷ [])) _ text (b ∷ text) h refl
grown b rpar g ps text h = front (word (b ∷ [])) _ text (b ∷ text) h refl
grown b comma g ps text h = front (word (b ∷ [])) _ text (b ∷ text) h refl
grown b bar g ps text h = front (word (b ∷ [])) _ text (b ∷ text) h refl
grown b end g ps text h = front (word (b ∷ [])) _ text (b ∷ text) h refl
grown b (mark m) g ps text h = front (word (b ∷ [])) _ text (b ∷ text) h refl
grown b (other d) g ps text h = front (word (b ∷ [])) _ text (b ∷ text) h refl

letters : (b : ℕ) (g : Bool) (ps : List SpacedToken) (text : List ℕ) → Cuts g ps text → CutAs (letter_before b g ps) (b ∷ text)
unfolding letter_before spell
letters b true ps text h = front (word (b ∷ [])) _ text (b ∷ text) h refl
letters b false [] text h = front (word (b ∷ [])) _ text (b ∷ text) h refl
letters b false (p ∷ ps) text h = grown b p.token p.gap ps text h

-- every text is cut somehow
cut_is : (text : List ℕ) → CutAs (cut text) text
unfolding cut filled byte_before space_before
cut_is [] = (tt, refl)
cut_is (b ∷ text) = go (is_space b) (word_byte b) refl (cut_is text)
  where
    go : (k l : Bool) → is_space b ≡ k → CutAs (cut text) text → CutAs (byte_before k l b (cut text)) (b ∷ text)
    go true l q h = space b (cut text).gap (cut text).pieces text q h
    go false true q h = letters b (cut text).gap (cut text).pieces text h
    go false false q h = front (sign b) (cut text) text (b ∷ text) h (ap (λ (l : List ℕ). l ++ text) (sym (sign_spell b)))

fits_is : (r : Room) (gap : List ℕ) → fits r (filled gap) ≡ true → Fits r gap
unfolding fits filled
fits_is tight gap e = not_filled gap (not-true (filled gap) e)
fits_is apart [] e = absurd (false≢true e)
fits_is apart (b ∷ v) e = (b, v, refl)
fits_is free gap e = tt

is_fits : (r : Room) (gap : List ℕ) → Fits r gap → fits r (filled gap) ≡ true
unfolding fits filled
is_fits tight gap e = rw e
is_fits apart gap (b, v, e) = rw e
is_fits free gap e = refl

spelled_cut : (t : Token) (g : Bool) (ps : List SpacedToken) (text : List ℕ) → Cuts g ps text → spaced t g ps ≡ true → Spells t (tokens ps) text
unfolding spaced tokens
spelled_cut t g [] text h e = not_filled text (h.1 ∙ not-true g e)
spelled_cut t g (p ∷ ps) text (gap, rest, q, a, f, k) e =
    let s = (and_is (fits (room t p.token) g) (spaced p.token p.gap ps)).0 e in
    (gap, rest, q, a, fits_is (room t p.token) gap (ap (fits (room t p.token)) f ∙ s.0), spelled_cut p.token p.gap ps rest k s.1)

-- a text whose white space fits is spelled by its tokens
pub cut_sound : (t : Token) (text : List ℕ) → spaced t (cut text).gap (cut text).pieces ≡ true → Spells t (tokens (cut text).pieces) text
cut_sound t text e = spelled_cut t _ _ text (cut_is text) e

-- tokens of a declaration
abbrev pub Proper : Token → Type 0
Proper (word w) = Word w
Proper lpar = Unit {0}
Proper rpar = Unit {0}
Proper comma = Unit {0}
Proper bar = Unit {0}
Proper end = Unit {0}
Proper (mark m) = m < 3
Proper (other b) = ⊥

abbrev pub AllProper : List Token → Type 0
AllProper [] = Unit {0}
AllProper (t ∷ ts) = Proper t × AllProper ts

byte : (b : ℕ) (text : List ℕ) → (is_space b ≡ false) × (word_byte b ≡ false) → cut (b ∷ text) ≡ at_front (sign b) (cut text)
unfolding cut byte_before
byte b text h = rw (h.0, h.1)

lettered : (b : ℕ) (text : List ℕ) → word_byte b ≡ true → cut (b ∷ text) ≡ letter_before b (cut text).gap (cut text).pieces
unfolding cut byte_before
lettered b text h = rw (word_not_space b h, h)

last_letter : (b : ℕ) (u : List ℕ) (g : Bool) (ps : List SpacedToken) → spaced (word u) g ps ≡ true → letter_before b g ps ≡ at_front (word (b ∷ [])) record { gap = g; pieces = ps }
unfolding letter_before longer spaced fits room behind
last_letter b u true ps e = refl
last_letter b u false [] e = refl
last_letter b u false (p ∷ ps) e = go p.token p.gap e
  where
    go : (t : Token) (g : Bool) → (fits (room (word u) t) false && spaced t g ps) ≡ true → longer b t g ps ≡ at_front (word (b ∷ [])) record { gap = false; pieces = record { token = t; gap = g } ∷ ps }
    go (word w) g e = absurd (false≢true e)
    go lpar g e = refl
    go rpar g e = refl
    go comma g e = refl
    go bar g e = refl
    go end g e = refl
    go (mark m) g e = refl
    go (other d) g e = refl

cut_word : (b : ℕ) (v u text : List ℕ) → All word_byte (b ∷ v) → spaced (word u) (cut text).gap (cut text).pieces ≡ true
    → cut (b ∷ (v ++ text)) ≡ at_front (word (b ∷ v)) (cut text)
unfolding at_front letter_before longer
cut_word b [] u text a e = lettered b text a.0 ∙ last_letter b u _ _ e
cut_word b (c ∷ v) u text a e = lettered b (c ∷ (v ++ text)) a.0 ∙ ap (λ (k : Cut). letter_before b k.gap k.pieces) (cut_word c v u text a.1 e)

cut_token : (t : Token) (text : List ℕ) → Proper t → spaced t (cut text).gap (cut text).pieces ≡ true → cut (spell t ++ text) ≡ at_front t (cut text)
unfolding spell sign mark_byte
cut_token (word w) text (b, v, q, a) e = subst (λ (x : List ℕ). All word_byte x → cut (x ++ text) ≡ at_front (word x) (cut text)) (sym q) (λ h. cut_word b v w text h e) a
cut_token lpar text h e = byte 40 text signs.0
cut_token rpar text h e = byte 41 text signs.1.0
cut_token comma text h e = byte 44 text signs.1.1.0
cut_token bar text h e = byte 124 text signs.1.1.1.0
cut_token end text h e = byte 62 text signs.1.1.1.1.0
cut_token (mark zero) text h e = byte 63 text signs.1.1.1.1.1.0
cut_token (mark (suc zero)) text h e = byte 43 text signs.1.1.1.1.1.1.0
cut_token (mark (suc (suc zero))) text h e = byte 42 text signs.1.1.1.1.1.1.1.0
cut_token (mark (suc (suc (suc m)))) text h e = absurd (omega arith)
cut_token (other b) text h e = absurd h

cut_gap : (gap text : List ℕ) (ps : List SpacedToken) → All is_space gap → cut text ≡ record { gap = false; pieces = ps } → cut (gap ++ text) ≡ record { gap = filled gap; pieces = ps }
unfolding cut byte_before space_before filled
cut_gap [] text ps a e = e
cut_gap (b ∷ gap) text ps a e = rw a.0 (ap (λ (k : Cut). space_before k) (cut_gap gap text ps a.1 e))

-- a spelled text is cut into those tokens, and its white space fits
pub cut_complete : (t : Token) (ts : List Token) (text : List ℕ) → AllProper ts → Spells t ts text
    → (tokens (cut text).pieces ≡ ts) × (spaced t (cut text).gap (cut text).pieces ≡ true)
unfolding tokens spaced cut at_front
cut_complete t [] text a e = rw e (refl, refl)
cut_complete t (u ∷ us) text a (gap, rest, e, s, f, k) = go (cut_complete u us rest a.1 k)
  where
    go : (tokens (cut rest).pieces ≡ us) × (spaced u (cut rest).gap (cut rest).pieces ≡ true)
        → (tokens (cut text).pieces ≡ u ∷ us) × (spaced t (cut text).gap (cut text).pieces ≡ true)
    go (p, q) =
        let w : cut text ≡ record { gap = filled gap; pieces = record { token = u; gap = (cut rest).gap } ∷ (cut rest).pieces } = ap (cut) e ∙ cut_gap gap (spell u ++ rest) _ s (cut_token u rest a.0 q) in
        rw w (ap (λ (l : List Token). u ∷ l) p, (and_is (fits (room t u) (filled gap)) _).1 (is_fits (room t u) gap f, q))
