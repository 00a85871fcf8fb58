-- The arrows of the walk: what a step that leads on tells of its token.
-- Assumes nothing.
use Prim.Native.Nat.{ℕ, zero, suc, ◌-◌, ◌≤◌, ◌<◌}
use mathlib.Core.Path.{◌≡◌, refl, sym, ◌∙◌, ap}
use mathlib.Core.Bool.{Bool, true, false, cond, not, false≢true}
use mathlib.Core.List.{List, [], ◌∷◌}
use mathlib.Core.Logic.{◌⊎◌, inl, inr}
use native.Mathlib.Omega.{arith}
use lib.Dec.{eqb}
use lib.ListN.{get_or}
use borrow.Author.Tests.{eqb-true}
use Rattle.declaration_spelling.specs.Token.{Token, word, lpar, rpar, comma, bar, end, mark, other}
use Rattle.declaration_spelling.specs.House.{empty_word, pcdata_word}
use Rattle.declaration_spelling.specs.Cut.{same}
use Rattle.declaration_spelling.specs.Kind.{other_kind, word_kind, empty_kind, pcdata_kind, lpar_kind, rpar_kind, comma_kind, bar_kind, end_kind, question_kind, star_kind, mark_kind, token_kind}
use Rattle.declaration_spelling.proofs.Tests.{same_is}
use Rattle.declaration_walk.specs.Walk.{State, nowhere, Arrow, by_word, by_mark, arrows, along, step, number_of, walk, passes}

-- from nowhere no token leads on
pub lost : (ts : List Token) → walk nowhere ts ≡ false
unfolding walk step arrows along number_of
lost [] = refl
lost (t ∷ ts) = lost ts

-- the token leads along one of these arrows, and the walk from there ends well
abbrev pub Taken : List Arrow → Token → List Token → Type 0
Taken [] t ts = ⊥
Taken (a ∷ as') t ts = ((token_kind t ≡ a.kind) × (walk a.to ts ≡ true)) ⊎ Taken as' t ts

pub taken : (as' : List Arrow) (t : Token) (ts : List Token) → walk (along as' (token_kind t)) ts ≡ true → Taken as' t ts
unfolding along
taken [] t ts e = false≢true (sym (lost ts) ∙ e)
taken (a ∷ as') t ts e = go (eqb (token_kind t) a.kind) refl e (taken as' t ts)
  where
    go : (b : Bool) → eqb (token_kind t) a.kind ≡ b → walk (cond b a.to (along as' (token_kind t))) ts ≡ true → (walk (along as' (token_kind t)) ts ≡ true → Taken as' t ts) → Taken (a ∷ as') t ts
    go true q f ih = inl (eqb-true (token_kind t) a.kind q, f)
    go false q f ih = inr (ih f)

-- ---- the token of a kind

-- a word has the kind of words, that of `EMPTY` or that of `#PCDATA`
word_kind_lem : (x : List ℕ) → token_kind (word x) ≤ pcdata_kind
unfolding token_kind
word_kind_lem x = go (same x empty_word) (same x pcdata_word)
  where
    go : (a b : Bool) → cond a empty_kind (cond b pcdata_kind word_kind) ≤ pcdata_kind
    go true b = omega arith
    go false true = omega arith
    go false false = omega arith

-- the mark of a mode has one of the three last kinds
abbrev pub MarkKind : ℕ → Type 0
MarkKind m = (mark_kind m ≡ other_kind) ⊎ ((question_kind ≤ mark_kind m) × (m < 3))

pub mark_kind_lem : (m : ℕ) → MarkKind m
unfolding mark_kind
mark_kind_lem zero = inr (omega arith, omega arith)
mark_kind_lem (suc zero) = inr (omega arith, omega arith)
mark_kind_lem (suc (suc zero)) = inr (omega arith, omega arith)
mark_kind_lem (suc (suc (suc m))) = inl refl

no_mark : (m : ℕ) → other_kind < mark_kind m → mark_kind m < question_kind → ⊥
no_mark m l h = go (mark_kind_lem m)
  where
    go : MarkKind m → ⊥
    go (inl e) = omega arith
    go (inr e) = omega (arith, e.0)

word_is : (t : Token) → word_kind ≤ token_kind t → token_kind t ≤ pcdata_kind → (x : List ℕ) × (t ≡ word x)
unfolding token_kind
word_is (word x) l h = (x, refl)
word_is lpar l h = absurd (omega arith)
word_is rpar l h = absurd (omega arith)
word_is comma l h = absurd (omega arith)
word_is bar l h = absurd (omega arith)
word_is end l h = absurd (omega arith)
word_is (mark m) l h = absurd (no_mark m (omega arith) (omega arith))
word_is (other b) l h = absurd (omega arith)

abbrev sign_of : ℕ → Token
sign_of kind = get_or (lpar ∷ rpar ∷ comma ∷ bar ∷ end ∷ []) (kind - 4) end

sign_is : (t : Token) (kind : ℕ) → token_kind t ≡ kind → lpar_kind ≤ kind → kind ≤ end_kind → t ≡ sign_of kind
unfolding token_kind
sign_is (word x) kind e l h = absurd (omega (arith, word_kind_lem x))
sign_is lpar kind e l h = ap sign_of e
sign_is rpar kind e l h = ap sign_of e
sign_is comma kind e l h = ap sign_of e
sign_is bar kind e l h = ap sign_of e
sign_is end kind e l h = ap sign_of e
sign_is (mark m) kind e l h = absurd (no_mark m (omega arith) (omega arith))
sign_is (other b) kind e l h = absurd (omega arith)

mark_is : (t : Token) → question_kind ≤ token_kind t → (m : ℕ) × (t ≡ mark m) × (m < 3)
unfolding token_kind
mark_is (word x) l = absurd (omega (arith, word_kind_lem x))
mark_is lpar l = absurd (omega arith)
mark_is rpar l = absurd (omega arith)
mark_is comma l = absurd (omega arith)
mark_is bar l = absurd (omega arith)
mark_is end l = absurd (omega arith)
mark_is (mark m) l = go (mark_kind_lem m)
  where
    go : MarkKind m → (k : ℕ) × (mark m ≡ mark k) × (k < 3)
    go (inl e) = absurd (omega arith)
    go (inr e) = (m, refl, e.1)
mark_is (other b) l = absurd (omega arith)

-- ---- words that are not `#PCDATA`

unfoldable pub is_plain : List ℕ → Bool
is_plain x = not (same x pcdata_word)

pub pcdata_kind_lem : token_kind (word pcdata_word) ≡ pcdata_kind
unfolding token_kind same empty_word pcdata_word
pcdata_kind_lem = refl

-- another kind than that of `#PCDATA`
pub kind_plain : (t : Token) → (token_kind t ≡ pcdata_kind → ⊥) → passes is_plain t ≡ true
unfolding passes is_plain
kind_plain (word x) h = go (same x pcdata_word) refl
  where
    go : (b : Bool) → same x pcdata_word ≡ b → not b ≡ true
    go true e = absurd (h (ap (λ (w : List ℕ). token_kind (word w)) (same_is x pcdata_word e) ∙ pcdata_kind_lem))
    go false e = refl
kind_plain lpar h = refl
kind_plain rpar h = refl
kind_plain comma h = refl
kind_plain bar h = refl
kind_plain end h = refl
kind_plain (mark m) h = refl
kind_plain (other b) h = refl

-- ---- the token of an arrow that is taken

module _ (t : Token) (ts : List Token) (r : State) where
  pub word_taken : Taken (by_word r) t ts → (x : List ℕ) × (t ≡ word x) × (is_plain x ≡ true) × (walk r ts ≡ true)
  unfolding passes
  word_taken h = go (by_one h)
    where
      -- either of the two kinds
      by_one : Taken (by_word r) t ts → (word_kind ≤ token_kind t) × (token_kind t ≤ empty_kind) × (walk r ts ≡ true)
      by_one (inl (k, q)) = (omega arith, omega arith, q)
      by_one (inr (inl (k, q))) = (omega arith, omega arith, q)
      by_one (inr (inr x'')) = elim x'' [ ]

      go : (word_kind ≤ token_kind t) × (token_kind t ≤ empty_kind) × (walk r ts ≡ true) → (x : List ℕ) × (t ≡ word x) × (is_plain x ≡ true) × (walk r ts ≡ true)
      go (l, h, q) = let (x, e) = word_is t l (omega arith) in (x, e, ap (passes is_plain) (sym e) ∙ kind_plain t (λ k. omega arith), q)

  pub mark_taken : Taken (by_mark r) t ts → (m : ℕ) × (t ≡ mark m) × (m < 3) × (walk r ts ≡ true)
  mark_taken (inl (k, q)) = let w = mark_is t (omega arith) in (w.0, w.1, w.2, q)
  mark_taken (inr (inl (k, q))) = let w = mark_is t (omega arith) in (w.0, w.1, w.2, q)
  mark_taken (inr (inr (inl (k, q)))) = let w = mark_is t (omega arith) in (w.0, w.1, w.2, q)
  mark_taken (inr (inr (inr x3))) = elim x3 [ ]

pub lpar_is : (t : Token) → token_kind t ≡ lpar_kind → t ≡ lpar
lpar_is t e = sign_is t lpar_kind e (omega arith) (omega arith)

pub rpar_is : (t : Token) → token_kind t ≡ rpar_kind → t ≡ rpar
rpar_is t e = sign_is t rpar_kind e (omega arith) (omega arith)

pub comma_is : (t : Token) → token_kind t ≡ comma_kind → t ≡ comma
comma_is t e = sign_is t comma_kind e (omega arith) (omega arith)

pub bar_is : (t : Token) → token_kind t ≡ bar_kind → t ≡ bar
bar_is t e = sign_is t bar_kind e (omega arith) (omega arith)

pub end_is : (t : Token) → token_kind t ≡ end_kind → t ≡ end
end_is t e = sign_is t end_kind e (omega arith) (omega arith)

pub star_is : (t : Token) → token_kind t ≡ star_kind → t ≡ mark 2
unfolding token_kind mark_kind
star_is t e = let (m, q, l) = mark_is t (omega arith) in q ∙ ap mark (go m (ap token_kind (sym q) ∙ e))
  where
    go : (m : ℕ) → mark_kind m ≡ star_kind → m ≡ 2
    go zero k = absurd (omega arith)
    go (suc zero) k = absurd (omega arith)
    go (suc (suc zero)) k = refl
    go (suc (suc (suc m))) k = absurd (omega arith)

-- the words that have the kinds of `EMPTY` and of `#PCDATA`
pub empty_is : (t : Token) → token_kind t ≡ empty_kind → t ≡ word empty_word
unfolding token_kind
empty_is t e = let (x, q) = word_is t (omega arith) (omega arith) in q ∙ ap word (go x (same x empty_word) refl (same x pcdata_word) (ap token_kind (sym q) ∙ e))
  where
    go : (x : List ℕ) (a : Bool) → same x empty_word ≡ a → (b : Bool) → cond a empty_kind (cond b pcdata_kind word_kind) ≡ empty_kind → x ≡ empty_word
    go x true p b k = same_is x empty_word p
    go x false p true k = absurd (omega arith)
    go x false p false k = absurd (omega arith)

pub pcdata_is : (t : Token) → token_kind t ≡ pcdata_kind → t ≡ word pcdata_word
unfolding token_kind
pcdata_is t e = let (x, q) = word_is t (omega arith) (omega arith) in q ∙ ap word (go x (same x empty_word) (same x pcdata_word) refl (ap token_kind (sym q) ∙ e))
  where
    go : (x : List ℕ) (a b : Bool) → same x pcdata_word ≡ b → cond a empty_kind (cond b pcdata_kind word_kind) ≡ pcdata_kind → x ≡ pcdata_word
    go x true b p k = absurd (omega arith)
    go x false true p k = same_is x pcdata_word p
    go x false false p k = absurd (omega arith)
