-- The state behind a token, test by test.
-- Assumes nothing.
use Prim.Native.Nat.{ℕ, ◌-◌, ◌<◌}
use mathlib.Core.Path.{◌≡◌, refl, sym, ◌∙◌, ap}
use mathlib.Core.Bool.{Bool, true, false, cond, ◌&&◌, ◌||◌}
use mathlib.Core.List.{List}
use native.Mathlib.Omega.{arith}
use borrow.Author.Tests.{not-true}
use lib.ListN.{length, take, drop}
use Rattle.name.specs.Rule.{is_name}
use Rattle.declaration_spelling.specs.Token.{Token, word}
use Rattle.declaration_spelling.specs.House.{empty_word, pcdata_word}
use Rattle.declaration_spelling.specs.Cut.{same}
use Rattle.declaration_spelling.specs.Kind.{word_kind, empty_kind, pcdata_kind, token_kind}
use Rattle.declaration_walk.specs.Walk.{State, nowhere, step, kind_fits, passes, may_stand}
use Rattle.declaration_walk.proofs.Arrows.{is_plain, kind_plain}
use Rattle.declaration_bytes.specs.Unread.{next_of}
use Rattle.declaration_scan.specs.Kind.{kind_of}
use Rattle.declaration_scan.specs.Piece.{word_end}
use Rattle.declaration_form.specs.Step.{token_at, advance}
use Rattle.declaration_form.proofs.Tokens.{here_fits, here_bytes, here_sign}

module _ (state : State) (bw gap : Bool) (t : Token) where
  unfit : kind_fits bw gap (token_kind t) ≡ false → nowhere ≡ advance state bw gap t
  unfolding advance
  unfit e = rw e

  bad : passes may_stand t ≡ false → nowhere ≡ advance state bw gap t
  unfolding advance
  bad e = go (kind_fits bw gap (token_kind t))
    where
      go : (b : Bool) → nowhere ≡ cond (b && passes may_stand t) (step state (token_kind t)) nowhere
      go true = rw e
      go false = refl

  good : kind_fits bw gap (token_kind t) ≡ true → passes may_stand t ≡ true → step state (token_kind t) ≡ advance state bw gap t
  unfolding advance
  good e q = rw (e, q)

word_passes : (t : Token) (w : List ℕ) → t ≡ word w → passes may_stand t ≡ may_stand w
unfolding passes
word_passes t w e = rw e

-- `#PCDATA` may stand, another word where it is a name
pub text_stands : (k : ℕ) (w : List ℕ) → k ≡ token_kind (word w) → k ≡ pcdata_kind → true ≡ may_stand w
unfolding may_stand token_kind
text_stands k w e q = go (same w empty_word) (same w pcdata_word) (sym e ∙ q)
  where
    go : (a b : Bool) → cond a empty_kind (cond b pcdata_kind word_kind) ≡ pcdata_kind → true ≡ (b || is_name w)
    go true b z = absurd (omega arith)
    go false true z = refl
    go false false z = absurd (omega arith)

pub name_stands : (k : ℕ) (w : List ℕ) → k ≡ token_kind (word w) → (k ≡ pcdata_kind → ⊥) → is_name w ≡ may_stand w
unfolding may_stand is_plain passes
name_stands k w e n = rw (not-true (same w pcdata_word) (kind_plain (word w) (λ z. n (e ∙ z))))

module _ (s : List ℕ) (kind from to : ℕ) (is : kind ≡ kind_of (next_of (drop from s))) (ends : to ≡ word_end s from) (h : from < length s) (state : State) (bw gap : Bool) where
  abbrev t : Token
  t = token_at s from

  abbrev w : List ℕ
  w = take (to - from) (drop from s)

  pub step_unfit : kind_fits bw gap kind ≡ false → nowhere ≡ advance state bw gap (token_at s from)
  step_unfit e = unfit state bw gap t (sym (here_fits s kind from to is ends h bw gap) ∙ e)

  pub step_bad : kind ≡ word_kind → may_stand (take (to - from) (drop from s)) ≡ false → nowhere ≡ advance state bw gap (token_at s from)
  step_bad k e = bad state bw gap t (word_passes t w (here_bytes s kind from to is ends h k) ∙ e)

  module _ (f : kind_fits bw gap kind ≡ true) where
    fit : kind_fits bw gap (token_kind t) ≡ true
    fit = sym (here_fits s kind from to is ends h bw gap) ∙ f

    pub step_sign : (kind ≡ word_kind → ⊥) → step state kind ≡ advance state bw gap (token_at s from)
    step_sign n = let q = here_sign s kind from to is ends h n in ap (step state) q.0 ∙ good state bw gap t fit q.1

    pub step_word : (k : ℕ) → k ≡ token_kind (word (take (to - from) (drop from s))) → kind ≡ word_kind → may_stand (take (to - from) (drop from s)) ≡ true
        → step state k ≡ advance state bw gap (token_at s from)
    step_word k e q g =
        let b = here_bytes s kind from to is ends h q in
        ap (step state) (e ∙ ap token_kind (sym b)) ∙ good state bw gap t fit (word_passes t w b ∙ g)
