-- What the kind of a token and its bytes tell of it.
-- Assumes nothing.
use Prim.Native.Nat.{ℕ, suc, ◌+◌, ◌-◌, ◌≤◌, ◌<◌}
use mathlib.Core.Path.{◌≡◌, refl, ap}
use mathlib.Core.Bool.{Bool, true, false, cond}
use mathlib.Core.List.{List}
use native.Mathlib.Omega.{arith}
use lib.Dec.{eqb}
use lib.ListN.{length, get_or, take, drop}
use lib.Seq.{drop-cons}
use Rattle.name.specs.Class.{between}
use Rattle.declaration_spelling.specs.Token.{Token, word}
use Rattle.declaration_spelling.specs.House.{empty_word, pcdata_word}
use Rattle.declaration_spelling.specs.Cut.{same}
use Rattle.declaration_spelling.specs.Kind.{word_kind, empty_kind, pcdata_kind, star_kind, mark_kind, token_kind}
use Rattle.declaration_walk.specs.Walk.{is_word, kind_fits, passes, may_stand}
use Rattle.declaration_bytes.specs.Unread.{next_of}
use Rattle.declaration_scan.specs.Kind.{kind_of}
use Rattle.declaration_scan.specs.Piece.{token_length, word_end}
use Rattle.declaration_scan.proofs.ByKind.{EachKind, token_some, by_place}
use Rattle.declaration_form.specs.Step.{token_at}

-- ---- each kind

abbrev Fits : ℕ → Token → List ℕ → Type 0
Fits k t w = (bw gap : Bool) → kind_fits bw gap k ≡ kind_fits bw gap (token_kind t)

-- white space before `EMPTY` and `#PCDATA` is that before any word
word_fits : (w : List ℕ) → Fits word_kind (word w) w
unfolding kind_fits between token_kind
word_fits w bw gap = go (same w empty_word) (same w pcdata_word)
  where
    go : (a b : Bool) → kind_fits bw gap word_kind ≡ kind_fits bw gap (cond a empty_kind (cond b pcdata_kind word_kind))
    go true b = refl
    go false true = refl
    go false false = refl

each_fits : EachKind Fits
unfolding token_kind mark_kind
each_fits w b = (word_fits w, λ x y. refl, λ x y. refl, λ x y. refl, λ x y. refl, λ x y. refl, λ x y. refl, λ x y. refl, λ x y. refl, λ x y. refl)

abbrev Worded : ℕ → Token → List ℕ → Type 0
Worded k t w = eqb k word_kind ≡ is_word t

each_worded : EachKind Worded
unfolding is_word
each_worded w b = (refl, refl, refl, refl, refl, refl, refl, refl, refl, refl)

abbrev Low : ℕ → Token → List ℕ → Type 0
Low k t w = k ≤ star_kind

each_low : EachKind Low
each_low w b =
    (omega arith, omega arith, omega arith, omega arith, omega arith, omega arith, omega arith, omega arith, omega arith, omega arith)

abbrev Bytes : ℕ → Token → List ℕ → Type 0
Bytes k t w = k ≡ word_kind → t ≡ word w

each_bytes : EachKind Bytes
each_bytes w b = (λ e. refl, λ e. cc, λ e. cc, λ e. cc, λ e. cc, λ e. cc, λ e. cc, λ e. cc, λ e. cc, λ e. cc)

abbrev Signed : ℕ → Token → List ℕ → Type 0
Signed k t w = (k ≡ word_kind → ⊥) → (k ≡ token_kind t) × (passes may_stand t ≡ true)

each_signed : EachKind Signed
unfolding token_kind mark_kind passes
each_signed w b = (
  λ n. absurd (n refl),
  λ n. (refl, refl),
  λ n. (refl, refl),
  λ n. (refl, refl),
  λ n. (refl, refl),
  λ n. (refl, refl),
  λ n. (refl, refl),
  λ n. (refl, refl),
  λ n. (refl, refl),
  λ n. (refl, refl),
)

-- ---- the token at a place

-- a token of the text, with its kind and its end
module _ (s : List ℕ) (kind from to : ℕ) (is : kind ≡ kind_of (next_of (drop from s))) (ends : to ≡ word_end s from) (h : from < length s) where
  size_is : to - from ≡ token_length (drop from s)
  unfolding word_end
  size_is = omega arith

  here : (P : ℕ → Token → List ℕ → Type 0) → EachKind P → P kind (token_at s from) (take (to - from) (drop from s))
  unfolding token_at
  here P each = rw (is, size_is) (by_place P each s from h)

  pub here_fits : (bw gap : Bool) → kind_fits bw gap kind ≡ kind_fits bw gap (token_kind (token_at s from))
  here_fits = here Fits each_fits

  pub here_word : eqb kind word_kind ≡ is_word (token_at s from)
  here_word = here Worded each_worded

  pub here_kind : kind ≤ star_kind
  here_kind = here Low each_low

  -- a word is made of its bytes
  pub here_bytes : kind ≡ word_kind → token_at s from ≡ word (take (to - from) (drop from s))
  here_bytes = here Bytes each_bytes

  pub here_sign : (kind ≡ word_kind → ⊥) → (kind ≡ token_kind (token_at s from)) × (passes may_stand (token_at s from) ≡ true)
  here_sign = here Signed each_signed

  -- a token has a byte
  pub here_on : from < to
  unfolding word_end
  here_on =
      let z : to ≡ from + token_length (drop from s) = ends in
      let d = ap token_length (drop-cons s from 0 h) in
      omega (arith, token_some (get_or s from 0) (drop (suc from) s))
