-- What holds of each kind of token holds of the token at a place of a text.
-- Assumes nothing.
use Prim.Native.Nat.{ℕ, suc, ◌<◌}
use mathlib.Core.Path.{◌≡◌, refl}
use mathlib.Core.Bool.{Bool, true, false, cond}
use mathlib.Core.List.{List, ◌∷◌}
use native.Mathlib.Omega.{arith}
use lib.Dec.{eqb}
use lib.ListN.{length, get_or, take, drop}
use lib.Seq.{drop-cons}
use Rattle.name.specs.Word.{word_byte}
use Rattle.declaration_spelling.specs.Token.{Token, word, lpar, rpar, comma, bar, end, mark, other}
use Rattle.declaration_spelling.specs.Cut.{sign}
use Rattle.declaration_spelling.specs.Kind.{other_kind, word_kind, lpar_kind, rpar_kind, comma_kind, bar_kind, end_kind, question_kind, plus_kind, star_kind}
use Rattle.declaration_bytes.specs.Unread.{next_of, run_of}
use Rattle.declaration_scan.specs.Kind.{sign_kind, kind_of}
use Rattle.declaration_scan.specs.Piece.{token_length, token_of}
use Rattle.declaration_scan.proofs.Signs.{kind_word}

-- the bytes of the token at the start of a text
abbrev pub front : List ℕ → List ℕ
front t = take (token_length t) t

word_token : (b : ℕ) (bs : List ℕ) → word_byte b ≡ true → token_of (front (b ∷ bs)) ≡ word (front (b ∷ bs))
unfolding token_length run_of token_of
word_token b bs e = rw (e, e)

sign_token : (b : ℕ) (bs : List ℕ) → word_byte b ≡ false → token_of (front (b ∷ bs)) ≡ sign b
unfolding token_length token_of
sign_token b bs e = rw (e, e)

-- a token has a byte
pub token_some : (b : ℕ) (bs : List ℕ) → 0 < token_length (b ∷ bs)
unfolding token_length run_of
token_some b bs = go (word_byte b) refl
  where
    go : (k : Bool) → word_byte b ≡ k → 0 < cond k (cond (word_byte b) (suc (run_of word_byte bs)) 0) 1
    go true e = rw e (omega arith)
    go false e = omega arith

-- P holds of each kind, with a token that it stands for and the token's bytes
abbrev pub EachKind : (ℕ → Token → List ℕ → Type 0) → Type 0
EachKind P =
    (w : List ℕ) (b : ℕ) →
    P word_kind (word w) w × P lpar_kind lpar w × P rpar_kind rpar w × P comma_kind comma w × P bar_kind bar w × P end_kind end w
    × P question_kind (mark 0) w × P plus_kind (mark 1) w × P star_kind (mark 2) w × P other_kind (other b) w

module _ (P : ℕ → Token → List ℕ → Type 0) (each : EachKind P) where
  pick : (w : List ℕ) (c : Bool) (t u : Token) (j k : ℕ) → P j t w → P k u w → P (cond c j k) (cond c t u) w
  pick w true t u j k p q = p
  pick w false t u j k p q = q

  by_sign : (w : List ℕ) (b : ℕ) → word_byte b ≡ false → P (kind_of b) (sign b) w
  unfolding sign kind_of sign_kind
  by_sign w b e =
      let p = each w b in
      rw e
      (pick w (eqb b 40) lpar _ lpar_kind _ p.1
      (pick w (eqb b 41) rpar _ rpar_kind _ p.2
      (pick w (eqb b 44) comma _ comma_kind _ p.3
      (pick w (eqb b 124) bar _ bar_kind _ p.4
      (pick w (eqb b 62) end _ end_kind _ p.5
      (pick w (eqb b 63) (mark 0) _ question_kind _ p.6
      (pick w (eqb b 43) (mark 1) _ plus_kind _ p.7
      (pick w (eqb b 42) (mark 2) (other b) star_kind other_kind p.8 p.9))))))))

  -- the token that begins with the byte b
  pub by_kind : (b : ℕ) (bs : List ℕ) → P (kind_of b) (token_of (front (b ∷ bs))) (front (b ∷ bs))
  by_kind b bs = go (word_byte b) refl
    where
      go : (k : Bool) → word_byte b ≡ k → P (kind_of b) (token_of (front (b ∷ bs))) (front (b ∷ bs))
      go true e = rw (← kind_word b e, word_token b bs e) (each (front (b ∷ bs)) b).0
      go false e = rw (sign_token b bs e) (by_sign (front (b ∷ bs)) b e)

  -- the token that begins at a place
  pub by_place : (s : List ℕ) (from : ℕ) → from < length s → P (kind_of (next_of (drop from s))) (token_of (front (drop from s))) (front (drop from s))
  unfolding next_of
  by_place s from h = rw (drop-cons s from 0 h) (by_kind (get_or s from 0) (drop (suc from) s))
