-- The next token by its place is the first piece of what is left of the text.
-- Assumes nothing.
use Prim.Native.Nat.{ℕ, zero, suc, ◌+◌, ◌≤◌, ◌<◌}
use mathlib.Core.Path.{◌≡◌, refl, sym, ◌∙◌, ap, ap₂}
use mathlib.Core.Bool.{Bool, true, false, cond, false≢true}
use mathlib.Core.List.{List, [], ◌∷◌}
use native.Mathlib.Omega.{arith}
use lib.Dec.{ltb}
use lib.ListN.{length, get_or, take, drop, drop_of_length-le}
use lib.Seq.{drop-cons, drop-drop}
use borrow.Author.Tests.{lt-ltb, le-ltb}
use Rattle.name.specs.Word.{word_byte}
use Rattle.declaration_spelling.specs.Token.{is_space, word}
use Rattle.declaration_spelling.specs.Cut.{Cut, sign, at_front, cut}
use Rattle.declaration_spelling.specs.Kind.{other_kind}
use Rattle.declaration_bytes.specs.Unread.{next_of, run_of}
use Rattle.declaration_bytes.proofs.Runs.{next_here, stop, stop_is, run_there, run_over, run_some, word_end_lem}
use Rattle.declaration_bytes.proofs.Cuts.{some_of, cut_spaces, cut_sign, cut_word}
use Rattle.declaration_scan.specs.Kind.{sign_kind, kind_of}
use Rattle.declaration_scan.specs.Piece.{token_length, word_end, space_end, piece_from, piece_at, token_of}
use Rattle.declaration_scan.proofs.Signs.{sign_no_word}
use Rattle.declaration_scan.proofs.ByKind.{token_some}

-- ---- where a token ends

module _ (s : List ℕ) (from n : ℕ) (is : n ≡ next_of (drop from s)) where
  pub end_word : (r : ℕ) → word_byte n ≡ true → r ≡ from + run_of word_byte (drop from s) → r ≡ word_end s from
  unfolding word_end token_length
  end_word r e q =
      let h : from < length s = run_there word_byte word_end_lem s from n is e in
      let k : word_byte (get_or s from 0) ≡ true = ap word_byte (next_here s from h ∙ sym is) ∙ e in
      q ∙ rw (drop-cons s from 0 h, k)

  pub end_sign : word_byte n ≡ false → from < length s → from + 1 ≡ word_end s from
  unfolding word_end token_length
  end_sign e h =
      let k : word_byte (get_or s from 0) ≡ false = ap word_byte (next_here s from h ∙ sym is) ∙ e in
      rw (drop-cons s from 0 h, k)

-- the place e where the run of the bytes of words at `from` ends tells whether a word begins there
module _ (s : List ℕ) (from n : ℕ) (is : n ≡ next_of (drop from s)) (e : ℕ) (ends : e ≡ from + run_of word_byte (drop from s)) where
  pub word_here : from < e → word_byte n ≡ true
  word_here h = go (word_byte n) refl
    where
      go : (k : Bool) → word_byte n ≡ k → k ≡ true
      go true q = refl
      go false q = let z : stop word_byte s from ≡ from = run_over word_byte word_end_lem s from n is q in absurd (omega (arith, stop_is word_byte s from))

  pub no_word_here : e ≤ from → word_byte n ≡ false
  no_word_here h = go (word_byte n) refl
    where
      go : (k : Bool) → word_byte n ≡ k → k ≡ false
      go true q = absurd (omega (arith, run_some word_byte word_end_lem s from n is q, stop_is word_byte s from))
      go false q = refl

-- a sign begins no run of the bytes of words
pub sign_run : (s : List ℕ) (from k : ℕ) → k ≡ sign_kind (next_of (drop from s)) → (k ≡ other_kind → ⊥) → from ≡ from + run_of word_byte (drop from s)
sign_run s from k q d = sym (run_over word_byte word_end_lem s from (next_of (drop from s)) refl (sign_no_word (next_of (drop from s)) (λ z. d (q ∙ z)))) ∙ stop_is word_byte s from

pub end_over : (s : List ℕ) (from : ℕ) → length s ≤ from → from ≡ word_end s from
unfolding word_end token_length
end_over s from h = rw (drop_of_length-le s h) (omega arith)

-- ---- the next piece

pub piece_is : (s : List ℕ) (at from n kind to : ℕ) → n ≡ next_of (drop from s) → kind ≡ kind_of n → to ≡ word_end s from →
    record { gap = ltb at from; kind = kind; from = from; to = to } ≡ piece_from s at from
piece_is s at from n kind to b c d = rw (d, c, b)

some_gap : (at k : ℕ) → some_of k ≡ ltb at (at + k)
unfolding some_of
some_gap at zero = sym (le-ltb at (at + 0) (omega arith))
some_gap at (suc k) = sym (lt-ltb at (at + suc k) (omega arith))

spaced_is : (s : List ℕ) (at : ℕ) → drop (at + run_of is_space (drop at s)) s ≡ drop (space_end s at) s
unfolding space_end
spaced_is s at = refl

-- what is left behind the white space
behind_spaces : (s : List ℕ) (at : ℕ) → cut (drop at s) ≡ record { gap = ltb at (space_end s at); pieces = (cut (drop (space_end s at) s)).pieces }
unfolding space_end
behind_spaces s at =
    cut_spaces (drop at s)
    ∙ ap₂ (λ (g : Bool) (t : List ℕ). record { gap = g; pieces = (cut t).pieces }) (some_gap at (run_of is_space (drop at s))) (drop-drop (run_of is_space (drop at s)) at s)

no_space : (t : List ℕ) (b : ℕ) (bs : List ℕ) → drop (run_of is_space t) t ≡ b ∷ bs → is_space b ≡ false
unfolding run_of
no_space [] b bs e = absurd (false≢true cc)
no_space (c ∷ t) b bs e = go (is_space c) refl e (no_space t b bs)
  where
    go : (k : Bool) → is_space c ≡ k → drop (cond k (suc (run_of is_space t)) 0) (c ∷ t) ≡ b ∷ bs → (drop (run_of is_space t) t ≡ b ∷ bs → is_space b ≡ false) → is_space b ≡ false
    go true q f ih = ih f
    go false q f ih = let z : c ≡ b = cc in ap is_space (sym z) ∙ q

first_token : (b : ℕ) (bs : List ℕ) → is_space b ≡ false →
    cut (b ∷ bs) ≡ at_front (token_of (take (token_length (b ∷ bs)) (b ∷ bs))) (cut (drop (token_length (b ∷ bs)) (b ∷ bs)))
unfolding token_length run_of token_of
first_token b bs e = go (word_byte b) refl (λ q. cut_word b bs q) (λ q. cut_sign b bs e q)
  where
    go : (k : Bool) → word_byte b ≡ k
        → (word_byte b ≡ true → cut (b ∷ bs) ≡ at_front (word (take (run_of word_byte (b ∷ bs)) (b ∷ bs))) (cut (drop (run_of word_byte (b ∷ bs)) (b ∷ bs))))
        → (word_byte b ≡ false → cut (b ∷ bs) ≡ at_front (sign b) (cut bs))
        → cut (b ∷ bs) ≡ at_front (token_of (take (cond k (run_of word_byte (b ∷ bs)) 1) (b ∷ bs))) (cut (drop (cond k (run_of word_byte (b ∷ bs)) 1) (b ∷ bs)))
    go true q w s = w q ∙ rw (q, q)
    go false q w s = s q ∙ rw q

-- nothing but white space is left
pub piece_over : (s : List ℕ) (at : ℕ) → drop (space_end s at) s ≡ [] → cut (drop at s) ≡ record { gap = (piece_at s at).gap; pieces = [] }
unfolding piece_at cut
piece_over s at e = behind_spaces s at ∙ ap (λ (t : List ℕ). record { gap = ltb at (space_end s at); pieces = (cut t).pieces }) e

-- a token is left: it is the first piece, and the text from its end on has the others
pub piece_first : (s : List ℕ) (at b : ℕ) (bs : List ℕ) → drop (space_end s at) s ≡ b ∷ bs →
    cut (drop at s) ≡ record {
      gap = (piece_at s at).gap;
      pieces = (at_front (token_of (take (token_length (b ∷ bs)) (b ∷ bs))) (cut (drop (piece_at s at).to s))).pieces;
    }
unfolding piece_at word_end
piece_first s at b bs e =
    let q : is_space b ≡ false = no_space (drop at s) b bs (drop-drop (run_of is_space (drop at s)) at s ∙ spaced_is s at ∙ e) in
    let d : drop (space_end s at + token_length (drop (space_end s at) s)) s ≡ drop (token_length (b ∷ bs)) (b ∷ bs)
    = sym (drop-drop (token_length (drop (space_end s at) s)) (space_end s at) s) ∙ ap (λ (t : List ℕ). drop (token_length t) t) e in
    behind_spaces s at
    ∙ ap (λ (t : List ℕ). record { gap = ltb at (space_end s at); pieces = (cut t).pieces }) e
    ∙ ap (λ (c : Cut). record { gap = ltb at (space_end s at); pieces = c.pieces }) (first_token b bs q)
    ∙ ap (λ (t : List ℕ). record { gap = ltb at (space_end s at); pieces = (at_front (token_of (take (token_length (b ∷ bs)) (b ∷ bs))) (cut t)).pieces }) (sym d)

-- the next token ends further on
pub piece_onward : (s : List ℕ) (at : ℕ) → at < length s → at < (piece_at s at).to
unfolding piece_at word_end space_end
piece_onward s at h = go (run_of is_space (drop at s)) refl
  where
    go : (k : ℕ) → run_of is_space (drop at s) ≡ k → at < at + k + token_length (drop (at + k) s)
    go zero e = let z : at + 0 ≡ at = omega arith in rw (z, drop-cons s at 0 h) (omega (arith, token_some (get_or s at 0) (drop (suc at) s)))
    go (suc k) e = omega arith
