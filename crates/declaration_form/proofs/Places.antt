-- The walk along a text from place to place.
-- Assumes nothing.
use Prim.Native.Nat.{ℕ, suc, ◌≤◌, ◌<◌}
use mathlib.Core.Path.{◌≡◌, refl, sym, ◌∙◌, ap}
use mathlib.Core.Bool.{Bool, true, false, cond, ◌&&◌}
use mathlib.Core.List.{List, ◌∷◌}
use mathlib.Core.Option.{none, some}
use native.Mathlib.Omega.{arith}
use lib.Dec.{eqb}
use lib.ListN.{length, get_or, take, drop, drop_of_length-le}
use lib.Seq.{drop-cons}
use borrow.Author.Tests.{lt-ltb}
use Rattle.declaration_spelling.specs.Token.{Token}
use Rattle.declaration_spelling.specs.House.{opening}
use Rattle.declaration_spelling.specs.Cut.{Cut, at_front, cut}
use Rattle.declaration_spelling.specs.Kind.{word_kind, token_kind}
use Rattle.declaration_walk.specs.Walk.{State, before_parent, nowhere, step, number_of, walk, is_word, kind_fits, passes, may_stand, accepts, accepts_rest, has_form}
use Rattle.declaration_walk.proofs.Formed.{accepts_lost}
use Rattle.declaration_bytes.specs.Unread.{next_of}
use Rattle.declaration_scan.specs.declared.Piece.{Piece}
use Rattle.declaration_scan.specs.Kind.{kind_of}
use Rattle.declaration_scan.specs.Piece.{token_length, word_end, space_end, piece_at, token_of}
use Rattle.declaration_scan.proofs.Pieces.{piece_over, piece_first}
use Rattle.declaration_form.specs.Step.{begins, token_at, advance, accepts_from}
use Rattle.declaration_form.proofs.Begins.{strip_begins}
use Rattle.declaration_form.proofs.Tokens.{here_word}

-- ---- one piece

-- a test that fails leads nowhere
advanced : (state : State) (bw gap : Bool) (t : Token) (c : Cut) → accepts state bw gap (at_front t c).pieces ≡ accepts (advance state bw gap t) (is_word t) c.gap c.pieces
unfolding at_front accepts advance
advanced state bw gap t c = go (kind_fits bw gap (token_kind t)) (passes may_stand t)
  where
    go : (f g : Bool) → (f && (g && accepts (step state (token_kind t)) (is_word t) c.gap c.pieces)) ≡ accepts (cond (f && g) (step state (token_kind t)) nowhere) (is_word t) c.gap c.pieces
    go true true = refl
    go true false = sym (accepts_lost (is_word t) c.gap c.pieces)
    go false g = sym (accepts_lost (is_word t) c.gap c.pieces)

abbrev Told : List ℕ → ℕ → Piece → Type 0
Told s at p = (p.kind ≡ kind_of (next_of (drop p.from s))) × (p.to ≡ word_end s p.from) × (at ≤ p.from)

told : (s : List ℕ) (at : ℕ) → Told s at (piece_at s at)
unfolding piece_at space_end
told s at = (refl, refl, omega arith)

-- what the next piece tells
pub piece_told : (s : List ℕ) (at : ℕ) (p : Piece) → p ≡ piece_at s at → (p.kind ≡ kind_of (next_of (drop p.from s))) × (p.to ≡ word_end s p.from) × (at ≤ p.from)
piece_told s at p e = rw e (told s at)

module _ (s : List ℕ) (at : ℕ) (state : State) (bw : Bool) where
  -- behind the last token
  pub walk_done : length s ≤ at → accepts_from s state bw at ≡ eqb (number_of state) 18
  unfolding accepts_from accepts walk number_of cut
  walk_done h = rw (drop_of_length-le s h)

  over : at < length s → length s ≤ space_end s at → accepts_from s state bw at ≡ false
  unfolding accepts_from accepts piece_at
  over l h =
      let k : at < space_end s at = omega arith in
      ap (λ (c : Cut). accepts state bw c.gap c.pieces) (piece_over s at (drop_of_length-le s h)) ∙ rw (lt-ltb at (space_end s at) k)

  on : space_end s at < length s → accepts_from s state bw at
      ≡ accepts_from s (advance state bw (piece_at s at).gap (token_at s (space_end s at))) (is_word (token_at s (space_end s at))) (piece_at s at).to
  unfolding accepts_from token_at
  on h =
      let d = drop-cons s (space_end s at) 0 h in
      let b = get_or s (space_end s at) 0 in
      let bs = drop (suc (space_end s at)) s in
      ap (λ (c : Cut). accepts state bw c.gap c.pieces) (piece_first s at b bs d)
      ∙ advanced state bw (piece_at s at).gap (token_of (take (token_length (b ∷ bs)) (b ∷ bs))) (cut (drop (piece_at s at).to s))
      ∙ ap (λ (t : List ℕ). accepts (advance state bw (piece_at s at).gap (token_of (take (token_length t) t))) (is_word (token_of (take (token_length t) t))) (cut (drop (piece_at s at).to s)).gap (cut (drop (piece_at s at).to s)).pieces) (sym d)

  from_is : (piece_at s at).from ≡ space_end s at
  unfolding piece_at
  from_is = refl

  -- white space at the end
  pub walk_over : (p : Piece) → p ≡ piece_at s at → at < length s → length s ≤ p.from → accepts_from s state bw at ≡ false
  walk_over p e l h = over l (let z : p.from ≡ space_end s at = ap (λ (q : Piece). q.from) e ∙ from_is in omega arith)

  -- one token more
  walk_on : (p : Piece) → p ≡ piece_at s at → p.from < length s → (n : State) → n ≡ advance state bw p.gap (token_at s p.from)
      → accepts_from s state bw at ≡ accepts_from s n (is_word (token_at s p.from)) p.to
  walk_on p e h n q =
      let z : p.from ≡ space_end s at = ap (λ (k : Piece). k.from) e ∙ from_is in
      let g : p.gap ≡ (piece_at s at).gap = ap (λ (k : Piece). k.gap) e in
      let t : p.to ≡ (piece_at s at).to = ap (λ (k : Piece). k.to) e in
      rw (q, t, g, z) (on (omega arith))

  pub walk_next : (p : Piece) → p ≡ piece_at s at → p.from < length s → (n : State) → n ≡ advance state bw p.gap (token_at s p.from)
      → accepts_from s state bw at ≡ accepts_from s n (eqb p.kind word_kind) p.to
  walk_next p e h n q =
      let t = piece_told s at p e in
      rw (here_word s p.kind p.from p.to t.0 t.1 h) (walk_on p e h n q)

  pub walk_lost : state ≡ nowhere → accepts_from s state bw at ≡ false
  unfolding accepts_from
  walk_lost e = rw e (accepts_lost bw (cut (drop at s)).gap (cut (drop at s)).pieces)

-- ---- the whole

pub form_is : (s : List ℕ) → has_form s ≡ cond (begins opening s) (accepts_from s before_parent true 9) false
unfolding has_form accepts_rest accepts_from opening
form_is s = rw (strip_begins opening s) (go (begins opening s))
  where
    go : (b : Bool) → accepts_rest (cond b (some (drop (length opening) s)) none) ≡ cond b (accepts_from s before_parent true 9) false
    go true = refl
    go false = refl

pub form_begun : (s : List ℕ) (b : Bool) → begins opening s ≡ true → b ≡ accepts_from s before_parent true 9 → b ≡ has_form s
form_begun s b e q = rw (form_is s, e) q

pub form_not : (s : List ℕ) → begins opening s ≡ false → false ≡ has_form s
form_not s e = rw (form_is s, e)
