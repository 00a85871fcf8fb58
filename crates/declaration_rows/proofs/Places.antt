-- One token by its place in the text: what is known of it, what it does to the rows, and what is left behind it.
-- Assumes nothing.
use Rattle.std.specs.Prelude.{Err}
use Prim.Native.Nat.{ℕ, zero, suc, ◌+◌, ◌-◌, ◌≤◌, ◌<◌}
use mathlib.Core.Path.{◌≡◌, refl, sym, ap}
use mathlib.Core.Bool.{Bool, true, false, cond, not, ◌&&◌}
use mathlib.Core.List.{List, [], ◌∷◌}
use mathlib.Core.Option.{Option, none, some}
use mathlib.Core.Logic.{◌⊎◌, inl, inr}
use native.Mathlib.Omega.{arith}
use native.Mathlib.Decide.{ℕ_discrete}
use native.Mathlib.Nat.{add-zero}
use lib.Dec.{eqb, ltb}
use lib.ListN.{length, get_or, set, drop, drop_of_length-le}
use lib.Seq.{drop-cons}
use borrow.Author.Tests.{ne_eqb, lt-ltb}
use Rattle.refusal.specs.declared.Refusal.TheVariants.{NotADeclaration, UnknownName}
use Rattle.refusal.specs.Answer.{Answer, refuse_if}
use Rattle.declaration_spelling.specs.Token.{is_space, Token, word}
use Rattle.declaration_spelling.specs.House.{empty_word, pcdata_word}
use Rattle.declaration_spelling.specs.Cut.{same, Cut, at_front, cut, tokens}
use Rattle.declaration_spelling.specs.Kind.{other_kind, word_kind, empty_kind, pcdata_kind, comma_kind, bar_kind, mark_kind, token_kind}
use Rattle.declaration_spelling.specs.declared.Declared.{Declared}
use Rattle.declaration_spelling.specs.Read.{known, number_for}
use Rattle.declaration_walk.specs.Walk.{is_word, passes, all_pass}
use Rattle.declaration_bytes.specs.Unread.{next_of, run_of}
use Rattle.declaration_scan.specs.Kind.{kind_of}
use Rattle.declaration_scan.specs.Piece.{token_length, word_end, space_end, piece_at, token_of}
use Rattle.declaration_scan.proofs.Signs.{end_kind_lem}
use Rattle.declaration_scan.proofs.Pieces.{piece_over, piece_first}
use Rattle.declaration_scan.proofs.ByKind.{EachKind, front, token_some, by_kind}
use Rattle.declaration_walk.specs.Gather.{known_tokens, Rows, is_free, with_name, next_factor, with_mode, take_token, and_then, gather_from, begins_with_word, begins_with, content_answer, tokens_answer}
use Rattle.declaration_rows.specs.Place.{tokens_at, part_of, known_kind, text_kind, kind_mode, take_kind, free_at, free_kind, factor_after, mode_after, index_after}

-- nothing is left, or a token and what stands behind it
abbrev Next : List ℕ → ℕ → Type 0
Next s at =
    (((piece_at s at).kind ≡ other_kind) × (tokens_at s at ≡ []) × (tokens_at s (piece_at s at).to ≡ []))
    ⊎ ((b : ℕ) × (bs : List ℕ) × ((piece_at s at).kind ≡ kind_of b) × (tokens_at s at ≡ token_of (front (b ∷ bs)) ∷ tokens_at s (piece_at s at).to)
    × (part_of s (piece_at s at).from (piece_at s at).to ≡ front (b ∷ bs)))

pub tokens_over : (s : List ℕ) (at : ℕ) → length s ≤ at → tokens_at s at ≡ []
unfolding tokens_at cut tokens
tokens_over s at h = rw (drop_of_length-le s h)

at_end : (s : List ℕ) (at : ℕ) → drop (space_end s at) s ≡ [] → ((piece_at s at).kind ≡ other_kind) × (tokens_at s at ≡ []) × (tokens_at s (piece_at s at).to ≡ [])
unfolding piece_at next_of word_end token_length tokens_at cut tokens
at_end s at e = (
  rw e (sym end_kind_lem),
  ap (λ (c : Cut). tokens c.pieces) (piece_over s at e),
  rw (e, add-zero (space_end s at), e),
)

at_token : (s : List ℕ) (at b : ℕ) (bs : List ℕ) → drop (space_end s at) s ≡ b ∷ bs →
    ((piece_at s at).kind ≡ kind_of b) × (tokens_at s at ≡ token_of (front (b ∷ bs)) ∷ tokens_at s (piece_at s at).to) × (part_of s (piece_at s at).from (piece_at s at).to ≡ front (b ∷ bs))
unfolding piece_at next_of word_end tokens_at tokens at_front part_of
at_token s at b bs e =
    let k : space_end s at + token_length (drop (space_end s at) s) - space_end s at ≡ token_length (drop (space_end s at) s) = omega arith in
    (rw e refl, ap (λ (c : Cut). tokens c.pieces) (piece_first s at b bs e), rw (k, e) refl)

next_is : (s : List ℕ) (at : ℕ) → Next s at
next_is s at = go (drop (space_end s at) s) refl
  where
    go : (l : List ℕ) → drop (space_end s at) s ≡ l → Next s at
    go [] e = inl (at_end s at e)
    go (b ∷ bs) e = let t = at_token s at b bs e in inr (b, bs, t.0, t.1, t.2)

-- ---- where it stands

pub piece_order : (s : List ℕ) (at : ℕ) → (piece_at s at).from ≤ (piece_at s at).to
unfolding piece_at word_end
piece_order s at = omega arith

-- ---- by kinds

-- f of a token is F of its kind and its bytes
abbrev Agree : {X : Type 0} → (Token → X) → (ℕ → List ℕ → X) → Type 0
Agree f F = EachKind (λ kind t w. f t ≡ F kind w)

token_kind_lem : {X : Type 0} (f : Token → X) (F : ℕ → List ℕ → X) → Agree f F → (b : ℕ) (bs : List ℕ) → f (token_of (front (b ∷ bs))) ≡ F (kind_of b) (front (b ∷ bs))
token_kind_lem f F agree = by_kind (λ kind t w. f t ≡ F kind w) agree

known_agrees : (names : List (List ℕ)) → Agree (passes (known names)) (known_kind names)
unfolding passes known_kind
known_agrees names w b = (refl, refl, refl, refl, refl, refl, refl, refl, refl, refl)

take_agrees : (size : ℕ) (names : List (List ℕ)) (g : Rows) → Agree (λ t. take_token size names t g) (λ kind w. take_kind size kind (number_for names w) g)
unfolding take_token take_kind kind_mode with_mode
take_agrees size names g w b = (refl, refl, refl, refl, refl, refl, refl, refl, refl, refl)

word_agrees : Agree is_word (λ kind w. eqb kind word_kind)
unfolding is_word
word_agrees w b = (refl, refl, refl, refl, refl, refl, refl, refl, refl, refl)

known_end : (names : List (List ℕ)) (w : List ℕ) → true ≡ (known_kind names other_kind w && true)
unfolding known_kind
known_end names w = refl

pub known_next : (names : List (List ℕ)) (s : List ℕ) (at : ℕ) →
    known_tokens names (tokens_at s at) ≡ (known_kind names (piece_at s at).kind (part_of s (piece_at s at).from (piece_at s at).to) && known_tokens names (tokens_at s (piece_at s at).to))
unfolding all_pass
known_next names s at = go (next_is s at)
  where
    go : Next s at → known_tokens names (tokens_at s at)
        ≡ (known_kind names (piece_at s at).kind (part_of s (piece_at s at).from (piece_at s at).to) && known_tokens names (tokens_at s (piece_at s at).to))
    go (inl (k, e, f)) = rw (k, e, f) (known_end names (part_of s (piece_at s at).from (piece_at s at).to))
    go (inr (b, bs, k, e, f)) = rw (k, e, f) (ap (λ (c : Bool). c && known_tokens names (tokens_at s (piece_at s at).to)) (token_kind_lem (passes (known names)) (known_kind names) (known_agrees names) b bs))

take_end : (size x : ℕ) (g : Rows) → take_kind size other_kind x g ≡ some g
unfolding take_kind kind_mode with_mode
take_end size x g = refl

pub take_next : (size : ℕ) (names : List (List ℕ)) (s : List ℕ) (at : ℕ) (g : Rows) →
    gather_from size names (tokens_at s at) g
    ≡ and_then (take_kind size (piece_at s at).kind (number_for names (part_of s (piece_at s at).from (piece_at s at).to)) g) (gather_from size names (tokens_at s (piece_at s at).to))
unfolding gather_from and_then
take_next size names s at g = go (next_is s at)
  where
    go : Next s at → gather_from size names (tokens_at s at) g
        ≡ and_then (take_kind size (piece_at s at).kind (number_for names (part_of s (piece_at s at).from (piece_at s at).to)) g) (gather_from size names (tokens_at s (piece_at s at).to))
    go (inl (k, e, f)) = rw (k, e, f, take_end size (number_for names (part_of s (piece_at s at).from (piece_at s at).to)) g)
    go (inr (b, bs, k, e, f)) =
        rw (k, e, f)
        (ap (λ (o : Option Rows). and_then o (gather_from size names (tokens_at s (piece_at s at).to)))
        (token_kind_lem (λ t. take_token size names t g) (λ kind w. take_kind size kind (number_for names w) g) (take_agrees size names g) b bs))

pub word_next : (s : List ℕ) (at : ℕ) → begins_with_word (tokens_at s at) ≡ eqb (piece_at s at).kind word_kind
unfolding begins_with_word
word_next s at = go (next_is s at)
  where
    go : Next s at → begins_with_word (tokens_at s at) ≡ eqb (piece_at s at).kind word_kind
    go (inl (k, e, f)) = rw (k, e)
    go (inr (b, bs, k, e, f)) = rw (k, e) (token_kind_lem is_word (λ kind w. eqb kind word_kind) word_agrees b bs)

text_agrees : Agree (λ t. eqb (token_kind t) pcdata_kind) text_kind
unfolding text_kind token_kind mark_kind
text_agrees w b = (refl, refl, refl, refl, refl, refl, refl, refl, refl, refl)

text_end : (w : List ℕ) → false ≡ text_kind other_kind w
unfolding text_kind
text_end w = refl

pub text_next : (s : List ℕ) (at : ℕ) → begins_with pcdata_kind (tokens_at s at) ≡ text_kind (piece_at s at).kind (part_of s (piece_at s at).from (piece_at s at).to)
unfolding begins_with
text_next s at = go (next_is s at)
  where
    go : Next s at → begins_with pcdata_kind (tokens_at s at) ≡ text_kind (piece_at s at).kind (part_of s (piece_at s at).from (piece_at s at).to)
    go (inl (k, e, f)) = rw (k, e) (text_end (part_of s (piece_at s at).from (piece_at s at).to))
    go (inr (b, bs, k, e, f)) = rw (k, e, f) (token_kind_lem (λ t. eqb (token_kind t) pcdata_kind) text_kind text_agrees b bs)

-- no word is a bar
word_no_bar : (w : List ℕ) → eqb (token_kind (word w)) bar_kind ≡ false
unfolding token_kind
word_no_bar w = go (same w empty_word) (same w pcdata_word)
  where
    go : (a b : Bool) → eqb (cond a empty_kind (cond b pcdata_kind word_kind)) bar_kind ≡ false
    go true b = refl
    go false true = refl
    go false false = refl

bar_agrees : Agree (λ t. eqb (token_kind t) bar_kind) (λ kind w. eqb kind bar_kind)
unfolding token_kind mark_kind
bar_agrees w b = (word_no_bar w, refl, refl, refl, refl, refl, refl, refl, refl, refl)

pub bar_next : (s : List ℕ) (at : ℕ) → begins_with bar_kind (tokens_at s at) ≡ eqb (piece_at s at).kind bar_kind
unfolding begins_with
bar_next s at = go (next_is s at)
  where
    go : Next s at → begins_with bar_kind (tokens_at s at) ≡ eqb (piece_at s at).kind bar_kind
    go (inl (k, e, f)) = rw (k, e)
    go (inr (b, bs, k, e, f)) = rw (k, e) (token_kind_lem (λ t. eqb (token_kind t) bar_kind) (λ kind w. eqb kind bar_kind) bar_agrees b bs)

-- the tokens behind the first, and behind the second
pub one_on : (s : List ℕ) (at : ℕ) → drop 1 (tokens_at s at) ≡ tokens_at s (piece_at s at).to
one_on s at = go (next_is s at)
  where
    go : Next s at → drop 1 (tokens_at s at) ≡ tokens_at s (piece_at s at).to
    go (inl (k, e, f)) = rw (e, f)
    go (inr (b, bs, k, e, f)) = rw e

pub two_on : (s : List ℕ) (at : ℕ) → drop 2 (tokens_at s at) ≡ drop 1 (tokens_at s (piece_at s at).to)
two_on s at = go (next_is s at)
  where
    go : Next s at → drop 2 (tokens_at s at) ≡ drop 1 (tokens_at s (piece_at s at).to)
    go (inl (k, e, f)) = rw (e, f)
    go (inr (b, bs, k, e, f)) = rw e

-- the answer by the first token of a declaration, its parent, and the tokens behind it
abbrev answer_by : ℕ → List (List ℕ) → List Token → ℕ → List ℕ → Answer Declared
answer_by size names ts kind w = cond (eqb kind word_kind) (refuse_if (not (known names w)) UnknownName (content_answer size names (number_for names w) ts)) (Err NotADeclaration)

answer_agrees : (size : ℕ) (names : List (List ℕ)) (ts : List Token) → Agree (λ t. tokens_answer size names (t ∷ ts)) (answer_by size names ts)
unfolding tokens_answer
answer_agrees size names ts w b = (refl, refl, refl, refl, refl, refl, refl, refl, refl, refl)

answer_end : (size : ℕ) (names : List (List ℕ)) → tokens_answer size names [] ≡ Err NotADeclaration
unfolding tokens_answer
answer_end size names = refl

pub answer_next : (size : ℕ) (names : List (List ℕ)) (s : List ℕ) (at : ℕ) →
    tokens_answer size names (tokens_at s at) ≡ answer_by size names (tokens_at s (piece_at s at).to) (piece_at s at).kind (part_of s (piece_at s at).from (piece_at s at).to)
answer_next size names s at = go (next_is s at)
  where
    go : Next s at → tokens_answer size names (tokens_at s at)
        ≡ answer_by size names (tokens_at s (piece_at s at).to) (piece_at s at).kind (part_of s (piece_at s at).from (piece_at s at).to)
    go (inl (k, e, f)) = rw (k, e) (answer_end size names)
    go (inr (b, bs, k, e, f)) =
        rw (k, e, f)
        (token_kind_lem (λ t. tokens_answer size names (t ∷ tokens_at s (piece_at s at).to)) (answer_by size names (tokens_at s (piece_at s at).to))
        (answer_agrees size names (tokens_at s (piece_at s at).to)) b bs)

-- ---- one token, row by row

mode_rows : (m : ℕ) (g : Rows) → with_mode m g ≡ record { index = g.index; factor = g.factor; mode = mode_after m g.mode g.index }
unfolding with_mode mode_after
mode_rows zero g = refl
mode_rows (suc m) g = refl

module _ (size kind x : ℕ) (g : Rows) (inside : g.index < size) where
  abbrev After : Rows
  After = record { index = index_after kind g.index; factor = factor_after kind g.factor x g.index; mode = mode_after (kind_mode kind) g.mode g.index }

  abbrev Fine : Bool
  Fine = free_kind kind g.factor x && ltb (index_after kind g.index) size

  abbrev Named : Rows
  Named = record { index = g.index; factor = set g.factor x g.index; mode = g.mode }

  by_word_lem : kind ≡ word_kind → take_kind size kind x g ≡ cond Fine (some After) none
  unfolding take_kind with_name is_free kind_mode free_kind free_at factor_after mode_after index_after
  by_word_lem e = rw (e, lt-ltb g.index size inside) (go (eqb (get_or g.factor x 255) 255))
    where
      go : (k : Bool) → cond k (some Named) none ≡ cond (k && true) (some Named) none
      go true = refl
      go false = refl

  by_comma : kind ≡ comma_kind → take_kind size kind x g ≡ cond Fine (some After) none
  unfolding take_kind next_factor kind_mode free_kind factor_after mode_after index_after
  by_comma e = rw e refl

  by_other : (kind ≡ word_kind → ⊥) → (kind ≡ comma_kind → ⊥) → take_kind size kind x g ≡ cond Fine (some After) none
  unfolding take_kind free_kind factor_after index_after
  by_other d f = rw (ne_eqb kind word_kind d, ne_eqb kind comma_kind f, lt-ltb g.index size inside) (ap some (mode_rows (kind_mode kind) g))

  pub take_rows : take_kind size kind x g ≡ cond Fine (some After) none
  take_rows = go (ℕ_discrete kind word_kind) (ℕ_discrete kind comma_kind)
    where
      go : Dec (kind ≡ word_kind) → Dec (kind ≡ comma_kind) → take_kind size kind x g ≡ cond Fine (some After) none
      go (yes e) d = by_word_lem e
      go (no d) (yes e) = by_comma e
      go (no d) (no e) = by_other d e
