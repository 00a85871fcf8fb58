-- The steps and returns of the functions for one token and of `all_known`, over plain values.
-- Assumes nothing.
use Prim.Native.Nat.{ℕ, zero, suc, ◌-◌, ◌≤◌, ◌<◌}
use mathlib.Core.Path.{◌≡◌, refl, sym, ◌∙◌, ap}
use mathlib.Core.Bool.{Bool, true, false, cond, ◌&&◌}
use mathlib.Core.List.{List, [], ◌∷◌}
use native.Mathlib.Omega.{arith}
use native.Mathlib.Nat.{le_of_suc-le-suc}
use lib.Dec.{eqb}
use lib.ListN.{length, get_or, set, take, drop, length-set}
use borrow.Author.Tests.{ne_eqb, eqb-true}
use Rattle.nameset.specs.Places.{places}
use Rattle.book.specs.declared.Layout.{Layout}
use Rattle.std.specs.Prelude.{Option, Some, None}
use Rattle.book.specs.Book.{names_in}
use Rattle.book.specs.Access.{LaidOut, number_in}
use Rattle.model.specs.Record.{no_factor}
use Rattle.declaration_scan.specs.declared.Piece.{Piece}
use Rattle.declaration_scan.specs.Piece.{piece_at}
use Rattle.declaration_scan.proofs.Pieces.{piece_onward}
use Rattle.declaration_spelling.specs.Kind.{word_kind}
use Rattle.declaration_spelling.specs.Read.{known, number_for}
use Rattle.declaration_spelling.proofs.Names.{number_is}
use Rattle.declaration_spelling.proofs.Books.{few}
use Rattle.declaration_walk.specs.Walk.{all_pass}
use Rattle.declaration_walk.specs.Gather.{known_tokens}
use Rattle.declaration_rows.specs.Place.{tokens_at, part_of, known_kind, number_at, free_at, free_kind, factor_after, mode_after}
use Rattle.declaration_rows.proofs.Places.{tokens_over, piece_order, known_next}

-- ---- names by the book

module _ (names : List (List ℕ)) (w : List ℕ) (o : Option ℕ) (is : o ≡ number_in names w) where
  pub known_found : (x : ℕ) → o ≡ Some x → true ≡ known names w
  unfolding known
  known_found x e = rw (← is, e)

  pub known_missing : o ≡ None → false ≡ known names w
  unfolding known
  known_missing e = rw (← is, e)

  pub number_found : (x : ℕ) → o ≡ Some x → x ≡ number_for names w
  unfolding number_for
  number_found x e = rw (← is, e)

-- ---- a piece by its kind

pub number_sign : (names : List (List ℕ)) (kind : ℕ) (w : List ℕ) → (kind ≡ word_kind → ⊥) → 0 ≡ number_at names kind w
unfolding number_at
number_sign names kind w d = rw (ne_eqb kind word_kind d)

-- a word, looked up in the book s
module _ (s : List ℕ) (l : Layout) (laid : LaidOut s l) (kind : ℕ) (e : kind ≡ word_kind) (text : List ℕ) (from to : ℕ) (part : List ℕ) (p : part ≡ take (to - from) (drop from text))
    (o : Option ℕ) (is : o ≡ number_in (names_in s) part) where
  pub number_word : (x : ℕ) → o ≡ Some x → (x ≡ number_at (names_in s) kind (part_of text from to)) × (x ≤ places)
  unfolding number_at part_of
  number_word x q =
      let k : true ≡ known (names_in s) part = known_found (names_in s) part o is x q in
      let v : x ≡ number_for (names_in s) part = number_found (names_in s) part o is x q in
      (rw (e, ← p, ← k) v, omega (arith, (number_is (names_in s) part (sym k)).0, v, few s l laid))

  pub number_none : o ≡ None → (places ≡ number_at (names_in s) kind (part_of text from to)) × (places ≤ places)
  unfolding number_at part_of
  number_none q = (rw (e, ← p, ← known_missing (names_in s) part o is q) refl, omega arith)

-- what the number tells of the piece
module _ (s : List ℕ) (l : Layout) (laid : LaidOut s l) (kind : ℕ) (w : List ℕ) (r : ℕ) (is : r ≡ number_at (names_in s) kind w) where
  pub unknown_kind : r ≡ places → false ≡ known_kind (names_in s) kind w
  unfolding number_at known_kind
  unknown_kind e = go (eqb kind word_kind) (known (names_in s) w) refl (sym e ∙ is)
    where
      go : (k b : Bool) → known (names_in s) w ≡ b → places ≡ cond k (cond b (number_for (names_in s) w) places) 0 → false ≡ cond k b true
      go true true q v = absurd (omega (arith, (number_is (names_in s) w q).0, v, few s l laid))
      go true false q v = refl
      go false b q v = absurd (omega arith)

  module _ (d : r ≡ places → ⊥) where
    pub known_kind_lem : true ≡ known_kind (names_in s) kind w
    unfolding number_at known_kind
    known_kind_lem = go (eqb kind word_kind) (known (names_in s) w) is
      where
        go : (k b : Bool) → r ≡ cond k (cond b (number_for (names_in s) w) places) 0 → true ≡ cond k b true
        go true true v = refl
        go true false v = absurd (d v)
        go false b v = refl

    pub number_same : kind ≡ word_kind → r ≡ number_for (names_in s) w
    unfolding number_at
    number_same e = go (known (names_in s) w) (is ∙ rw e refl)
      where
        go : (b : Bool) → r ≡ cond b (number_for (names_in s) w) places → r ≡ number_for (names_in s) w
        go true v = v
        go false v = absurd (d v)

-- a row's entry, whatever stands for an entry that is not there
entry_any : (l : List ℕ) (i d e : ℕ) → i < length l → get_or l i d ≡ get_or l i e
entry_any [] i d e h = absurd (omega arith)
entry_any (x ∷ l) zero d e h = refl
entry_any (x ∷ l) (suc i) d e h = entry_any l i d e (le_of_suc-le-suc h)

pub name_placed : (factor : List ℕ) (x index : ℕ) → x < length factor →
    (eqb (get_or factor x 0) no_factor ≡ free_at factor x) × (set factor x index ≡ set factor x index) × (length (set factor x index) ≡ length factor)
unfolding free_at
name_placed factor x index h = (ap (λ (v : ℕ). eqb v no_factor) (entry_any factor x 0 no_factor h), refl, length-set factor x index)

pub free_sign : (kind : ℕ) (factor : List ℕ) (x index : ℕ) → (kind ≡ word_kind → ⊥) → (true ≡ free_kind kind factor x) × (factor ≡ factor_after kind factor x index) × (length factor ≡ length factor)
unfolding free_kind factor_after
free_sign kind factor x index d = (rw (ne_eqb kind word_kind d), rw (ne_eqb kind word_kind d), refl)

pub free_word : (kind : ℕ) (factor : List ℕ) (x index : ℕ) (r : Bool) (after : List ℕ) → kind ≡ word_kind → (r ≡ free_at factor x) × (after ≡ set factor x index) × (length after ≡ length factor) →
    (r ≡ free_kind kind factor x) × (after ≡ factor_after kind factor x index) × (length after ≡ length factor)
unfolding free_kind factor_after
free_word kind factor x index r after e (a, b, c) = (a ∙ rw e refl, b ∙ rw e refl, c)

-- the number matters for a word alone
pub placed_same : (kind : ℕ) (factor : List ℕ) (x y index : ℕ) (r : Bool) (after : List ℕ) → (kind ≡ word_kind → x ≡ y) →
    (r ≡ free_kind kind factor x) × (after ≡ factor_after kind factor x index) × (length after ≡ length factor) →
    (r ≡ free_kind kind factor y) × (after ≡ factor_after kind factor y index) × (length after ≡ length factor)
unfolding free_kind factor_after
placed_same kind factor x y index r after same (a, b, c) = (a ∙ (go (eqb kind word_kind) refl).0, b ∙ (go (eqb kind word_kind) refl).1, c)
  where
    go : (k : Bool) → eqb kind word_kind ≡ k → (cond k (free_at factor x) true ≡ cond k (free_at factor y) true) × (cond k (set factor x index) factor ≡ cond k (set factor y index) factor)
    go true q = (ap (free_at factor) (same (eqb-true kind word_kind q)), ap (λ (z : ℕ). set factor z index) (same (eqb-true kind word_kind q)))
    go false q = (refl, refl)

pub mode_put : (m : ℕ) (mode : List ℕ) (index : ℕ) → (m ≡ 0 → ⊥) → (set mode index m ≡ mode_after m mode index) × (length (set mode index m) ≡ length mode)
unfolding mode_after
mode_put zero mode index d = absurd (d refl)
mode_put (suc m) mode index d = (refl, length-set mode index (suc m))

pub mode_kept : (m : ℕ) (mode : List ℕ) (index : ℕ) → m ≡ 0 → (mode ≡ mode_after m mode index) × (length mode ≡ length mode)
unfolding mode_after
mode_kept m mode index e = (rw e refl, refl)

-- ---- every word is known

-- where the piece p that was found from i on stands
module _ (s : List ℕ) (i : ℕ) (p : Piece) (is : p ≡ piece_at s i) where
  pub in_order : p.from ≤ p.to
  in_order = rw is (piece_order s i)

  pub onward_to : i < length s → i < p.to
  onward_to h = rw is (piece_onward s i h)

  known_at : (names : List (List ℕ)) → known_tokens names (tokens_at s i) ≡ (known_kind names p.kind (part_of s p.from p.to) && known_tokens names (tokens_at s p.to))
  known_at names = rw is (known_next names s i)

  pub known_stop : (names : List (List ℕ)) (r : Bool) → r ≡ known_kind names p.kind (part_of s p.from p.to) → r ≡ false → false ≡ known_tokens names (tokens_at s i)
  known_stop names r q e = sym (known_at names ∙ ap (λ (b : Bool). b && known_tokens names (tokens_at s p.to)) (sym q ∙ e))

  pub known_on : (names : List (List ℕ)) (r : Bool) → r ≡ known_kind names p.kind (part_of s p.from p.to) → r ≡ true → known_tokens names (tokens_at s i) ≡ known_tokens names (tokens_at s p.to)
  known_on names r q e = known_at names ∙ ap (λ (b : Bool). b && known_tokens names (tokens_at s p.to)) (sym q ∙ e)

pub known_over : (names : List (List ℕ)) (s : List ℕ) (i : ℕ) → length s ≤ i → true ≡ known_tokens names (tokens_at s i)
unfolding all_pass
known_over names s i h = rw (tokens_over s i h)
