-- The rows of a record's factors, name by name.
-- Assumes nothing.
use Prim.Native.Nat.{ℕ, zero, suc, ◌+◌, ◌≤◌, ◌<◌}
use mathlib.Core.Path.{◌≡◌, refl, sym, ◌∙◌, ap}
use mathlib.Core.Bool.{◌&&◌, ◌||◌, or-false}
use mathlib.Core.List.{List, [], ◌∷◌}
use native.Mathlib.Omega.{arith}
use native.Mathlib.Nat.{le_of_suc-le-suc}
use native.Mathlib.Decide.{ℕ_discrete, dec_lt}
use borrow.Author.Tests.{lt-ltb, le-ltb, eq-eqb, ne_eqb}
use lib.Dec.{eqb, ltb}
use lib.ListN.{length, get_or}
use Rattle.nameset.specs.Places.{places}
use Rattle.nameset.specs.declared.NameSet.{NameSet}
use Rattle.nameset.specs.Set.{member}
use Rattle.nameset.specs.Rows.{row_at, put_row, no_rows}
use Rattle.nameset.proofs.Laws.{member_empty}
use Rattle.nameset.proofs.Rows.{row_put, row_kept, length_put, has_row, no_rows_lem, row_of_none}
use Rattle.model.specs.declared.Chain.{Chain}
use Rattle.model.specs.Record.{no_factor, factor_of}
use Rattle.model_factors.specs.Names.{NamesOf, RowsOf}

-- within the list the default does not matter
same_default : (l : List ℕ) (i a b : ℕ) → i < length l → get_or l i a ≡ get_or l i b
same_default [] i a b h = absurd (omega arith)
same_default (x ∷ l) zero a b h = refl
same_default (x ∷ l) (suc i) a b h = same_default l i a b (le_of_suc-le-suc h)

pub entry_is : (m : Chain) (x : ℕ) → length m.factor ≡ places → x < places → get_or m.factor x 0 ≡ factor_of m x
unfolding factor_of
entry_is m x l h = same_default m.factor x 0 no_factor (omega arith)

-- no name was looked at yet
pub rows_none : (m : Chain) → RowsOf m 0 (no_rows places)
rows_none m =
    record {
      size = no_rows_lem places;
      row = λ i h. record {
        law = λ x.
            ap (λ (s : NameSet). member s x) (row_of_none places i) ∙ member_empty x
            ∙ sym (rw (le-ltb x 0 (omega arith)));
      };
    }

-- whether a name is among the first k + 1, if it is not name k
below_next : (x k : ℕ) → (x ≡ k → ⊥) → ltb x (k + 1) ≡ ltb x k
below_next x k h = go (dec_lt x k)
  where
    go : Dec (x < k) → ltb x (k + 1) ≡ ltb x k
    go (yes l) = lt-ltb x (k + 1) (omega arith) ∙ sym (lt-ltb x k l)
    go (no l) = le-ltb x (k + 1) (omega arith) ∙ sym (le-ltb x k (omega arith))

-- a set that factor i's name k is put into, or is not
module _ (m : Chain) (k i : ℕ) (s t : NameSet) (old : NamesOf m k i s) where
  names_more : factor_of m k ≡ i → ((x : ℕ) → member t x ≡ (member s x || eqb k x)) → NamesOf m (k + 1) i t
  names_more e put = record { law = λ x. put x ∙ at x (ℕ_discrete x k) }
    where
      at : (x : ℕ) → Dec (x ≡ k) → (member s x || eqb k x) ≡ (ltb x (k + 1) && eqb (factor_of m x) i)
      at x (yes q) = rw (q, old.law k, le-ltb k k (omega arith), eq-eqb k k refl, lt-ltb k (k + 1) (omega arith), eq-eqb (factor_of m k) i e)
      at x (no q) = rw (ne_eqb k x (λ u. q (sym u)), below_next x k q) (or-false (member s x) ∙ old.law x)

  names_kept : (factor_of m k ≡ i → ⊥) → t ≡ s → NamesOf m (k + 1) i t
  names_kept d e = record { law = λ x. ap (λ (u : NameSet). member u x) e ∙ at x (ℕ_discrete x k) }
    where
      at : (x : ℕ) → Dec (x ≡ k) → member s x ≡ (ltb x (k + 1) && eqb (factor_of m x) i)
      at x (yes q) = rw (q, old.law k, le-ltb k k (omega arith), lt-ltb k (k + 1) (omega arith), ne_eqb (factor_of m k) i d)
      at x (no q) = rw (below_next x k q) (old.law x)

-- name k is put into the row of its factor f
pub rows_more : (m : Chain) (k : ℕ) (rows next : List ℕ) → RowsOf m k rows → (f : ℕ) (s t : NameSet) → f ≡ factor_of m k → f < places →
    s ≡ row_at rows f → ((x : ℕ) → member t x ≡ (member s x || eqb k x)) → next ≡ put_row rows f t → RowsOf m (k + 1) next
rows_more m k rows next r f s t ef hf es et e =
    rw e record { size = length_put rows f t ∙ r.size; row = λ i h. at i h (ℕ_discrete i f) }
  where
    at : (i : ℕ) → i < places → Dec (i ≡ f) → NamesOf m (k + 1) i (row_at (put_row rows f t) i)
    at i h (yes q) =
        rw (q, row_put rows f t (has_row places rows f r.size hf))
        (names_more m k f (row_at rows f) t (r.row f hf) (sym ef) (λ x. et x ∙ ap (λ (u : NameSet). member u x || eqb k x) es))
    at i h (no q) = names_kept m k i (row_at rows i) _ (r.row i h) (λ u. q (sym u ∙ sym ef)) (row_kept rows f i t q)

-- name k is in no factor that has a row
pub rows_kept : (m : Chain) (k : ℕ) (rows next : List ℕ) → RowsOf m k rows → (f : ℕ) → f ≡ factor_of m k → places ≤ f → next ≡ rows → RowsOf m (k + 1) next
rows_kept m k rows next r f ef hf e =
    rw e record { size = r.size; row = λ i h. names_kept m k i (row_at rows i) _ (r.row i h) (λ u. omega arith) refl }

-- all names were looked at
pub rows_all : (m : Chain) (n k : ℕ) (rows : List ℕ) → RowsOf m k rows → k ≤ n → n ≤ k → RowsOf m n rows
rows_all m n k rows r h l = let e : k ≡ n = omega arith in rw (sym e) r
