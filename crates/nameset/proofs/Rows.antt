-- The laws of sets kept as rows: a row that was put is the set that was put, and every other row is kept.
-- Assumes nothing.
use Rattle.std.proofs.Common.{◌≡◌, ℕ, ◌<◌, ◌≤◌, List, length, get_or, replicate, ap, arith, length-set, get_or-set_other, get_or-set_same}
use native.Mathlib.Decide.{dec_lt}
use lib.ListN.{length-replicate, get_or-replicate, get_or-eq_default}
use Rattle.nameset.specs.declared.NameSet.{NameSet}
use Rattle.nameset.specs.Set.{empty}
use Rattle.nameset.specs.Rows.{IsRows, HasRow, row_at, put_row, no_rows}

abbrev kept : ℕ → NameSet
kept n = record { bits = n }

pub row_put : (rows : List ℕ) (a : ℕ) (s : NameSet) → HasRow rows a → row_at (put_row rows a s) a ≡ s
unfolding row_at put_row
row_put rows a s h = ap kept (get_or-set_same rows a s.bits 0 h)

pub row_kept : (rows : List ℕ) (a b : ℕ) (s : NameSet) → (b ≡ a → ⊥) → row_at (put_row rows a s) b ≡ row_at rows b
unfolding row_at put_row
row_kept rows a b s d = ap kept (get_or-set_other rows a b s.bits 0 d)

-- ---- how many rows there are

pub length_put : (rows : List ℕ) (a : ℕ) (s : NameSet) → length (put_row rows a s) ≡ length rows
unfolding put_row
length_put rows a s = length-set rows a s.bits

pub has_row : (n : ℕ) (rows : List ℕ) (a : ℕ) → IsRows n rows → a < n → HasRow rows a
has_row n rows a l h = omega arith

pub no_rows_lem : (n : ℕ) → IsRows n (no_rows n)
unfolding no_rows
no_rows_lem n = length-replicate {A = ℕ} n 0

-- ---- no row, and rows of nothing

pub row_past : (n : ℕ) (rows : List ℕ) (a : ℕ) → IsRows n rows → n ≤ a → row_at rows a ≡ empty
unfolding row_at
row_past n rows a l h = ap kept (get_or-eq_default rows 0 {n = a} (omega arith))

pub row_of_none : (n a : ℕ) → row_at (no_rows n) a ≡ empty
unfolding row_at no_rows
row_of_none n a = go (dec_lt a n)
  where
    go : Dec (a < n) → kept (get_or (replicate n 0) a 0) ≡ empty
    go (yes h) = ap kept (get_or-replicate n a 0 0 h)
    go (no h) = row_past n (replicate n 0) a (length-replicate {A = ℕ} n 0) (omega arith)
