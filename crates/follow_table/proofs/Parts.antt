-- A table as rows: what is put at one row leaves the others alone.
-- Assumes nothing.
use Prim.Native.Nat.{ℕ, ◌+◌, ◌-◌, ◌*◌, ◌≤◌, ◌<◌}
use mathlib.Core.Path.{◌≡◌, sym, ◌∙◌, ap, subst}
use mathlib.Core.List.{List, ◌++◌}
use native.Mathlib.Omega.{arith}
use native.Mathlib.Decide.{dec_lt}
use lib.ListN.{length, take, drop, replicate, length-drop, length-append, length-replicate, take-append-drop, replicate-append-replicate}
use lib.Seq.{length-take-le, take_at, drop_at, take-append-le, drop-append-le, drop-append-add}
use Rattle.follow_row.specs.Row.{row_size, RowAdded}
use Rattle.follow_table.specs.Table.{tabled, table_size, row_of, Added}

-- the part of the table that the code takes is the row
pub part_is : (t : List ℕ) (p : ℕ) → take (p * row_size + row_size - p * row_size) (drop (p * row_size) t) ≡ row_of t p
unfolding row_of
part_is t p = let e : p * row_size + row_size - p * row_size ≡ row_size = omega arith in rw e

pub length_row : (t : List ℕ) (p : ℕ) → length t ≡ table_size → p < tabled → length (row_of t p) ≡ row_size
unfolding row_of
length_row t p l h =
    let e : length (drop (p * row_size) t) ≡ length t - p * row_size = length-drop (p * row_size) t in
    length-take-le row_size (drop (p * row_size) t) (omega arith)

-- ---- a table cut before a row and behind it

module _ (a b : List ℕ) (q : ℕ) (before : length a ≡ q * row_size) where
  pub row_own : (r : List ℕ) → length r ≡ row_size → row_of (a ++ (r ++ b)) q ≡ r
  unfolding row_of
  row_own r l = ap (take row_size) (drop_at a (r ++ b) (q * row_size) before) ∙ take_at r b row_size l

  row_before : (y : List ℕ) (p : ℕ) → p < q → row_of (a ++ y) p ≡ take row_size (drop (p * row_size) a)
  unfolding row_of
  row_before y p h =
      let e : length (drop (p * row_size) a) ≡ length a - p * row_size = length-drop (p * row_size) a in
      ap (take row_size) (drop-append-le (p * row_size) a y (omega arith)) ∙ take-append-le row_size (drop (p * row_size) a) y (omega arith)

  row_behind : (r : List ℕ) (p : ℕ) → length r ≡ row_size → q < p → row_of (a ++ (r ++ b)) p ≡ take row_size (drop (p * row_size - q * row_size - row_size) b)
  unfolding row_of
  row_behind r p l h =
      let far : ℕ = p * row_size - q * row_size - row_size in
      let e : p * row_size ≡ length a + (length r + far) = omega arith in
      ap (λ (n : ℕ). take row_size (drop n (a ++ (r ++ b)))) e
      ∙ ap (take row_size) (drop-append-add a (r ++ b) (length r + far) ∙ drop-append-add r b far)

  row_other : (r r₁ : List ℕ) (p : ℕ) → length r ≡ row_size → length r₁ ≡ row_size → (p ≡ q → ⊥) → row_of (a ++ (r ++ b)) p ≡ row_of (a ++ (r₁ ++ b)) p
  row_other r r₁ p l l₁ d = go (dec_lt p q)
    where
      go : Dec (p < q) → row_of (a ++ (r ++ b)) p ≡ row_of (a ++ (r₁ ++ b)) p
      go (yes h) = row_before (r ++ b) p h ∙ sym (row_before (r₁ ++ b) p h)
      go (no h) =
          let k : q < p = omega (arith, d, h) in
          row_behind r p l k ∙ sym (row_behind r₁ p l₁ k)

-- ---- a row put in place of another

-- the table with r as its row q
pub with_row : List ℕ → ℕ → List ℕ → List ℕ
with_row t q r = take (q * row_size) t ++ (r ++ drop row_size (drop (q * row_size) t))

module _ (t : List ℕ) (q : ℕ) (size : length t ≡ table_size) (below : q < tabled) where
  before : length (take (q * row_size) t) ≡ q * row_size
  before = length-take-le (q * row_size) t (omega arith)

  as_rows : t ≡ with_row t q (row_of t q)
  unfolding with_row row_of
  as_rows =
      sym
      (ap (λ (y : List ℕ). take (q * row_size) t ++ y) (take-append-drop row_size (drop (q * row_size) t))
      ∙ take-append-drop (q * row_size) t)

  module _ (r : List ℕ) (l : length r ≡ row_size) where
    pub put_own : row_of (with_row t q r) q ≡ r
    unfolding with_row
    put_own = row_own (take (q * row_size) t) (drop row_size (drop (q * row_size) t)) q before r l

    pub put_others : (p : ℕ) → (p ≡ q → ⊥) → row_of (with_row t q r) p ≡ row_of t p
    unfolding with_row
    put_others p d =
        row_other (take (q * row_size) t) (drop row_size (drop (q * row_size) t)) q before r (row_of t q) p l (length_row t q size below) d
        ∙ ap (λ (u : List ℕ). row_of u p) (sym as_rows)

    pub put_size : length (with_row t q r) ≡ table_size
    unfolding with_row
    put_size =
        let b : List ℕ = drop row_size (drop (q * row_size) t) in
        let e : length (take (q * row_size) t ++ (r ++ b)) ≡ length (take (q * row_size) t) + length (r ++ b) = length-append (take (q * row_size) t) (r ++ b) in
        let f : length (r ++ b) ≡ length r + length b = length-append r b in
        let g : length b ≡ length (drop (q * row_size) t) - row_size = length-drop row_size (drop (q * row_size) t) in
        let h : length (drop (q * row_size) t) ≡ length t - q * row_size = length-drop (q * row_size) t in
        omega (arith, before)

-- a row to which a block was added, put back: the table with the block added
pub block_put : (t w r : List ℕ) (q m : ℕ) → length t ≡ table_size → q < tabled →
    RowAdded (take (q * row_size + row_size - q * row_size) (drop (q * row_size) t)) m w r →
    Added t q m w (take (q * row_size) t ++ (r ++ drop (q * row_size + row_size - q * row_size) (drop (q * row_size) t)))
unfolding with_row
block_put t w r q m size below part =
    let k : q * row_size + row_size - q * row_size ≡ row_size = omega arith in
    let added : RowAdded (row_of t q) m w r = subst (λ (u : List ℕ). RowAdded u m w r) (part_is t q) part in
    let put : Added t q m w (with_row t q r) =
    record {
      size = put_size t q size below r added.size;
      own = rw (put_own t q size below r added.size) added;
      others = λ p b d. put_others t q size below r added.size p d;
    } in
    rw k put

-- ---- a table of zeros

pub row_zeros : (n p : ℕ) → p * row_size + row_size ≤ n → row_of (replicate n 0) p ≡ replicate row_size 0
unfolding row_of
row_zeros n p h =
    let e : n ≡ p * row_size + (row_size + (n - p * row_size - row_size)) = omega arith in
    let rest : ℕ = n - p * row_size - row_size in
    ap (λ (k : ℕ). row_of (replicate k 0) p) e
    ∙ ap (λ (u : List ℕ). row_of u p) (sym (ap (λ (u : List ℕ). replicate (p * row_size) 0 ++ u) (replicate-append-replicate {A = ℕ} row_size rest 0) ∙ replicate-append-replicate {A = ℕ} (p * row_size) (row_size + rest) 0))
    ∙ row_own (replicate (p * row_size) 0) (replicate rest 0) p (length-replicate {A = ℕ} (p * row_size) 0) (replicate row_size 0) (length-replicate {A = ℕ} row_size 0)
