-- The row of one parent, and the rows of all, put one behind the other.
-- Assumes nothing.
use Prim.Native.Nat.{ℕ, zero, suc, ◌+◌, ◌*◌, ◌≤◌, ◌<◌}
use mathlib.Core.Path.{◌≡◌, refl, sym, ◌∙◌, ap, ap₂}
use mathlib.Core.Bool.{Bool, true, false}
use mathlib.Core.List.{List, ◌++◌}
use native.Mathlib.Omega.{arith}
use native.Mathlib.Numerals.{add-one}
use lib.ListN.{length, length-append, length-replicate}
use Rattle.nameset.specs.Places.{places}
use Rattle.model.specs.declared.Model.{Model}
use Rattle.model.specs.Record.{IsModel}
use Rattle.follow_row.specs.Row.{OfWords}
use Rattle.follow_table.specs.Table.{row_of}
use Rattle.chain_mixed.specs.Mixed.{model_of}
use Rattle.chain_sample.specs.Sample.{show_word}
use Rattle.byte_buffer.specs.Put.{Put}
use Rattle.byte_buffer.proofs.Puts.{left_start, left_put, left_last, put_nothing, put_is}
use Rattle.model_table.specs.Table.{row_size, model_row, empty_row}
use Rattle.dtd_lines.specs.Lines.{row_facts, table_facts, TableOfWords}
use Rattle.dtd_lines.proofs.Line.{shown_model}
use Rattle.model_table_rows.specs.Rows.{rows_below, fact_row, table_row}

-- ---- how many bytes a row has

pub model_size : (n : ℕ) (m : Model) → IsModel places n m → length (model_row m) ≡ row_size
unfolding model_row
model_size n m h = omega (arith, length-append m.chain.factor m.chain.mode, h.chain.factors, h.chain.modes)

pub empty_size : length empty_row ≡ row_size
unfolding empty_row
empty_size = length-replicate {A = ℕ} row_size 0

-- ---- the row of one parent

module _ (n : ℕ) (row : List ℕ) where
  abbrev words : Bool
  words = show_word places (row_facts n row).follow

  abbrev model : Model
  model = model_of places (row_facts n row).follow (row_facts n row).text

  none_is : words ≡ false → fact_row (row_facts n row) ≡ empty_row
  unfolding fact_row
  none_is e = rw e

  some_is : words ≡ true → fact_row (row_facts n row) ≡ model_row model
  unfolding fact_row
  some_is e = rw e

  pub none_put : words ≡ false → (d : List ℕ) (at to : ℕ) (e : List ℕ) → Put d at empty_row to e → Put d at (fact_row (row_facts n row)) to e
  none_put none d at to e = put_is d at empty_row (fact_row (row_facts n row)) to e (sym (none_is none))

  pub some_put : words ≡ true → (m : Model) → m ≡ model → (d : List ℕ) (at to : ℕ) (e : List ℕ) → Put d at (model_row m) to e → Put d at (fact_row (row_facts n row)) to e
  some_put some m made d at to e = put_is d at (model_row m) (fact_row (row_facts n row)) to e (ap model_row made ∙ sym (some_is some))

  fact_size : n ≤ places → OfWords n row → length (fact_row (row_facts n row)) ≡ row_size
  fact_size few kept = go words refl
    where
      go : (b : Bool) → words ≡ b → length (fact_row (row_facts n row)) ≡ row_size
      go true e = ap length (some_is e) ∙ model_size n model (shown_model n few row kept e model refl)
      go false e = ap length (none_is e) ∙ empty_size

-- ---- the rows of all parents

module _ (row : ℕ → List ℕ) where
  pub rows_size : (k : ℕ) → ((p : ℕ) → p < k → length (row p) ≡ row_size) → length (rows_below row k) ≡ k * row_size
  unfolding rows_below
  rows_size zero each = refl
  rows_size (suc k) each =
      let front : length (rows_below row k) ≡ k * row_size = rows_size k (λ p h. each p (omega arith)) in
      simp length-append (omega (arith, each k (omega arith)))

  pub rows_none : (d : List ℕ) → Put d 0 (rows_below row 0) 0 d
  unfolding rows_below
  rows_none d = put_nothing d 0

  pub rows_more : (p : ℕ) (d e f : List ℕ) (to after : ℕ) → Put d 0 (rows_below row p) to e → Put e to (row p) after f → Put d 0 (rows_below row (p + 1)) after f
  unfolding rows_below
  rows_more p d e f to after before put =
      rw (add-one p)
      (left_last d 0 _ e to (row p) f after (left_put d 0 (rows_below row p ++ row p) d 0 (rows_below row p) (row p) e to (left_start d 0 _) before) put)

  pub rows_done : (p n : ℕ) (d e : List ℕ) (to : ℕ) → p ≤ n → n ≤ p → Put d 0 (rows_below row p) to e → Put d 0 (rows_below row n) to e
  rows_done p n d e to h k = put_is d 0 (rows_below row p) (rows_below row n) to e (let q : p ≡ n = omega arith in ap (rows_below row) q)

  -- two lists of rows that are equal row by row
  pub rows_same : (other : ℕ → List ℕ) (k : ℕ) → ((p : ℕ) → p < k → row p ≡ other p) → rows_below row k ≡ rows_below other k
  unfolding rows_below
  rows_same other zero each = refl
  rows_same other (suc k) each = ap₂ ◌++◌ (rows_same other k (λ p h. each p (omega arith))) (each k (omega arith))

-- the row of a parent whose facts were taken from the table
pub row_taken : (n : ℕ) (table : List ℕ) (p : ℕ) (facts : List ℕ) → facts ≡ row_of table p → fact_row (row_facts n facts) ≡ table_row n table p
unfolding table_row table_facts
row_taken n table p facts e = ap (λ (r : List ℕ). fact_row (row_facts n r)) e

module _ (n : ℕ) (table : List ℕ) (kept : TableOfWords n table) where
  row_size_lem : (p : ℕ) → p < n → length (table_row n table p) ≡ row_size
  unfolding table_row table_facts
  row_size_lem p below = fact_size n (row_of table p) kept.few (kept.rows p below)

  pub table_size_lem : length (rows_below (table_row n table) n) ≡ n * row_size
  table_size_lem = rows_size (table_row n table) n row_size_lem

  -- there is room for one more row
  pub next_room : (d e : List ℕ) (p to : ℕ) → p < n → Put d 0 (rows_below (table_row n table) p) to e → n * row_size ≤ length d → to + row_size ≤ length e
  next_room d e p to below put room =
      let size : length (rows_below (table_row n table) p) ≡ p * row_size = rows_size (table_row n table) p (λ q h. row_size_lem q (omega arith)) in
      omega (arith, put.place, put.same)
