-- The lines of all parents: put one after the other, and how long they can be.
-- Assumes nothing.
use Prim.Native.Nat.{ℕ, zero, suc, ◌+◌, ◌-◌, ◌*◌, ◌≤◌, ◌<◌}
use mathlib.Core.Path.{◌≡◌, sym, ◌∙◌, ap}
use mathlib.Core.Bool.{false}
use mathlib.Core.List.{List, [], ◌++◌}
use native.Mathlib.Omega.{arith}
use lib.Dec.{ltb}
use lib.ListN.{length, length-append}
use borrow.Author.Tests.{le-ltb}
use Rattle.book.specs.declared.Layout.{Layout}
use Rattle.book.specs.Book.{names_in}
use Rattle.book.specs.Access.{LaidOut}
use Rattle.follow_table.specs.Table.{row_of}
use Rattle.byte_buffer.specs.Put.{Put}
use Rattle.byte_buffer.proofs.Puts.{Left, left_start, left_is, left_put, left_room, left_done}
use Rattle.dtd_lines.specs.Lines.{ParentFacts, fact_line, fact_lines, row_facts, table_facts, TableOfWords, longest_line}
use Rattle.dtd_lines.proofs.Line.{line_short}

module _ (names : List (List ℕ)) (facts : ℕ → ParentFacts) (n : ℕ) where
  -- the line of parent p, and the lines of the k parents from p on
  abbrev pub line : ℕ → List ℕ
  line p = fact_line names p (facts p)

  abbrev pub lines : ℕ → ℕ → List ℕ
  lines p k = fact_lines names facts p k

  lines_step : (p : ℕ) → p < n → lines p (n - p) ≡ line p ++ lines (p + 1) (n - (p + 1))
  unfolding fact_lines
  lines_step p h =
      let a : n - p ≡ suc (n - (p + 1)) = omega arith in
      let q : p + 1 ≡ suc p = omega arith in
      ap (lines p) a ∙ ap (λ (k : ℕ). line p ++ lines k (n - (p + 1))) (sym q)

  none_left : (p : ℕ) → n ≤ p → lines p (n - p) ≡ []
  unfolding fact_lines
  none_left p h = let a : n - p ≡ 0 = omega arith in ap (lines p) a

  -- lines that are each short
  pub lines_bound : ((p : ℕ) → p < n → length (line p) ≤ longest_line) → (k p : ℕ) → p + k ≤ n → length (lines p k) ≤ k * longest_line
  unfolding fact_lines
  lines_bound short zero p h = omega arith
  lines_bound short (suc k) p h =
      let a : length (line p) ≤ longest_line = short p (omega arith) in
      let b : length (lines (suc p) k) ≤ k * longest_line = lines_bound short k (suc p) (omega arith) in
      let e : length (line p ++ lines (suc p) k) ≡ length (line p) + length (lines (suc p) k) = length-append (line p) (lines (suc p) k) in
      omega arith

  -- ---- counted line after line

  pub record Counted (size p : ℕ) : Type 0 where
    pub within : p ≤ n
    pub sum : length (lines 0 n) ≡ size + length (lines p (n - p))

  pub count_none : Counted 0 0
  count_none =
      let e : n - 0 ≡ n = omega arith in
      record { within = omega arith; sum = rw e (let q : length (lines 0 n) ≡ 0 + length (lines 0 n) = omega arith in q) }

  module _ (size p : ℕ) (c : Counted size p) where
    pub count_done : n ≤ p → size ≡ length (lines 0 n)
    count_done h = sym (c.sum ∙ ap (λ (ls : List ℕ). size + length ls) (none_left p h) ∙ (let e : size + 0 ≡ size = omega arith in e))

    pub count_more : p < n → (k : ℕ) → k ≡ length (line p) → Counted (size + k) (p + 1)
    count_more below k e =
        let f : length (lines p (n - p)) ≡ length (line p) + length (lines (p + 1) (n - (p + 1))) =
        ap length (lines_step p below) ∙ length-append (line p) (lines (p + 1) (n - (p + 1))) in
        record { within = omega arith; sum = omega (arith, c.sum) }

    pub count_small : p < n → (k : ℕ) → k ≡ length (line p) → size + k ≤ length (lines 0 n)
    count_small below k e = omega (arith, (count_more below k e).sum)

  -- ---- put one after the other

  pub lines_start : (d : List ℕ) → Left d 0 (lines 0 n) d 0 (lines 0 (n - 0))
  lines_start d = let e : n - 0 ≡ n = omega arith in rw e (left_start d 0 (lines 0 n))

  module _ (p : ℕ) (below : p < n) (d₀ whole d : List ℕ) (to : ℕ) (left : Left d₀ 0 whole d to (lines p (n - p))) where
    due : Left d₀ 0 whole d to (line p ++ lines (p + 1) (n - (p + 1)))
    due = left_is d₀ 0 whole d to _ _ (lines_step p below) left

    pub line_room : length whole ≤ length d₀ → to + length (line p) ≤ length d
    line_room h = left_room d₀ 0 whole d to (line p) (lines (p + 1) (n - (p + 1))) due (omega arith)

    pub lines_more : (t : ℕ) (e : List ℕ) → Put d to (line p) t e → Left d₀ 0 whole e t (lines (p + 1) (n - (p + 1)))
    lines_more t e q = left_put d₀ 0 whole d to (line p) (lines (p + 1) (n - (p + 1))) e t due q

  pub lines_done : (p : ℕ) → n ≤ p → (d₀ whole d : List ℕ) (to : ℕ) → Left d₀ 0 whole d to (lines p (n - p)) → Put d₀ 0 whole to d
  lines_done p h d₀ whole d to left = left_done d₀ 0 whole d to (left_is d₀ 0 whole d to _ [] (none_left p h) left)

-- ---- the lines of a table

-- the line of a row that was taken from the table
pub row_line : (names : List (List ℕ)) (n : ℕ) (table : List ℕ) (p : ℕ) (row : List ℕ) → row ≡ row_of table p → fact_line names p (row_facts n row) ≡ fact_line names p (table_facts n table p)
unfolding table_facts
row_line names n table p row e = ap (λ (r : List ℕ). fact_line names p (row_facts n r)) e

module _ (s : List ℕ) (l : Layout) (laid : LaidOut s l) (table : List ℕ) (kept : TableOfWords l.names table) where
  abbrev pub table_lines : ℕ → ℕ → List ℕ
  table_lines p k = fact_lines (names_in s) (table_facts l.names table) p k

  pub all_short : length (table_lines 0 l.names) ≤ l.names * longest_line
  unfolding table_facts
  all_short = lines_bound (names_in s) (table_facts l.names table) l.names (λ p below. line_short s l laid p below _ (kept.rows p below)) l.names 0 (omega arith)

  pub fit_all : (room : ℕ) → l.names * longest_line ≤ room → false ≡ ltb room (length (table_lines 0 l.names))
  fit_all room h = sym (le-ltb room (length (table_lines 0 l.names)) (omega (arith, all_short)))
