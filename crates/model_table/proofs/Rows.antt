-- The row of a name, and what it tells of the name.
-- Assumes nothing.
use Prim.Native.Nat.{ℕ, ◌+◌, ◌*◌, ◌-◌, ◌≤◌, ◌<◌}
use mathlib.Core.Path.{◌≡◌, refl, sym, ◌∙◌, ap}
use mathlib.Core.Bool.{Bool, true, false, false≢true}
use mathlib.Core.List.{List, []}
use native.Mathlib.Omega.{arith}
use borrow.Author.Tests.{le-leb, lt-leb, leb-true}
use lib.Dec.{leb}
use lib.ListN.{length, get_or, take, drop, length-take, length-drop}
use Rattle.std.proofs.Common.{Some, None}
use Rattle.nameset.specs.Places.{places}
use Rattle.model.specs.declared.Chain.{Chain}
use Rattle.model.specs.declared.Model.{Model}
use Rattle.model.specs.Record.{model_with}
use Rattle.model.specs.Build.{of_rows}
use Rattle.model_table.specs.Table.{factors_at, modes_at, row_size, row_of, is_absent, model_in, entry_in, entry_of}

-- ---- where a row is

pub row_there : (table : List ℕ) (x : ℕ) {from to : ℕ} → from ≡ x * row_size → to ≡ x * row_size + row_size → to ≤ length table →
    take (to - from) (drop from table) ≡ row_of table x
unfolding row_of
row_there table x {from} {to} p q l =
    let e : to - from ≡ row_size = omega arith in
    rw (le-leb (x * row_size + row_size) (length table) (omega arith), e, p)

pub row_short : (table : List ℕ) (x : ℕ) {to : ℕ} → to ≡ x * row_size + row_size → length table < to → [] ≡ row_of table x
unfolding row_of
row_short table x {to} q l = rw (lt-leb (x * row_size + row_size) (length table) (omega arith))

-- a row with a model is whole
whole : (table : List ℕ) (x : ℕ) → is_absent (row_of table x) ≡ false → length (row_of table x) ≡ row_size
unfolding row_of is_absent
whole table x = go (leb (x * row_size + row_size) (length table)) refl
  where
    long : leb (x * row_size + row_size) (length table) ≡ true → length (take row_size (drop (x * row_size) table)) ≡ row_size
    long p =
        let l : x * row_size + row_size ≤ length table = leb-true (x * row_size + row_size) (length table) p in
        simp (length-take, length-drop) (omega arith)

    go : (b : Bool) → leb (x * row_size + row_size) (length table) ≡ b → is_absent (row_of table x) ≡ false → length (row_of table x) ≡ row_size
    go true p e = rw p (long p)
    go false p e = absurd (false≢true (sym (rw p at e)))

-- ---- what a row tells of its name

module _ (table : List ℕ) (x : ℕ) {row : List ℕ} (r : row ≡ row_of table x) {b : Bool} (a : b ≡ is_absent row) where
  absent_known : is_absent (row_of table x) ≡ b
  absent_known = ap is_absent (sym r) ∙ sym a

  pub full : b ≡ false → length row ≡ row_size
  full e = rw r (whole table x (absent_known ∙ e))

  pub entry_lacks : b ≡ true → entry_of table x ≡ None
  unfolding entry_of entry_in
  entry_lacks e = rw (absent_known, e)

  pub entry_has : b ≡ false → entry_of table x ≡ Some (model_in row)
  unfolding entry_of entry_in
  entry_has e = rw (absent_known, e, r)

  -- The model, made of the parts of its row.
  pub entry_made : b ≡ false → {count text : ℕ} {factors modes : List ℕ} {c : Chain} {m : Model} → count ≡ get_or row 1 0 →
      factors ≡ take places (drop factors_at row) → modes ≡ drop modes_at row → c ≡ of_rows count factors modes → text ≡ get_or row 2 0 →
      m ≡ model_with c text → Some m ≡ entry_of table x
  unfolding model_in
  entry_made e p q r s t u = rw (entry_has e, u, s, p, q, r, t)
