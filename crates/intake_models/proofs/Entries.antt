-- What a table of models tells of a name after rows were put into it.
-- Assumes nothing.
use Prim.Native.Nat.{ℕ, zero, suc, ◌+◌, ◌*◌, ◌≤◌, ◌<◌}
use mathlib.Core.Path.{◌≡◌, refl, sym, ◌∙◌, ap}
use mathlib.Core.Bool.{cond}
use mathlib.Core.List.{List, [], ◌∷◌, ◌++◌, append_assoc}
use mathlib.Core.Logic.{◌⊎◌, inl, inr, ⊎_elim}
use native.Mathlib.Omega.{arith}
use native.Mathlib.Decide.{dec_lt}
use borrow.Author.Tests.{le-leb}
use lib.Dec.{leb}
use lib.ListN.{length, get_or, set, take, drop, length-append, length-take, length-drop}
use lib.Seq.{sets, sets-eq, length-sets, get_or-set_other, get_or-take, get_or-drop, ext_get_or, length-take-le, take_at, drop_at}
use Rattle.nameset.specs.Places.{places}
use Rattle.model.specs.declared.Model.{Model}
use Rattle.model.specs.Record.{IsModel}
use Rattle.byte_buffer.specs.Put.{wrote}
use Rattle.std.proofs.Common.{Some, None}
use Rattle.model_table.specs.Table.{row_size, row_of, is_absent, model_in, entry_in, entry_of, model_row, empty_row}
use Rattle.model_table_rows.specs.Rows.{rows_below}
use Rattle.model_table_rows.proofs.Rows.{rows_size}

-- ---- from rows to entries

pub same_entry : (t u : List ℕ) (x : ℕ) → row_of t x ≡ row_of u x → entry_of t x ≡ entry_of u x
unfolding entry_of
same_entry t u x e = ap (λ (row : List ℕ). entry_in (is_absent row) row) e

pub model_entry : (t : List ℕ) (x n : ℕ) (m : Model) → IsModel places n m → row_of t x ≡ model_row m → entry_of t x ≡ Some m
unfolding entry_of entry_in is_absent model_in model_row
model_entry t x n m h e =
    ap (λ (row : List ℕ). entry_in (is_absent row) row) e
    ∙ rw (take_at m.chain.factor m.chain.mode places h.chain.factors, drop_at m.chain.factor m.chain.mode places h.chain.factors)

pub empty_entry : (t : List ℕ) (x : ℕ) → row_of t x ≡ empty_row → entry_of t x ≡ None
unfolding entry_of entry_in is_absent empty_row
empty_entry t x e = ap (λ (row : List ℕ). entry_in (is_absent row) row) e

-- ---- one row put in

sets_other : (vs l : List ℕ) (i k : ℕ) → (k < i) ⊎ (i + length vs ≤ k) → get_or (sets l i vs) k 0 ≡ get_or l k 0
sets_other [] l i k h = refl
sets_other (v ∷ vs) l i k h =
    sets_other vs (set l i v) (suc i) k (⊎_elim (λ b. inl (omega arith)) (λ b. inr (omega arith)) h)
    ∙ get_or-set_other l i k v 0 (⊎_elim (λ b e. omega arith) (λ b e. omega arith) h)

module _ (d : List ℕ) (p : ℕ) (row : List ℕ) (size : length row ≡ row_size) where
  abbrev put : List ℕ
  put = wrote d (p * row_size) row

  pub same_size : length put ≡ length d
  unfolding wrote
  same_size = length-sets d (p * row_size) row

  -- all other bytes are kept
  pub byte_kept : (k : ℕ) → (k < p * row_size) ⊎ (p * row_size + row_size ≤ k) → get_or put k 0 ≡ get_or d k 0
  unfolding wrote
  byte_kept k h = sets_other row d (p * row_size) k (⊎_elim (λ b. inl b) (λ b. inr (omega arith)) h)

  -- so the rows of all other names are
  pub row_kept : (x : ℕ) → ¬ (x ≡ p) → row_of put x ≡ row_of d x
  unfolding row_of
  row_kept x other = rw same_size (ap (λ (r : List ℕ). cond (leb (x * row_size + row_size) (length d)) r []) bytes)
    where
      place : (i : ℕ) → i < row_size → (x * row_size + i < p * row_size) ⊎ (p * row_size + row_size ≤ x * row_size + i)
      place i h = go (dec_lt x p)
        where
          go : Dec (x < p) → (x * row_size + i < p * row_size) ⊎ (p * row_size + row_size ≤ x * row_size + i)
          go (yes l) = inl (omega arith)
          go (no l) = inr (let k : p < x = omega arith in omega arith)

      byte : (t : List ℕ) (i : ℕ) → i < row_size → get_or (take row_size (drop (x * row_size) t)) i 0 ≡ get_or t (x * row_size + i) 0
      byte t i h = rw (get_or-take, get_or-drop)

      one : (i : ℕ) → i < row_size → get_or (take row_size (drop (x * row_size) put)) i 0 ≡ get_or (take row_size (drop (x * row_size) d)) i 0
      one i h = byte put i h ∙ byte_kept (x * row_size + i) (place i h) ∙ sym (byte d i h)

      bytes : take row_size (drop (x * row_size) put) ≡ take row_size (drop (x * row_size) d)
      bytes =
          ext_get_or 0 (take row_size (drop (x * row_size) put)) (take row_size (drop (x * row_size) d)) (simp (length-take, length-drop, same_size))
          (λ i h. one i (omega (arith, length-take row_size (drop (x * row_size) put))))

  -- and its own row is there
  pub row_put : p * row_size + row_size ≤ length d → row_of put p ≡ row
  unfolding row_of wrote
  row_put room =
      let at : length (take (p * row_size) d) ≡ p * row_size = length-take-le (p * row_size) d (omega arith) in
      rw (same_size, le-leb (p * row_size + row_size) (length d) room, sets-eq row d (p * row_size) (omega arith), append_assoc)
      (ap (take row_size) (drop_at (take (p * row_size) d) _ (p * row_size) at) ∙ take_at row _ row_size size)

-- ---- rows one behind the other

module _ (row : ℕ → List ℕ) where
  cut : (k x : ℕ) → x < k → ((p : ℕ) → p < k → length (row p) ≡ row_size) → (behind : List ℕ) → take row_size (drop (x * row_size) (rows_below row k ++ behind)) ≡ row x
  unfolding rows_below
  cut zero x h each behind = absurd (omega arith)
  cut (suc k) x h each behind = rw append_assoc (go (cut k x) (dec_lt x k))
    where
      front : length (rows_below row k) ≡ k * row_size
      front = rows_size row k (λ p l. each p (omega arith))

      go : (x < k → ((p : ℕ) → p < k → length (row p) ≡ row_size) → (more : List ℕ) → take row_size (drop (x * row_size) (rows_below row k ++ more)) ≡ row x) → Dec (x < k) →
          take row_size (drop (x * row_size) (rows_below row k ++ (row k ++ behind))) ≡ row x
      go ih (yes l) = ih l (λ p b. each p (omega arith)) (row k ++ behind)
      go ih (no l) =
          let e : x ≡ k = omega arith in
          rw e (ap (take row_size) (drop_at (rows_below row k) (row k ++ behind) (k * row_size) front) ∙ take_at (row k) behind row_size (each k (omega arith)))

  -- the row of the name x, of those at the front of a table
  pub row_among : (k x : ℕ) → x < k → ((p : ℕ) → p < k → length (row p) ≡ row_size) → (behind : List ℕ) → row_of (rows_below row k ++ behind) x ≡ row x
  unfolding row_of
  row_among k x h each behind =
      let size : length (rows_below row k ++ behind) ≡ k * row_size + length behind = length-append (rows_below row k) behind ∙ ap (λ (s : ℕ). s + length behind) (rows_size row k each) in
      rw (le-leb (x * row_size + row_size) (length (rows_below row k ++ behind)) (omega arith)) (cut k x h each behind)
