-- The row of a model, put part by part: its first three bytes, its factors, its modes.
-- Assumes nothing.
use Prim.Native.Nat.{ℕ, suc, ◌+◌}
use mathlib.Core.Path.{◌≡◌}
use mathlib.Core.List.{List, ◌++◌}
use native.Mathlib.Omega.{arith}
use lib.ListN.{set, length-set}
use Rattle.model.specs.declared.Chain.{Chain}
use Rattle.model.specs.declared.Model.{Model}
use Rattle.model.specs.Record.{model_with}
use Rattle.model.specs.Build.{of_rows}
use Rattle.byte_buffer.specs.Put.{wrote, Put}
use Rattle.byte_buffer.proofs.Puts.{Left, left_put, left_last}
use Rattle.model_table.specs.Table.{model_row}

module _ (d : List ℕ) (at count : ℕ) (factor mode : List ℕ) (text : ℕ) where
  abbrev row : List ℕ
  row = model_row (model_with (of_rows count factor mode) text)

  -- the table with the first three bytes
  abbrev begun : List ℕ
  begun = set (set (set d at 1) (at + 1) count) (at + 2) text

  rows_left : Left d at row begun (at + 3) (factor ++ mode)
  unfolding model_row wrote
  rows_left =
      let one : at + 1 ≡ suc at = omega arith in
      let two : at + 2 ≡ suc (suc at) = omega arith in
      let three : at + 3 ≡ suc (suc (suc at)) = omega arith in
      record { holds = rw (one, two, three); place = omega arith; same = simp length-set }

  row_put : (t : ℕ) (e : List ℕ) → Put begun (at + 3) factor t e → (u : ℕ) (f : List ℕ) → Put e t mode u f → Put d at row u f
  row_put t e put u f last = left_last d at row e t mode f u (left_put d at row begun (at + 3) factor mode e t rows_left put) last

-- The row of the model m, by its parts.
pub model_put : (d : List ℕ) (at : ℕ) (m : Model) {c : Chain} {count text : ℕ} {factor mode : List ℕ} → c ≡ m.chain → count ≡ c.count → text ≡ m.text →
    factor ≡ c.factor → mode ≡ c.mode → {t u : ℕ} {e f : List ℕ} → Put (begun d at count factor mode text) (at + 3) factor t e → Put e t mode u f → Put d at (model_row m) u f
model_put d at m {c} {count} {text} {factor} {mode} h p q r s put last =
    rw (p, q, r, s, h) at (row_put d at count factor mode text _ _ put _ _ last)
