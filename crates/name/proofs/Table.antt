-- The table of classes has at each byte value the class of that byte.
-- Assumes nothing.
use Prim.Native.Nat.{ℕ, zero, suc, ◌+◌, ◌<◌}
use mathlib.Core.Path.{◌≡◌, sym, ◌∙◌, ap}
use mathlib.Core.List.{List}
use native.Mathlib.Omega.{arith}
use native.Mathlib.Nat.{add-zero, zero-add, add-suc, suc-add, le_of_suc-le-suc}
use lib.ListN.{get_or}
use Rattle.name.specs.Class.{class_of, classes_from, class_table}

entry : (byte n k : ℕ) → k < n → get_or (classes_from byte n) k 0 ≡ class_of (byte + k)
unfolding classes_from
entry byte zero k h = absurd (omega arith)
entry byte (suc n) zero h = ap class_of (sym (add-zero byte))
entry byte (suc n) (suc k) h = entry (suc byte) n k (le_of_suc-le-suc h) ∙ ap class_of (suc-add byte k ∙ sym (add-suc byte k))

pub table_entry : (byte : ℕ) → byte < 256 → get_or class_table byte 0 ≡ class_of byte
unfolding class_table
table_entry byte h = entry 0 256 byte h ∙ ap class_of (zero-add byte)

pub at_byte : (table : List ℕ) (byte : ℕ) → table ≡ class_table → byte < 256 → get_or table byte 0 ≡ class_of byte
at_byte table byte e h = rw e (table_entry byte h)
