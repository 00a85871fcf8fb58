-- What a byte's class tells of the two rules.
-- Assumes nothing.
use Prim.Native.Nat.{ℕ}
use mathlib.Core.Path.{◌≡◌, refl}
use mathlib.Core.Bool.{Bool, true, false, cond, not, ◌||◌}
use lib.Dec.{eqb}
use Rattle.name.specs.Class.{start_byte, later_byte, class_of}

-- the class where a is the rule for a first byte, and a or b that for a later one
abbrev kind : Bool → Bool → ℕ
kind a b = cond a 2 (cond (a || b) 1 0)

-- which class tells it
start_kind : (a b : Bool) → eqb (kind a b) 2 ≡ a
start_kind true b = refl
start_kind false true = refl
start_kind false false = refl

later_kind : (a b : Bool) → not (eqb (kind a b) 0) ≡ (a || b)
later_kind true b = refl
later_kind false true = refl
later_kind false false = refl

pub start_class : (byte : ℕ) → eqb (class_of byte) 2 ≡ start_byte byte
unfolding class_of later_byte
start_class byte = start_kind (start_byte byte) _

pub later_class : (byte : ℕ) → not (eqb (class_of byte) 0) ≡ later_byte byte
unfolding class_of later_byte
later_class byte = later_kind (start_byte byte) _
