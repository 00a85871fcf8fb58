-- Where a run goes, one factor at a time.
-- Assumes nothing.
use Prim.Native.Nat.{ℕ, zero, suc, ◌+◌, ◌-◌, ◌≤◌, ◌<◌}
use mathlib.Core.Path.{◌≡◌}
use mathlib.Core.Bool.{Bool, true, false}
use mathlib.Core.List.{List}
use native.Mathlib.Omega.{arith}
use lib.Dec.{eqb}
use lib.ListN.{get_or}
use Rattle.model.specs.declared.Turn.{Turn}
use Rattle.model.specs.declared.Turn.TheVariants.{Take, Leave, Refuse}
use Rattle.model.specs.Run.{either, turn_of, state, after, goes_from, goes_to}
use Rattle.nameset.proofs.Tests.{never}

-- ---- two turns are not equal

pub leave≢take : Leave ≡ Take → ⊥
leave≢take e = never (cc)

pub refuse≢take : Refuse ≡ Take → ⊥
refuse≢take e = never (cc)

pub take≢leave : Take ≡ Leave → ⊥
take≢leave e = never (cc)

pub refuse≢leave : Refuse ≡ Leave → ⊥
refuse≢leave e = never (cc)

-- ---- one turn

-- A factor takes names of its own only.
pub turn_take : (f : ℕ) (t : Bool) → turn_of f t false ≡ Take → ⊥
unfolding turn_of either
turn_take zero true e = leave≢take e
turn_take zero false e = refuse≢take e
turn_take (suc zero) true e = leave≢take e
turn_take (suc zero) false e = leave≢take e
turn_take (suc (suc zero)) true e = leave≢take e
turn_take (suc (suc zero)) false e = refuse≢take e
turn_take (suc (suc (suc zero))) t e = leave≢take e
turn_take (suc (suc (suc (suc f)))) t e = refuse≢take e

module _ (modes : List ℕ) (count i : ℕ) (t : Bool) (own : ℕ) (through : Bool) where
  -- The state stands in factor i < count, f is that factor's mode, and u its turn.
  pub goes_turn : {f : ℕ} {r u : Turn} → i < count → f ≡ get_or modes i 0 → r ≡ turn_of f t (eqb own i) → r ≡ u
      → goes_to count modes own through (state i t) ≡ after u true (goes_to count modes own through (state (i + 1) false))
  unfolding goes_to goes_from
  goes_turn l e g h = let n : count - i ≡ suc (count - (i + 1)) = omega arith in rw (n, ← e, ← g, h)

  -- The state stands behind the last factor.
  pub goes_past : count ≤ i → goes_to count modes own through (state i t) ≡ through
  unfolding goes_to goes_from
  goes_past l = let n : count - i ≡ 0 = omega arith in rw n
