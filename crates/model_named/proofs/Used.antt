-- Whether all numbers below F are in a set, by the first that is not.
-- Assumes nothing.
use Prim.Native.Nat.{ℕ, ◌≤◌, ◌<◌}
use mathlib.Core.Path.{◌≡◌, refl, sym, ◌∙◌}
use mathlib.Core.Bool.{Bool, true, false, ◌&&◌, not, false≢true}
use native.Mathlib.Omega.{arith}
use native.Mathlib.Decide.{dec_le}
use borrow.Author.Tests.{not-false, lt-ltb, leb-true, le-leb}
use lib.Dec.{ltb, leb}
use Rattle.nameset.specs.declared.NameSet.{NameSet}
use Rattle.nameset.specs.Places.{places}
use Rattle.nameset.specs.Set.{member, is_empty}
use Rattle.nameset.specs.Promise.{Smallest}
use Rattle.nameset.proofs.Laws.{first_none}
use Rattle.nameset.specs.Tests.{every_below}
use Rattle.nameset.proofs.Tests.{same_test, all_law}

-- `rest` has the numbers that are not in `used`, and r is its first.
module _ (count : ℕ) (used full rest : NameSet) (r : ℕ) (l : count ≤ places) (a : (j : ℕ) → member full j ≡ ltb j places)
    (m : (j : ℕ) → member rest j ≡ (member full j && not (member used j))) (s : Smallest rest r) where
  -- A place is left where it is not used.
  left : (j : ℕ) → j < places → member rest j ≡ not (member used j)
  left j h = rw (m j, a j, lt-ltb j places h)

  within : count ≤ r → (j : ℕ) → j < count → member used j ≡ true
  within h j k = not-false (member used j) (sym (left j (omega arith)) ∙ s.least j (omega arith))

  none : r < count → (b : Bool) → is_empty rest ≡ b → member rest r ≡ true
  none h true e = absurd (omega (arith, s.same, first_none rest e))
  none h false e = (s.found e).1

  beyond : ((j : ℕ) → j < count → member used j ≡ true) → Dec (count ≤ r) → count ≤ r
  beyond f (yes h) = h
  beyond f (no h) =
      let k : r < count = omega arith in
      absurd (false≢true (rw (f r k) at (sym (left r (omega arith)) ∙ none k (is_empty rest) refl)))

  pub used_law : leb count r ≡ every_below count (member used)
  used_law =
      same_test (leb count r) (every_below count (member used)) (λ e. (all_law count (member used)).1 (within (leb-true count r e)))
      (λ e. le-leb count r (beyond ((all_law count (member used)).0 e) (dec_le count r)))
