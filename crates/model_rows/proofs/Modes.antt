-- The check of the modes by the largest of them.
-- Assumes nothing.
use Prim.Native.Nat.{ℕ, ◌+◌, ◌-◌, ◌≤◌, ◌<◌}
use mathlib.Core.Path.{◌≡◌}
use mathlib.Core.Bool.{Bool, true, ◌&&◌}
use mathlib.Core.List.{List}
use native.Mathlib.Omega.{arith}
use native.Mathlib.Decide.{dec_lt}
use borrow.Author.Tests.{leb-true, le-leb, eqb-true, eq-eqb}
use lib.Dec.{eqb, leb}
use lib.ListN.{length, get_or, drop, get_or-eq_default}
use Rattle.byte_row.specs.Largest.{largest}
use Rattle.byte_row.proofs.Laws.{most_law}
use Rattle.model.specs.Check.{all_known}
use Rattle.nameset.proofs.Tests.{both, and_left, and_right, same_test}
use Rattle.model.proofs.ChainLaw.{Mode, known_law}

module _ (count : ℕ) (modes : List ℕ) where
  -- The modes from a place on are at most k, as far as the row goes and past its end.
  most : (from k : ℕ) → ((i : ℕ) → from ≤ i → i < length modes → get_or modes i 0 ≤ k) → largest (drop from modes) ≤ k
  most from k h = (most_law modes from k).1 (λ i. at (from + i) (omega arith) (dec_lt (from + i) (length modes)))
    where
      at : (i : ℕ) → from ≤ i → Dec (i < length modes) → get_or modes i 0 ≤ k
      at i l (yes d) = h i l d
      at i l (no d) = let e : get_or modes i 0 ≡ 0 = get_or-eq_default modes 0 (omega arith) in omega arith

  each : (from k i : ℕ) → largest (drop from modes) ≤ k → from ≤ i → get_or modes i 0 ≤ k
  each from k i h l = let e : i ≡ from + (i - from) = omega arith in rw e ((most_law modes from k).0 h (i - from))

  -- The largest mode is judged, and the largest of those from `count` on.
  abbrev pub judged : Bool
  judged = leb (largest (drop 0 modes)) 3 && eqb (largest (drop count modes)) 0

  to : judged ≡ true → (i : ℕ) → Mode count i (get_or modes i 0)
  to e i =
      let a : largest (drop 0 modes) ≤ 3 = leb-true (largest (drop 0 modes)) 3 (and_left (leb (largest (drop 0 modes)) 3) (eqb (largest (drop count modes)) 0) e) in
      let b : largest (drop count modes) ≡ 0 = eqb-true (largest (drop count modes)) 0 (and_right (leb (largest (drop 0 modes)) 3) (eqb (largest (drop count modes)) 0) e) in
      record {
        known = λ p. each 0 3 i a (omega arith);
        rest = λ p. let z : get_or modes i 0 ≤ 0 = each count 0 i (omega arith) p in omega arith;
      }

  from : ((i : ℕ) → i < length modes → Mode count i (get_or modes i 0)) → judged ≡ true
  from h =
      let a : largest (drop 0 modes) ≤ 3 = most 0 3 (λ i z l. small i l (dec_lt i count)) in
      let b : largest (drop count modes) ≤ 0 = most count 0 (λ i p l. let e = (h i l).rest p in omega arith) in
      let c : largest (drop count modes) ≡ 0 = omega arith in
      both (leb (largest (drop 0 modes)) 3) (eqb (largest (drop count modes)) 0) (le-leb (largest (drop 0 modes)) 3 a) (eq-eqb (largest (drop count modes)) 0 c)
    where
      small : (i : ℕ) → i < length modes → Dec (i < count) → get_or modes i 0 ≤ 3
      small i l (yes d) = (h i l).known d
      small i l (no d) = let e : get_or modes i 0 ≡ 0 = (h i l).rest (omega arith) in omega arith

  pub known : all_known (length modes) count modes ≡ judged
  known =
      let k = known_law (length modes) count modes in
      same_test (all_known (length modes) count modes) judged (λ e. from (k.0 e)) (λ e. k.1 (λ i l. to e i))
