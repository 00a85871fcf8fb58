-- The levels give one chain: two chains that stand as the levels say are equal.
-- Assumes nothing.
use Prim.Native.Nat.{ℕ, ◌<◌}
use mathlib.Core.Path.{◌≡◌, sym, ◌∙◌, ap}
use native.Mathlib.Omega.{arith}
use native.Mathlib.Decide.{dec_lt}
use Rattle.model.specs.declared.Chain.{Chain}
use Rattle.model.specs.Record.{factor_of, mode_of, IsChain}
use Rattle.follow.specs.Follow.{Follow}
use Rattle.chain_minimal.specs.Arranged.{Arranged}
use Rattle.chain_minimal.proofs.Order.{Holds, Keeps, named, equal_counts, equal_factors, equal_records}

arranged_holds : (f : Follow) (a b : Chain) → Arranged f a → Arranged f b → Holds a b
arranged_holds f a b p q x h = (q.held x).1 ((p.held x).0 h)

arranged_keeps : (f : Follow) (a b : Chain) → Arranged f a → Arranged f b → Keeps a b
arranged_keeps f a b p q x y hx hy l =
    let ox = (p.held x).0 hx in
    let oy = (p.held y).0 hy in
    (q.order x y ox oy).1 ((p.order x y ox oy).0 l)

module _ (f : Follow) (size n : ℕ) (a b : Chain) (ca : IsChain size n a) (cb : IsChain size n b) (p : Arranged f a) (q : Arranged f b) where
  counts : a.count ≡ b.count
  counts = equal_counts size n a b ca cb (arranged_holds f a b p q) (arranged_holds f b a q p) (arranged_keeps f a b p q) (arranged_keeps f b a q p)

  factors : (x : ℕ) → factor_of a x ≡ factor_of b x
  factors = equal_factors size n a b ca cb (arranged_holds f a b p q) (arranged_holds f b a q p) (arranged_keeps f a b p q) (arranged_keeps f b a q p)

  modes : (i : ℕ) → mode_of a i ≡ mode_of b i
  modes i = go (dec_lt i a.count)
    where
      held : ((x : ℕ) × (factor_of a x ≡ i)) → i < a.count → mode_of a i ≡ mode_of b i
      held (x, e) l =
          let o = (p.held x).0 (omega arith) in
          ap (mode_of a) (sym e) ∙ p.modes x o ∙ sym (q.modes x o) ∙ ap (mode_of b) (sym (factors x) ∙ e)

      go : Dec (i < a.count) → mode_of a i ≡ mode_of b i
      go (yes l) = held (named size n a ca i l) l
      go (no l) = ca.rest i (omega arith) ∙ sym (cb.rest i (omega (arith, counts)))

  pub arranged_same : a ≡ b
  arranged_same = equal_records size n a b ca cb counts factors modes
