-- More steps reach no fewer names; which names a name reaches by steps of a chain.
-- Assumes nothing.
use Prim.Native.Nat.{ℕ, zero, suc, ◌+◌, ◌-◌, ◌<◌}
use mathlib.Core.Path.{◌≡◌, refl, sym}
use mathlib.Core.Logic.{◌⊎◌, inl, inr}
use native.Mathlib.Omega.{arith}
use Rattle.model.specs.declared.Chain.{Chain}
use Rattle.model.specs.Record.{factor_of}
use Rattle.model_language.specs.Word.{Point, name}
use Rattle.model_language.specs.Reach.{Reach, one, more}
use Rattle.model_language.specs.Step.{Over, Repeat, Step, Ahead}
use Rattle.model_language.proofs.Walk.{stay}
use Rattle.model_language.proofs.Shown.{step_up}

pub reach_wider : {S T : Point → Point → Type 0} → ((u v : Point) → S u v → T u v) → {x y : ℕ} → Reach S x y → Reach T x y
reach_wider h (one g) = one (h _ _ g)
reach_wider h (more g r) = more (h _ _ g) (reach_wider h r)

step_ahead : (m : Chain) (x y : ℕ) → Step m (name x) (name y) → Ahead m x y
step_ahead m x y s = go s.way
  where
    go : Over m (name x) (name y) ⊎ Repeat m (name x) (name y) → Ahead m x y
    go (inl o) = inl (omega (arith, o.rises))
    go (inr t) = let e : factor_of m x ≡ t.factor = omega arith in inr (omega arith, rw e t.loop)

ahead_trans : (m : Chain) (x y z : ℕ) → Ahead m x y → Ahead m y z → Ahead m x z
ahead_trans m x y z (inl a) (inl b) = inl (omega arith)
ahead_trans m x y z (inl a) (inr b) = inl (omega arith)
ahead_trans m x y z (inr a) (inl b) = inl (omega arith)
ahead_trans m x y z (inr a) (inr b) = inr (omega arith, a.1)

pub reach_ahead : (m : Chain) {x y : ℕ} → Reach (Step m) x y → Ahead m x y
reach_ahead m (one s) = step_ahead m _ _ s
reach_ahead m (more s r) = ahead_trans m _ _ _ (step_ahead m _ _ s) (reach_ahead m r)

module _ (m : Chain) (named : (i : ℕ) → i < m.count → (x : ℕ) × (factor_of m x ≡ i)) where
  climb : (d x y : ℕ) → factor_of m y < m.count → suc (factor_of m x) + d ≡ factor_of m y → Reach (Step m) x y
  climb zero x y l e = one (step_up m (name x) y (omega arith) (omega arith) l)
  climb (suc d) x y l e =
      let q = named (suc (factor_of m x)) (omega arith) in
      more (step_up m (name x) q.0 (omega arith) (omega arith) (omega arith)) (climb d q.0 y l (omega arith))

  pub ahead_reach : (x y : ℕ) → factor_of m y < m.count → Ahead m x y → Reach (Step m) x y
  ahead_reach x y l (inl h) = climb (factor_of m y - suc (factor_of m x)) x y l (omega arith)
  ahead_reach x y l (inr h) = one (stay m (factor_of m x) x y (omega arith) refl (sym h.0) h.1)
