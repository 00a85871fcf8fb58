-- For every step of a chain there is a way from the start to the end that goes over it, with one name of each factor
-- before and behind it.
-- Assumes nothing.
use Prim.Native.Nat.{ℕ, zero, suc, ◌+◌, ◌-◌, ◌≤◌, ◌<◌}
use mathlib.Core.Path.{◌≡◌, refl}
use mathlib.Core.List.{List, [], ◌∷◌}
use mathlib.Core.Logic.{◌⊎◌, inl, inr}
use native.Mathlib.Omega.{arith}
use lib.ListN.{length}
use Rattle.model.specs.declared.Chain.{Chain}
use Rattle.model.specs.Record.{factor_of}
use Rattle.model_language.specs.Word.{Point, start, name, end, Beside, Shows}
use Rattle.model_language.specs.Step.{place, Held, Over, Repeat, Step}
use Rattle.model_language.proofs.Walk.{Walk, next_to, enter, finish}

held_low : (m : Chain) (u : Point) → Held m u → place m u ≤ suc m.count
held_low m start k = omega arith
held_low m (name x) k = omega arith
held_low m end k = omega arith

-- No step falls, none leads to the start and none leaves the end.
pub step_rises : (m : Chain) (u v : Point) → Step m u v → (place m u ≤ place m v) × (0 < place m v) × (place m u ≤ m.count)
step_rises m u v s = go s.way
  where
    go : Over m u v ⊎ Repeat m u v → (place m u ≤ place m v) × (0 < place m v) × (place m u ≤ m.count)
    go (inl o) = omega (arith, held_low m v s.meets, o.rises)
    go (inr t) = omega arith

-- A step to the next factor.
pub step_up : (m : Chain) (u : Point) (x : ℕ) → Held m u → place m u ≡ factor_of m x → factor_of m x < m.count → Step m u (name x)
step_up m u x k e l = enter m u (place m u) x (next_to m u k) (omega arith) (omega arith)

module _ (m : Chain) (named : (i : ℕ) → i < m.count → (x : ℕ) × (factor_of m x ≡ i)) where
  -- A point at a place.
  pub point : (d : ℕ) → d ≤ m.count → (u : Point) × Held m u × (place m u ≡ d)
  point zero l = (start, tt, refl)
  point (suc d) l = let q = named d l in (name q.0, omega arith, omega arith)

  -- From u to the end, over one name of each factor behind it.
  pub onward : (d : ℕ) (u : Point) → Held m u → place m u + d ≡ m.count → (w : List ℕ) × Walk m u w × (length w ≡ d)
  onward zero u k e = ([], finish m u (place m u) (next_to m u k) (omega arith), refl)
  onward (suc d) u k e =
      let q = named (place m u) (omega arith) in
      let r = onward d (name q.0) (omega arith) (omega arith) in
      (q.0 ∷ r.0, (step_up m u q.0 k (omega arith) (omega arith), r.1), omega (arith, r.2))

  -- A way from u as one from the start, over one name of each factor before u.
  lead : (d : ℕ) (u : Point) → Held m u → place m u ≡ d → d ≤ m.count → (w : List ℕ) → Walk m u w → (a b : Point) → Beside u w a b
      → (z : List ℕ) × Walk m start z × (length z ≡ length w + d) × Shows z a b
  lead zero start k e l w p a b s = (w, p, omega arith, s)
  lead zero (name x) k e l w p a b s = absurd (omega arith)
  lead zero end k e l w p a b s = absurd (omega arith)
  lead (suc d) start k e l w p a b s = absurd (omega arith)
  lead (suc d) end k e l w p a b s = absurd (omega arith)
  lead (suc d) (name x) k e l w p a b s =
      let q = point d (omega arith) in
      let r = lead d q.0 q.1 q.2 (omega arith) (x ∷ w) (step_up m q.0 x q.1 (omega arith) k, p) a b (inr s) in
      (r.0, r.1, omega arith, r.3)

  pub step_walk : (u v : Point) → Step m u v → (w : List ℕ) × Walk m start w × (length w ≤ m.count + 1) × Shows w u v
  step_walk u v s = go v s (step_rises m u v s)
    where
      go : (v : Point) → Step m u v → (place m u ≤ place m v) × (0 < place m v) × (place m u ≤ m.count)
          → (w : List ℕ) × Walk m start w × (length w ≤ m.count + 1) × Shows w u v
      go start s (a, b, l) = absurd (omega arith)
      go (name y) s (a, b, l) =
          let t = onward (m.count - suc (factor_of m y)) (name y) s.meets (omega arith) in
          let r = lead (place m u) u s.leaves refl l (y ∷ t.0) (s, t.1) u (name y) (inl (refl, refl)) in
          (r.0, r.1, omega arith, r.3)
      go end s (a, b, l) =
          let r = lead (place m u) u s.leaves refl l [] s u end (refl, refl) in
          (r.0, r.1, omega arith, r.3)
