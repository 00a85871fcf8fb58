-- A tight chain is the only chain between the sample's steps and its own.
-- Assumes nothing.
use Prim.Native.Nat.{ℕ, zero, suc, ◌≤◌, ◌<◌}
use mathlib.Core.Path.{◌≡◌, refl, sym, ◌∙◌, ap, ap₂}
use mathlib.Core.Bool.{Bool, true, false, cond}
use mathlib.Core.Logic.{◌⊎◌, inl, inr, ⊎_elim}
use native.Mathlib.Omega.{arith}
use native.Mathlib.Decide.{dec_lt}
use Rattle.model.specs.declared.Chain.{Chain}
use Rattle.model.specs.Record.{factor_of, mode_of, IsChain}
use Rattle.nameset.proofs.Tests.{same_test}
use Rattle.model_language.specs.Word.{Point, start, name, end}
use Rattle.model_language.specs.Reach.{one}
use Rattle.model_language.specs.Step.{optional, repeats, place, Held, Over, Repeat, Step, Includes, Ahead}
use Rattle.model_language.proofs.Walk.{stay}
use Rattle.model_language.proofs.Shown.{point}
use Rattle.model_language.proofs.Reach.{reach_wider, reach_ahead}
use Rattle.model_language.proofs.Theorem.{reach_law, step_to}
use Rattle.chain_levels.proofs.Tests.{refuted}
use Rattle.chain_minimal.specs.Tight.{Tight}
use Rattle.chain_minimal.proofs.Order.{named, equal_counts, equal_factors, equal_records}

-- ---- chains alone

-- Two names, each ahead of the other, share a factor that repeats.
ahead_both : (m : Chain) (x y : ℕ) → Ahead m x y → Ahead m y x → (factor_of m x ≡ factor_of m y) × (repeats (mode_of m (factor_of m x)) ≡ true)
ahead_both m x y (inl a) (inl b) = absurd (omega arith)
ahead_both m x y (inl a) (inr b) = absurd (omega arith)
ahead_both m x y (inr a) b = a

-- A step over factor i makes it optional.
crosses : (m : Chain) (u v : Point) (i : ℕ) → Step m u v → place m u < suc i → suc i < place m v → optional (mode_of m i) ≡ true
crosses m u v i s h k = go s.way
  where
    go : Over m u v ⊎ Repeat m u v → optional (mode_of m i) ≡ true
    go (inl o) = o.free i (omega arith) k
    go (inr t) = absurd (omega arith)

module _ (size n : ℕ) (m : Chain) (c : IsChain size n m) where
  -- An optional factor is stepped over.
  stepped : (i : ℕ) → i < m.count → optional (mode_of m i) ≡ true → (u : Point) × (v : Point) × Step m u v × (place m u ≡ i) × (place m v ≡ suc (suc i))
  stepped i h e = go (point m (named size n m c) i (omega arith)) (behind (dec_lt (suc i) m.count))
    where
      behind : Dec (suc i < m.count) → (v : Point) × Held m v × (place m v ≡ suc (suc i))
      behind (yes l) = point m (named size n m c) (suc (suc i)) (omega arith)
      behind (no l) = (end, tt, omega arith)

      go : ((u : Point) × Held m u × (place m u ≡ i)) → ((v : Point) × Held m v × (place m v ≡ suc (suc i))) →
          (u : Point) × (v : Point) × Step m u v × (place m u ≡ i) × (place m v ≡ suc (suc i))
      go (u, a, p) (v, b, q) =
          (u, v, record { leaves = a; meets = b; way = inl record { rises = omega arith; free = λ k l r. let d : k ≡ i = omega arith in rw d e } }, p, q)

  mode_low : (i : ℕ) → mode_of m i ≤ 3
  mode_low i = go (dec_lt i m.count)
    where
      go : Dec (i < m.count) → mode_of m i ≤ 3
      go (yes l) = c.known i l
      go (no l) = omega (arith, c.rest i (omega arith))

-- A mode is known by whether it is optional and whether it repeats:
pub mode_of_lem : (k : ℕ) → k ≤ 3 → cond (repeats k) (cond (optional k) 3 2) (cond (optional k) 1 0) ≡ k
unfolding optional repeats
mode_of_lem zero h = refl
mode_of_lem (suc zero) h = refl
mode_of_lem (suc (suc zero)) h = refl
mode_of_lem (suc (suc (suc zero))) h = refl
mode_of_lem (suc (suc (suc (suc k)))) h = absurd (omega arith)

-- two modes that agree in both are equal.
pub mode_same : (j k : ℕ) → j ≤ 3 → k ≤ 3 → optional j ≡ optional k → repeats j ≡ repeats k → j ≡ k
mode_same j k p q o r = sym (mode_of_lem j p) ∙ ap₂ (λ (a b : Bool). cond a (cond b 3 2) (cond b 1 0)) r o ∙ mode_of_lem k q

-- ---- the theorem

module _ (size n : ℕ) (S : Point → Point → Type 0) (d r : Chain) (cd : IsChain size n d) (cr : IsChain size n r) (t : Tight S d)
    (lower : (u v : Point) → S u v → Step r u v) (upper : Includes r d) where
  -- 1. The same names are held.
  r_in_d : (x : ℕ) → factor_of r x < r.count → factor_of d x < d.count
  r_in_d x h = let s = step_to size n r cr x h in (upper s.0 (name x) s.1).meets

  d_in_r : (x : ℕ) → factor_of d x < d.count → factor_of r x < r.count
  d_in_r x h = let s = t.occurs x h in (lower s.0 (name x) s.1).meets

  -- 2. The same factors repeat.
  loop_d_r : (x y : ℕ) → factor_of d x < d.count → factor_of d x ≡ factor_of d y → repeats (mode_of d (factor_of d x)) ≡ true →
      (factor_of r x ≡ factor_of r y) × (repeats (mode_of r (factor_of r x)) ≡ true)
  loop_d_r x y h e l =
      ahead_both r x y
      (reach_ahead r (reach_wider lower (t.loops x y h e l)))
      (reach_ahead r (reach_wider lower (t.loops y x (omega arith) (sym e) (ap (λ (i : ℕ). repeats (mode_of d i)) (sym e) ∙ l))))

  loop_r_d : (x y : ℕ) → factor_of r x < r.count → factor_of r x ≡ factor_of r y → repeats (mode_of r (factor_of r x)) ≡ true →
      (factor_of d x ≡ factor_of d y) × (repeats (mode_of d (factor_of d x)) ≡ true)
  loop_r_d x y h e l =
      ahead_both d x y
      (reach_ahead d (one (upper (name x) (name y) (stay r (factor_of r x) x y h refl (sym e) l))))
      (reach_ahead d (one (upper (name y) (name x) (stay r (factor_of r x) y x h (sym e) refl l))))

  -- 3. The order of r is that of d.
  order_r_d : (x y : ℕ) → factor_of r x < r.count → factor_of r y < r.count → factor_of r x < factor_of r y → factor_of d x < factor_of d y
  order_r_d x y hx hy l = go (reach_ahead d (reach_wider upper ((reach_law size n r cr x y hy).1 (inl l))))
    where
      go : Ahead d x y → factor_of d x < factor_of d y
      go (inl a) = a
      go (inr a) = absurd (omega (arith, (loop_d_r x y (r_in_d x hx) a.0 a.1).0))

  -- 4. The weak order of d is that of r.
  weak_d_r : (x y : ℕ) → factor_of r x < r.count → factor_of r y < r.count → factor_of d x ≤ factor_of d y → factor_of r x ≤ factor_of r y
  weak_d_r x y hx hy l = go (dec_lt (factor_of r y) (factor_of r x))
    where
      go : Dec (factor_of r y < factor_of r x) → factor_of r x ≤ factor_of r y
      go (yes m) = absurd (omega (arith, order_r_d y x hy hx m))
      go (no m) = omega arith

  equal_d_r : (x y : ℕ) → factor_of r x < r.count → factor_of r y < r.count → factor_of d x ≡ factor_of d y → factor_of r x ≡ factor_of r y
  equal_d_r x y hx hy e = omega (arith, weak_d_r x y hx hy (omega arith), weak_d_r y x hy hx (omega arith))

  -- 5. Neighbouring factors of d do not meet in a factor of r that does not repeat,
  apart_next : (x z : ℕ) → factor_of r x < r.count → factor_of r z < r.count → factor_of d z ≡ suc (factor_of d x) → factor_of r x ≡ factor_of r z →
      (repeats (mode_of r (factor_of r x)) ≡ true → ⊥) → ⊥
  apart_next x z hx hz pz ez single =
      let dz : factor_of d z < d.count = r_in_d z hz in
      let lx : repeats (mode_of d (factor_of d x)) ≡ false =
      refuted (repeats (mode_of d (factor_of d x))) (λ q. single (loop_d_r x x (r_in_d x hx) refl q).1) in
      let lz : repeats (mode_of d (suc (factor_of d x))) ≡ false =
      refuted (repeats (mode_of d (suc (factor_of d x))))
      (λ q. single (ap (λ (i : ℕ). repeats (mode_of r i)) ez ∙ (loop_d_r z z dz refl (ap (λ (i : ℕ). repeats (mode_of d i)) pz ∙ q)).1)) in
      meet (t.neighbours (factor_of d x) (omega arith) lx lz)
    where
      meet : ((a : ℕ) × (b : ℕ) × (factor_of d a ≡ factor_of d x) × (factor_of d b ≡ suc (factor_of d x)) × S (name a) (name b)) → ⊥
      meet (a, b, pa, pb, g) =
          let s : Step r (name a) (name b) = lower (name a) (name b) g in
          let ea : factor_of r a ≡ factor_of r x = equal_d_r a x s.leaves hx pa in
          let eb : factor_of r b ≡ factor_of r z = equal_d_r b z s.meets hz (omega arith) in
          ⊎_elim (λ k. absurd (omega arith)) (λ k. single (ap (λ (i : ℕ). repeats (mode_of r i)) (sym ea) ∙ k.1)) (reach_ahead r (one s))

  -- nor do any two factors.
  apart : (x y : ℕ) → factor_of r x < r.count → factor_of r y < r.count → factor_of d x < factor_of d y → factor_of r x ≡ factor_of r y → ⊥
  apart x y hx hy l e = go (named size n d cd (suc (factor_of d x)) (omega (arith, r_in_d y hy)))
    where
      go : ((z : ℕ) × (factor_of d z ≡ suc (factor_of d x))) → ⊥
      go (z, pz) =
          let dy : factor_of d y < d.count = r_in_d y hy in
          let hz : factor_of r z < r.count = d_in_r z (omega arith) in
          let ez : factor_of r x ≡ factor_of r z = omega (arith, weak_d_r x z hx hz (omega arith), weak_d_r z y hz hy (omega arith)) in
          apart_next x z hx hz pz ez (λ q. omega (arith, (loop_r_d x y hx e q).0))

  order_d_r : (x y : ℕ) → factor_of r x < r.count → factor_of r y < r.count → factor_of d x < factor_of d y → factor_of r x < factor_of r y
  order_d_r x y hx hy l = go (dec_lt (factor_of r x) (factor_of r y))
    where
      go : Dec (factor_of r x < factor_of r y) → factor_of r x < factor_of r y
      go (yes m) = m
      go (no m) = absurd (apart x y hx hy l (omega (arith, weak_d_r x y hx hy (omega arith))))

  -- 6. The same places, the same number of factors, the same loops.
  back : (x y : ℕ) → factor_of d x < d.count → factor_of d y < d.count → factor_of d x < factor_of d y → factor_of r x < factor_of r y
  back x y hx hy = order_d_r x y (d_in_r x hx) (d_in_r y hy)

  same_count : r.count ≡ d.count
  same_count = equal_counts size n r d cr cd r_in_d d_in_r order_r_d back

  same_factor : (x : ℕ) → factor_of r x ≡ factor_of d x
  same_factor = equal_factors size n r d cr cd r_in_d d_in_r order_r_d back

  same_loop : (i : ℕ) → i < d.count → repeats (mode_of r i) ≡ repeats (mode_of d i)
  same_loop i h =
      let z = named size n d cd i h in
      let x = z.0 in
      let e : factor_of d x ≡ i = z.1 in
      let f : factor_of r x ≡ i = same_factor x ∙ e in
      let k : factor_of d x < d.count = omega arith in
      same_test (repeats (mode_of r i)) (repeats (mode_of d i))
      (λ q. ap (λ (j : ℕ). repeats (mode_of d j)) (sym e) ∙ (loop_r_d x x (d_in_r x k) refl (ap (λ (j : ℕ). repeats (mode_of r j)) f ∙ q)).1)
      (λ q. ap (λ (j : ℕ). repeats (mode_of r j)) (sym f) ∙ (loop_d_r x x k refl (ap (λ (j : ℕ). repeats (mode_of d j)) e ∙ q)).1)

  -- 7. The same optional factors.
  same_place : (u : Point) → place r u ≡ place d u
  same_place start = refl
  same_place (name x) = ap suc (same_factor x)
  same_place end = ap suc same_count

  same_optional : (i : ℕ) → i < d.count → optional (mode_of r i) ≡ optional (mode_of d i)
  same_optional i h =
      same_test (optional (mode_of r i)) (optional (mode_of d i))
      (λ q.
      let s = stepped size n r cr i (omega (arith, same_count)) q in
      crosses d s.0 s.1 i (upper s.0 s.1 s.2) (omega (arith, same_place s.0, s.3)) (omega (arith, same_place s.1, s.4)))
      (λ q.
      let s = t.skips i h q in
      crosses r s.0 s.1 i (lower s.0 s.1 s.2) (omega (arith, same_place s.0, s.3)) (omega (arith, same_place s.1, s.4)))

  same_mode : (i : ℕ) → mode_of r i ≡ mode_of d i
  same_mode i = go (dec_lt i d.count)
    where
      go : Dec (i < d.count) → mode_of r i ≡ mode_of d i
      go (yes l) = mode_same (mode_of r i) (mode_of d i) (mode_low size n r cr i) (mode_low size n d cd i) (same_optional i l) (same_loop i l)
      go (no l) = cr.rest i (omega (arith, same_count)) ∙ sym (cd.rest i (omega arith))

  -- The records are equal.
  pub same_record : r ≡ d
  same_record = equal_records size n r d cr cd same_count same_factor same_mode
