-- Reach by rounds is reach.
-- Assumes nothing.
use Prim.Native.Nat.{ℕ, zero, suc, ◌<◌}
use mathlib.Core.Path.{◌≡◌, subst}
use mathlib.Core.Bool.{true, ◌&&◌}
use mathlib.Core.Logic.{◌⊎◌, inl, inr, ⊎_elim, ◌↔◌}
use native.Mathlib.Omega.{arith}
use native.Mathlib.Decide.{dec_lt}
use lib.Dec.{ltb}
use Rattle.model_language.specs.Word.{Point, name}
use Rattle.model_language.specs.Reach.{Reach, one, more}
use Rattle.follow.specs.Follow.{Follow, steps}
use Rattle.chain_levels.specs.Reach.{edge, reach_by, reaches, same_group, loops}
use Rattle.chain_levels.proofs.Tests.{and_is, or_is, ltb_is}

pub reach_join : {S : Point → Point → Type 0} {x y z : ℕ} → Reach S x y → Reach S y z → Reach S x z
reach_join (one g) q = more g q
reach_join (more g r) q = more g (reach_join r q)

module _ (f : Follow) where
  by_is : (k a b : ℕ) → (reach_by f (suc k) a b ≡ true) ↔ ((reach_by f k a b ≡ true) ⊎ ((reach_by f k a k ≡ true) × (reach_by f k k b ≡ true)))
  unfolding reach_by
  by_is k a b = (
    λ e. ⊎_elim inl (λ q. inr ((and_is (reach_by f k a k) (reach_by f k k b)).0 q)) ((or_is (reach_by f k a b) (reach_by f k a k && reach_by f k k b)).0 e),
    λ p. (or_is (reach_by f k a b) (reach_by f k a k && reach_by f k k b)).1 (⊎_elim inl (λ q. inr ((and_is (reach_by f k a k) (reach_by f k k b)).1 q)) p),
  )

  grows : (k a b : ℕ) → edge f a b ≡ true → reach_by f k a b ≡ true
  unfolding reach_by
  grows zero a b e = e
  grows (suc k) a b e = (by_is k a b).1 (inl (grows k a b e))

  to_middle : (k a : ℕ) → reach_by f (suc k) a k ≡ true → reach_by f k a k ≡ true
  to_middle k a e = ⊎_elim (λ p. p) (λ q. q.0) ((by_is k a k).0 e)

  from_middle : (k b : ℕ) → reach_by f (suc k) k b ≡ true → reach_by f k k b ≡ true
  from_middle k b e = ⊎_elim (λ p. p) (λ q. q.1) ((by_is k k b).0 e)

  -- Each name below k may stand in the middle.
  abbrev Through : ℕ → Type 0
  Through k = (c a b : ℕ) → c < k → reach_by f k a c ≡ true → reach_by f k c b ≡ true → reach_by f k a b ≡ true

  through_below : (k : ℕ) → Through k → (c a b : ℕ) → c < k → reach_by f (suc k) a c ≡ true → reach_by f (suc k) c b ≡ true → reach_by f (suc k) a b ≡ true
  through_below k ih c a b l p q = go ((by_is k a c).0 p) ((by_is k c b).0 q)
    where
      go : (reach_by f k a c ≡ true) ⊎ ((reach_by f k a k ≡ true) × (reach_by f k k c ≡ true)) →
          (reach_by f k c b ≡ true) ⊎ ((reach_by f k c k ≡ true) × (reach_by f k k b ≡ true)) → reach_by f (suc k) a b ≡ true
      go (inl x) (inl y) = (by_is k a b).1 (inl (ih c a b l x y))
      go (inl x) (inr y) = (by_is k a b).1 (inr (ih c a k l x y.0, y.1))
      go (inr x) (inl y) = (by_is k a b).1 (inr (x.0, ih c k b l x.1 y))
      go (inr x) (inr y) = (by_is k a b).1 (inr (x.0, y.1))

  through : (k : ℕ) → Through k
  through zero c a b h p q = absurd (omega arith)
  through (suc k) c a b h p q = go (dec_lt c k) (through k)
    where
      go : Dec (c < k) → Through k → reach_by f (suc k) a b ≡ true
      go (yes l) ih = through_below k ih c a b l p q
      go (no l) ih =
          let e : c ≡ k = omega arith in
          (by_is k a b).1
          (inr (
            to_middle k a (subst (λ (x : ℕ). reach_by f (suc k) a x ≡ true) e p),
            from_middle k b (subst (λ (x : ℕ). reach_by f (suc k) x b ≡ true) e q),
          ))

  pub edge_is : (a b : ℕ) → (edge f a b ≡ true) ↔ steps f (name a) (name b)
  unfolding edge
  edge_is a b = (
    λ e.
        let p = (and_is (ltb a f.names) (ltb b f.names && f.follows a b)).0 e in
        let q = (and_is (ltb b f.names) (f.follows a b)).0 p.1 in
        ((ltb_is a f.names).0 p.0, (ltb_is b f.names).0 q.0, q.1),
    λ g.
        (and_is (ltb a f.names) (ltb b f.names && f.follows a b)).1
        ((ltb_is a f.names).1 g.0, (and_is (ltb b f.names) (f.follows a b)).1 ((ltb_is b f.names).1 g.1, g.2)),
  )

  sound : (k a b : ℕ) → reach_by f k a b ≡ true → Reach (steps f) a b
  unfolding reach_by
  sound zero a b e = one ((edge_is a b).0 e)
  sound (suc k) a b e =
      ⊎_elim (λ p. sound k a b p) (λ q. reach_join (sound k a k q.0) (sound k k b q.1)) ((by_is k a b).0 e)

  complete : {a b : ℕ} → Reach (steps f) a b → reach_by f f.names a b ≡ true
  complete (one {x = a} {y = b} g) = grows f.names a b ((edge_is a b).1 g)
  complete (more {x = a} {y = b} {z = c} g p) =
      through f.names b a c g.1 (grows f.names a b ((edge_is a b).1 g)) (complete p)

  -- The test says exactly when one name reaches another.
  pub reaches_is : (a b : ℕ) → (reaches f a b ≡ true) ↔ Reach (steps f) a b
  unfolding reaches
  reaches_is a b = (sound f.names a b, λ p. complete p)

  pub reaches_trans : (a b c : ℕ) → reaches f a b ≡ true → reaches f b c ≡ true → reaches f a c ≡ true
  reaches_trans a b c p q = (reaches_is a c).1 (reach_join ((reaches_is a b).0 p) ((reaches_is b c).0 q))

  -- The first step of reach, and the last.
  first_step : {a b : ℕ} → Reach (steps f) a b → (c : ℕ) × steps f (name a) (name c)
  first_step (one {y = b} g) = (b, g)
  first_step (more {y = b} g r) = (b, g)

  last_step : {a b : ℕ} → Reach (steps f) a b → (c : ℕ) × steps f (name c) (name b)
  last_step (one {x = a} g) = (a, g)
  last_step (more g r) = last_step r

  pub reaches_first : (a b : ℕ) → reaches f a b ≡ true → (c : ℕ) × steps f (name a) (name c)
  reaches_first a b e = first_step ((reaches_is a b).0 e)

  pub reaches_last : (a b : ℕ) → reaches f a b ≡ true → (c : ℕ) × steps f (name c) (name b)
  reaches_last a b e = last_step ((reaches_is a b).0 e)

  -- Only names below n reach a name or are reached.
  pub reaches_below : (a b : ℕ) → reaches f a b ≡ true → a < f.names
  reaches_below a b e = (reaches_first a b e).1.0

  pub reached_below : (a b : ℕ) → reaches f a b ≡ true → b < f.names
  reached_below a b e = (reaches_last a b e).1.1

  pub group_is : (a b : ℕ) → (same_group f a b ≡ true) ↔ ((reaches f a b ≡ true) × (reaches f b a ≡ true))
  unfolding same_group
  group_is a b = and_is (reaches f a b) (reaches f b a)

  pub group_reach : (a b : ℕ) → (same_group f a b ≡ true) ↔ (Reach (steps f) a b × Reach (steps f) b a)
  group_reach a b = (
    λ e. let p = (group_is a b).0 e in ((reaches_is a b).0 p.0, (reaches_is b a).0 p.1),
    λ r. (group_is a b).1 ((reaches_is a b).1 r.0, (reaches_is b a).1 r.1),
  )

  pub group_sym : (a b : ℕ) → same_group f a b ≡ true → same_group f b a ≡ true
  group_sym a b e = let p = (group_is a b).0 e in (group_is b a).1 (p.1, p.0)

  pub group_trans : (a b c : ℕ) → same_group f a b ≡ true → same_group f b c ≡ true → same_group f a c ≡ true
  group_trans a b c e d =
      let p = (group_is a b).0 e in
      let q = (group_is b c).0 d in
      (group_is a c).1 (reaches_trans a b c p.0 q.0, reaches_trans c b a q.1 p.1)

  pub loops_is : (a : ℕ) → (loops f a ≡ true) ↔ (reaches f a a ≡ true)
  unfolding loops
  loops_is a = (λ e. e, λ e. e)

  -- A name is in a loop group exactly when it is in one with itself, and then if it is in one with another.
  pub loops_group : (a : ℕ) → loops f a ≡ true → same_group f a a ≡ true
  loops_group a e = let r = (loops_is a).0 e in (group_is a a).1 (r, r)

  pub group_loops : (a b : ℕ) → same_group f a b ≡ true → loops f a ≡ true
  group_loops a b e = (loops_is a).1 ((group_is a a).0 (group_trans a b a e (group_sym a b e))).0

  pub group_below : (a b : ℕ) → same_group f a b ≡ true → a < f.names
  group_below a b e = reaches_below a b ((group_is a b).0 e).0
