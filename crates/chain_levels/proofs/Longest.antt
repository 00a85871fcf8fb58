-- The executable level is the largest number of steps.
-- Assumes nothing.
use Prim.Native.Nat.{ℕ, zero, suc, ◌-◌, ◌≤◌, ◌<◌}
use mathlib.Core.Path.{◌≡◌, refl, sym, ◌∙◌, ap, subst}
use mathlib.Core.Logic.{◌⊎◌, inl, inr, ◌↔◌}
use native.Mathlib.Omega.{arith}
use native.Mathlib.Decide.{ℕ_discrete}
use Rattle.model_language.specs.Word.{Point, start, name, end}
use Rattle.follow.specs.Follow.{Follow, steps}
use Rattle.chain_levels.specs.Level.{Occurs, OneGroup, Climb, begin, go, move, IsLevel, Skipped}
use Rattle.chain_levels.specs.Rank.{level_of, last_level}
use Rattle.chain_levels.proofs.Reach.{group_reach}
use Rattle.chain_levels.proofs.Carry.{one_level}
use Rattle.chain_levels.proofs.Paths.{Sampled}
use Rattle.chain_levels.proofs.Skipped.{StepOver}
use Rattle.chain_levels.proofs.Levels.{level, Alike, group_level, one_group, rises, last_low, from_below, end_from_below, low}

module _ (f : Follow) where
  -- No more steps than the level lead to a point.
  at_most : {k : ℕ} {v : Point} → Climb (steps f) k v → k ≤ level f v
  at_most begin = omega arith
  at_most (go {u = u} {v = v} c g n) = up (rises f u v g) (at_most c)
    where
      up : {k : ℕ} → (level f u < level f v) ⊎ OneGroup (steps f) u v → k ≤ level f u → suc k ≤ level f v
      up (inl l) h = omega arith
      up (inr l) h = absurd (n l)
  at_most (move {u = u} {v = v} c g) = omega (arith, at_most c, one_group f u v g)

  pub start_level : IsLevel (steps f) start 0
  start_level = record { reached = begin; largest = λ k c. at_most c }

  -- As many lead to it.
  climb_on : (k : ℕ) (u v : Point) → steps f u v → level f u ≡ k → level f v ≡ suc k → Climb (steps f) k u → Climb (steps f) (suc k) v
  climb_on k u v g e h c = go c g (λ q. omega (arith, one_group f u v q))

  -- Into the point of x.
  arrive : (k x y : ℕ) → Alike f x y → Climb (steps f) k (name y) → Climb (steps f) k (name x)
  arrive k x y (inl e) c = subst (λ (z : ℕ). Climb (steps f) k (name z)) (sym e) c
  arrive k x y (inr e) c = let r = (group_reach f x y).0 e in move {v = name x} c (r.1, r.0)

  alike_level : (x y : ℕ) → Alike f x y → level_of f y ≡ level_of f x
  alike_level x y (inl e) = ap (level_of f) (sym e)
  alike_level x y (inr e) = sym (group_level f x y e)

  module _ (s : Sampled f) where
    reached : (k x : ℕ) → Occurs (steps f) x → level_of f x ≡ k → Climb (steps f) k (name x)
    reached zero x o e = absurd (omega (arith, low f s x o))
    reached (suc k) x o e = up (from_below f s x k o e) (λ c p q. reached k c p q)
      where
        up : ((y : ℕ) × (u : Point) × Alike f x y × steps f u (name y) × (level f u ≡ k)) → ((c : ℕ) → Occurs (steps f) c → level_of f c ≡ k → Climb (steps f) k (name c)) → Climb (steps f) (suc k) (name x)
        up (y, start, a, g, l) ih =
            arrive (suc k) x y a
            (climb_on k start (name y) g l (alike_level x y a ∙ e) (subst (λ (i : ℕ). Climb (steps f) i start) l begin))
        up (y, name c, a, g, l) ih =
            arrive (suc k) x y a (climb_on k (name c) (name y) g l (alike_level x y a ∙ e) (ih c (s.entered c (name y) g) l))
        up (y, end, a, g, l) ih = absurd g

    reached_end : (k : ℕ) → last_level f ≡ suc k → Climb (steps f) (suc k) end
    reached_end k e = up (end_from_below f s k e)
      where
        up : ((u : Point) × steps f u end × (level f u ≡ k)) → Climb (steps f) (suc k) end
        up (start, g, l) = climb_on k start end g l e (subst (λ (i : ℕ). Climb (steps f) i start) l begin)
        up (name c, g, l) = climb_on k (name c) end g l e (reached k c (s.entered c end g) l)
        up (end, g, l) = absurd g

    pub name_level : (x : ℕ) → Occurs (steps f) x → IsLevel (steps f) (name x) (level_of f x)
    name_level x o = record { reached = reached (level_of f x) x o refl; largest = λ k c. at_most c }

    pub end_level : IsLevel (steps f) end (last_level f)
    end_level = up (last_level f) refl
      where
        up : (l : ℕ) → last_level f ≡ l → IsLevel (steps f) end (last_level f)
        up zero e = absurd (omega (arith, last_low f))
        up (suc k) e = record { reached = subst (λ (i : ℕ). Climb (steps f) i end) (sym e) (reached_end k e); largest = λ i c. at_most c }

    -- ---- the levels of the points of a step

    from_level : (u v : Point) → steps f u v → IsLevel (steps f) u (level f u)
    from_level start v g = start_level
    from_level (name x) v g = name_level x (s.entered x v g)
    from_level end v g = absurd g

    to_level : (u v : Point) → steps f u v → IsLevel (steps f) v (level f v)
    to_level u (name y) g = name_level y (u, g)
    to_level u end g = end_level
    to_level start start g = absurd g
    to_level (name x) start g = absurd g
    to_level end start g = absurd g

    -- Some step goes from a lower to a higher level than l.
    pub over_skipped : (l : ℕ) → StepOver f l ↔ Skipped (steps f) l
    over_skipped l = (
      λ (u, v, g, a, b). (u, v, level f u, level f v, g, from_level u v g, to_level u v g, omega arith, omega arith),
      λ (u, v, i, j, g, p, q, a, b).
          (u, v, g, omega (arith, one_level u i (level f u) p (from_level u v g)), omega (arith, one_level v j (level f v) q (to_level u v g))),
    )

    -- ---- every level below that of the end has a name

    filled_below : (k x : ℕ) → Occurs (steps f) x → level_of f x ≡ k → (l : ℕ) → 0 < l → l ≤ k → (y : ℕ) × Occurs (steps f) y × (level_of f y ≡ l)
    filled_below zero x o e l a b = absurd (omega arith)
    filled_below (suc k) x o e l a b = down (ℕ_discrete l (suc k)) (from_below f s x k o e) (λ c p q. filled_below k c p q l a)
      where
        down : Dec (l ≡ suc k) → ((y : ℕ) × (u : Point) × Alike f x y × steps f u (name y) × (level f u ≡ k)) →
            ((c : ℕ) → Occurs (steps f) c → level_of f c ≡ k → l ≤ k → (y : ℕ) × Occurs (steps f) y × (level_of f y ≡ l)) → (y : ℕ) × Occurs (steps f) y × (level_of f y ≡ l)
        down (yes d) q ih = (x, o, e ∙ sym d)
        down (no d) (y, start, t, g, h) ih = absurd (omega arith)
        down (no d) (y, name c, t, g, h) ih = ih c (s.entered c (name y) g) h (omega arith)
        down (no d) (y, end, t, g, h) ih = absurd g

    pub filled : (l : ℕ) → 0 < l → l < last_level f → (y : ℕ) × Occurs (steps f) y × (level_of f y ≡ l)
    filled l a b = down (end_from_below f s (last_level f - 1) (omega arith))
      where
        down : ((u : Point) × steps f u end × (level f u ≡ last_level f - 1)) → (y : ℕ) × Occurs (steps f) y × (level_of f y ≡ l)
        down (start, g, h) = absurd (omega arith)
        down (name c, g, h) = filled_below (last_level f - 1) c (s.entered c end g) h l a (omega arith)
        down (end, g, h) = absurd g
