-- Executable levels: a step between different points goes to a higher level, and a point of level l + 1 has a step from
-- a point of level l.
-- Assumes nothing.
use Prim.Native.Nat.{ℕ, zero, suc, ◌≤◌, ◌<◌}
use mathlib.Core.Path.{◌≡◌, refl, sym, ◌∙◌, ap, subst, fun_ext}
use mathlib.Core.Bool.{Bool, true, false, not, false≢true}
use mathlib.Core.Logic.{◌⊎◌, inl, inr, ⊎_elim, ◌↔◌}
use native.Mathlib.Omega.{arith}
use Rattle.nameset.proofs.Tests.{same_test}
use Rattle.model_language.specs.Word.{Point, start, name, end}
use Rattle.model_language.specs.Reach.{Reach, one, more}
use Rattle.follow.specs.Follow.{Follow, steps}
use Rattle.chain_levels.specs.Below.{count_below, largest_below}
use Rattle.chain_levels.specs.Reach.{reaches, same_group}
use Rattle.chain_levels.specs.Level.{Occurs, OneGroup}
use Rattle.chain_levels.specs.Rank.{is_before, level_by, level_of, last_level}
use Rattle.chain_levels.proofs.Tests.{and_is, not_is, both_ways, refuted}
use Rattle.chain_levels.proofs.Below.{largest_bounds, largest_has, largest_same, largest_most, count_lt, count_all}
use Rattle.chain_levels.proofs.Reach.{reaches_is, reaches_trans, reaches_below, reached_below, group_is, group_reach, group_sym, group_below}
use Rattle.chain_levels.proofs.Paths.{Way, here, by, occurs_below, Sampled}

-- The level of a point.
abbrev pub level : Follow → Point → ℕ
level f start = 0
level f (name x) = level_of f x
level f end = last_level f

-- Two names are one point: the same name, or of one loop group.
abbrev pub Alike : Follow → ℕ → ℕ → Type 0
Alike f x y = (x ≡ y) ⊎ (same_group f x y ≡ true)

module _ (f : Follow) where
  pub before_is : (b a : ℕ) → (is_before f b a ≡ true) ↔ ((reaches f b a ≡ true) × (reaches f a b ≡ false))
  unfolding is_before
  before_is b a = (
    λ e. let p = (and_is (reaches f b a) (not (reaches f a b))).0 e in (p.0, (not_is (reaches f a b)).0 p.1),
    λ p. (and_is (reaches f b a) (not (reaches f a b))).1 (p.0, (not_is (reaches f a b)).1 p.1),
  )

  before_self : (a : ℕ) → is_before f a a ≡ false
  before_self a = refuted (is_before f a a) (λ e. let p = (before_is a a).0 e in both_ways (reaches f a a) p.0 p.1)

  -- What stands before a name stands before all that the name reaches.
  before_reaches : (x b a : ℕ) → is_before f x b ≡ true → reaches f b a ≡ true → is_before f x a ≡ true
  before_reaches x b a p q =
      let r = (before_is x b).0 p in
      (before_is x a).1 (
        reaches_trans f x b a r.0 q,
        refuted (reaches f a x) (λ e. both_ways (reaches f b x) (reaches_trans f b a x q e) r.1),
      )

  before_below : (b a : ℕ) → is_before f b a ≡ true → b < f.names
  before_below b a e = reaches_below f b a ((before_is b a).0 e).0

  -- ---- levels by rounds

  -- How many names stand before a.
  height : ℕ → ℕ
  height a = count_below f.names (λ x. is_before f x a)

  height_lt : (b a : ℕ) → is_before f b a ≡ true → height b < height a
  unfolding height
  height_lt b a e =
      count_lt f.names (λ x. is_before f x b) (λ x. is_before f x a)
      (λ x l p. before_reaches x b a p ((before_is b a).0 e).0)
      b (before_below b a e) (before_self b) e

  height_small : (a : ℕ) → a < f.names → height a < f.names
  unfolding height
  height_small a h =
      omega (arith, count_lt f.names (λ x. is_before f x a) (λ x. true) (λ x l p. refl) a h (before_self a) refl, count_all f.names (λ x. true))

  stable : (k a : ℕ) → height a < k → level_by f k a ≡ level_by f (suc k) a
  unfolding level_by
  stable zero a h = absurd (omega arith)
  stable (suc k) a h =
      ap suc
      (largest_same f.names (λ b. is_before f b a) (λ b. level_by f k b) (λ b. level_by f (suc k) b)
      (λ b l e. stable k b (omega (arith, height_lt b a e))))

  level_is : (a : ℕ) → a < f.names → level_of f a ≡ suc (largest_below f.names (λ b. is_before f b a) (level_of f))
  unfolding level_by level_of
  level_is a h = stable f.names a (height_small a h)

  pub level_low : (a : ℕ) → a < f.names → 0 < level_of f a
  level_low a h = omega (arith, level_is a h)

  -- No level is above the number of names.
  by_most : (k a : ℕ) → level_by f k a ≤ k
  unfolding level_by
  by_most zero a = omega arith
  by_most (suc k) a = omega (arith, largest_most f.names (λ b. is_before f b a) (λ b. level_by f k b) k (λ b l e. by_most k b))

  pub level_most : (a : ℕ) → level_of f a ≤ f.names
  unfolding level_of
  level_most a = by_most f.names a

  pub before_rises : (b a : ℕ) → is_before f b a ≡ true → level_of f b < level_of f a
  before_rises b a e =
      omega (arith, level_is a (reached_below f b a ((before_is b a).0 e).0), largest_bounds f.names (λ x. is_before f x a) (level_of f) b (before_below b a e) e)

  pub level_has : (a l : ℕ) → a < f.names → level_of f a ≡ suc (suc l) → (b : ℕ) × (b < f.names) × (is_before f b a ≡ true) × (level_of f b ≡ suc l)
  level_has a l h e = largest_has f.names (λ b. is_before f b a) (level_of f) l (omega (arith, level_is a h))

  -- The names of a loop group have one level.
  pub group_level : (x y : ℕ) → same_group f x y ≡ true → level_of f x ≡ level_of f y
  group_level x y m =
      let q = (group_is f x y).0 m in
      level_is x (group_below f x y m)
      ∙ ap (λ (t : ℕ → Bool). suc (largest_below f.names t (level_of f)))
      (fun_ext (λ b. same_test (is_before f b x) (is_before f b y) (λ e. before_reaches b x y e q.0) (λ e. before_reaches b y x e q.1)))
      ∙ sym (level_is y (group_below f y x (group_sym f x y m)))

  pub reach_level : (b c : ℕ) → reaches f b c ≡ true → level_of f b ≤ level_of f c
  reach_level b c e = go (reaches f c b) refl
    where
      go : (q : Bool) → reaches f c b ≡ q → level_of f b ≤ level_of f c
      go true d = omega (arith, group_level b c ((group_is f b c).1 (e, d)))
      go false d = omega (arith, before_rises b c ((before_is b c).1 (e, d)))

  -- ---- (l1) a step between different points goes to a higher level

  pub one_group : (u v : Point) → OneGroup (steps f) u v → level f u ≡ level f v
  one_group start v g = absurd g
  one_group (name x) start g = absurd g
  one_group (name x) (name y) g = group_level x y ((group_reach f x y).1 g)
  one_group (name x) end g = absurd g
  one_group end v g = absurd g

  last_above : (x : ℕ) → x < f.names → f.ends x ≡ true → level_of f x < last_level f
  unfolding last_level
  last_above x h e = omega (arith, largest_bounds f.names f.ends (level_of f) x h e)

  pub last_low : 0 < last_level f
  unfolding last_level
  last_low = omega arith

  pub rises : (u v : Point) → steps f u v → (level f u < level f v) ⊎ OneGroup (steps f) u v
  rises start start g = absurd g
  rises start (name y) g = inl (level_low y g.0)
  rises start end g = inl last_low
  rises (name x) start g = absurd g
  rises (name x) (name y) g = go (reaches f y x) refl
    where
      there : reaches f x y ≡ true
      there = (reaches_is f x y).1 (one g)

      go : (q : Bool) → reaches f y x ≡ q → (level_of f x < level_of f y) ⊎ OneGroup (steps f) (name x) (name y)
      go true e = inr (one g, (reaches_is f y x).0 e)
      go false e = inl (before_rises x y ((before_is x y).1 (there, e)))
  rises (name x) end g = inl (last_above x g.0 g.1)
  rises end v g = absurd g

  -- ---- ways between names

  end_stays : {c : ℕ} → Way f end (name c) → ⊥
  end_stays (by g r) = g

  not_back : {u : Point} → Way f u start → u ≡ start
  not_back here = refl
  not_back (by {u = u} {v = start} g r) = absurd (go u g)
    where
      go : (u : Point) → steps f u start → ⊥
      go start g = g
      go (name x) g = g
      go end g = g
  not_back (by {v = name c} g r) = absurd (false≢true (cc (not_back r)))
  not_back (by {v = end} g r) = absurd (false≢true (cc (not_back r)))

  way_reaches : {b c : ℕ} → Way f (name b) (name c) → (b ≡ c) ⊎ (reaches f b c ≡ true)
  way_reaches here = inl refl
  way_reaches (by {v = start} g r) = absurd g
  way_reaches {b} {c} (by {v = name d} g r) = inr (go (way_reaches r))
    where
      go : (d ≡ c) ⊎ (reaches f d c ≡ true) → reaches f b c ≡ true
      go (inl e) = subst (λ (z : ℕ). reaches f b z ≡ true) e ((reaches_is f b d).1 (one g))
      go (inr e) = reaches_trans f b d c ((reaches_is f b d).1 (one g)) e
  way_reaches (by {v = end} g r) = absurd (end_stays r)

  reach_way : {b c : ℕ} → Reach (steps f) b c → Way f (name b) (name c)
  reach_way (one g) = by g here
  reach_way (more g r) = by g (reach_way r)

  -- ---- a step into the point of x from outside it, on a way that begins at p

  abbrev Outer : Point → ℕ → Type 0
  Outer start x = Unit {0}
  Outer (name b) x = is_before f b x ≡ true
  Outer end x = ⊥

  abbrev Entry : Point → ℕ → Type 0
  Entry p x = (y : ℕ) × (u : Point) × Alike f x y × steps f u (name y) × Outer u x × Way f p u

  abbrev In : Point → ℕ → Type 0
  In start x = ⊥
  In (name c) x = Alike f x c
  In end x = ⊥

  reach_in : (b c x : ℕ) → steps f (name b) (name c) → Alike f x c → reaches f b x ≡ true
  reach_in b c x g (inl e) = subst (λ (z : ℕ). reaches f b z ≡ true) (sym e) ((reaches_is f b c).1 (one g))
  reach_in b c x g (inr e) = reaches_trans f b c x ((reaches_is f b c).1 (one g)) ((group_is f x c).0 e).1

  entry_at : (x c : ℕ) → Alike f x c → (u : Point) → steps f u (name c) → In u x ⊎ Entry u x
  entry_at x c a start g = inr (c, start, a, g, tt, here)
  entry_at x c a (name b) g = go (reaches f x b) refl
    where
      go : (q : Bool) → reaches f x b ≡ q → In (name b) x ⊎ Entry (name b) x
      go true e = inl (inr ((group_is f x b).1 (e, reach_in b c x g a)))
      go false e = inr (c, name b, a, g, (before_is b x).1 (reach_in b c x g a, e), here)
  entry_at x c a end g = absurd g

  entry_step : (x : ℕ) (u v : Point) → steps f u v → In v x ⊎ Entry v x → In u x ⊎ Entry u x
  entry_step x u v g (inr (y, t, a, h, o, w)) = inr (y, t, a, h, o, by g w)
  entry_step x u start g (inl i) = absurd i
  entry_step x u (name c) g (inl i) = entry_at x c i u g
  entry_step x u end g (inl i) = absurd i

  entry : {p : Point} {x : ℕ} → Way f p (name x) → In p x ⊎ Entry p x
  entry here = inl (inl refl)
  entry (by {u = u} {v = v} g r) = entry_step _ u v g (entry r)

  -- ---- (l2) a point of level l + 1 has a step from a point of level l

  abbrev Source : ℕ → ℕ → Type 0
  Source x l = (y : ℕ) × (u : Point) × Alike f x y × steps f u (name y) × (level f u ≡ l)

  -- level 1: the step into the point comes from the start
  source_one : (x : ℕ) → x < f.names → level_of f x ≡ 1 → In start x ⊎ Entry start x → Source x 0
  source_one x h e (inl i) = absurd i
  source_one x h e (inr (y, start, a, g, o, r)) = (y, start, a, g, refl)
  source_one x h e (inr (y, name c, a, g, o, r)) = absurd (omega (arith, level_low c g.0, before_rises c x o))
  source_one x h e (inr (y, end, a, g, o, r)) = absurd o

  outside : (b x : ℕ) → is_before f b x ≡ true → Alike f x b → ⊥
  outside b x e (inl q) = both_ways (is_before f b b) (subst (λ (z : ℕ). is_before f b z ≡ true) q e) (before_self b)
  outside b x e (inr q) = both_ways (reaches f x b) ((group_is f x b).0 q).0 ((before_is b x).0 e).1

  -- level l + 2: it comes from a name between one of level l + 1 and the point
  source_more : (x b l : ℕ) → x < f.names → is_before f b x ≡ true → level_of f x ≡ suc (suc l) → level_of f b ≡ suc l → In (name b) x ⊎ Entry (name b) x → Source x (suc l)
  source_more x b l h e p q (inl i) = absurd (outside b x e i)
  source_more x b l h e p q (inr (y, start, a, g, o, r)) = absurd (false≢true (cc (not_back r)))
  source_more x b l h e p q (inr (y, name c, a, g, o, r)) = (y, name c, a, g, go (way_reaches r))
    where
      go : (b ≡ c) ⊎ (reaches f b c ≡ true) → level_of f c ≡ suc l
      go (inl d) = ap (level_of f) (sym d) ∙ q
      go (inr d) = omega (arith, reach_level b c d, before_rises c x o)
  source_more x b l h e p q (inr (y, end, a, g, o, r)) = absurd o

  module _ (s : Sampled f) where
    pub from_below : (x l : ℕ) → Occurs (steps f) x → level_of f x ≡ suc l → Source x l
    from_below x zero o e = source_one x (occurs_below f x o) e (entry (s.to_name x o))
    from_below x (suc l) o e =
        let h = occurs_below f x o in
        let b = level_has x l h e in
        source_more x b.0 l h b.2 e b.3 (entry (reach_way ((reaches_is f b.0 x).0 ((before_is b.0 x).0 b.2).0)))

    end_source : (l : ℕ) → largest_below f.names f.ends (level_of f) ≡ l → ((u : Point) × steps f u end) → (u : Point) × steps f u end × (level f u ≡ l)
    end_source zero e (start, g) = (start, g, refl)
    end_source zero e (name x, g) = absurd (omega (arith, level_low x g.0, largest_bounds f.names f.ends (level_of f) x g.0 g.1))
    end_source zero e (end, g) = absurd g
    end_source (suc l) e k =
        let p = largest_has f.names f.ends (level_of f) l e in
        (name p.0, (p.1, p.2), p.3)

    pub end_from_below : (l : ℕ) → last_level f ≡ suc l → (u : Point) × steps f u end × (level f u ≡ l)
    unfolding last_level
    end_from_below l e = end_source l (omega arith) s.some_end

    -- ---- (l3) a name's level lies between those of the start and the end

    pub step_rises : (u v : Point) → steps f u v → level f u ≤ level f v
    step_rises u v g = ⊎_elim (λ l. omega arith) (λ e. omega (arith, one_group u v e)) (rises u v g)

    -- Levels do not fall on the way.
    pub way_rises : {u v : Point} → Way f u v → level f u ≤ level f v
    way_rises here = omega arith
    way_rises (by {u = u} {v = v} g r) = omega (arith, step_rises u v g, way_rises r)

    pub low : (x : ℕ) → Occurs (steps f) x → 0 < level_of f x
    low x o = level_low x (occurs_below f x o)

    high_way : (x : ℕ) → Way f (name x) end → level_of f x < last_level f
    high_way x (by {v = start} g r) = absurd g
    high_way x (by {v = name y} g r) = omega (arith, step_rises (name x) (name y) g, high_way y r)
    high_way x (by {v = end} g r) = last_above x g.0 g.1

    pub high : (x : ℕ) → Occurs (steps f) x → level_of f x < last_level f
    high x o = high_way x (s.to_end x o)
