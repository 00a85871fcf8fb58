-- The chain that the levels give is tight.
-- Assumes nothing.
use Prim.Native.Nat.{ℕ, suc, ◌-◌, ◌≤◌, ◌<◌}
use mathlib.Core.Path.{◌≡◌, refl, sym, ◌∙◌, ap, subst}
use mathlib.Core.Bool.{Bool, true, false}
use mathlib.Core.Logic.{◌⊎◌, inl, inr, ⊎_elim, ◌↔◌}
use native.Mathlib.Omega.{arith}
use native.Mathlib.Decide.{dec_lt, ℕ_discrete}
use Rattle.model.specs.declared.Chain.{Chain}
use Rattle.model.specs.Record.{factor_of, mode_of, IsChain}
use Rattle.model_language.specs.Word.{Point, start, name, end}
use Rattle.model_language.specs.Reach.{Reach}
use Rattle.model_language.specs.Step.{optional, repeats, place, Held, Step}
use Rattle.model_language.proofs.Walk.{stay}
use Rattle.follow.specs.Follow.{Follow, steps}
use Rattle.chain_levels.specs.Reach.{loops, occurs}
use Rattle.chain_levels.specs.Level.{OneGroup}
use Rattle.chain_levels.specs.Rank.{level_of, last_level}
use Rattle.chain_levels.proofs.Tests.{both_ways}
use Rattle.chain_levels.proofs.Reach.{group_reach, group_loops}
use Rattle.chain_levels.proofs.Paths.{Way, here, by, occurs_is, Sampled}
use Rattle.chain_levels.proofs.Levels.{level, Alike, one_group, rises, from_below, step_rises, way_rises, low, high}
use Rattle.chain_levels.proofs.Skipped.{StepOver}
use Rattle.chain_minimal.specs.Tight.{Tight}
use Rattle.chain_minimal.specs.Arranged.{Arranged}
use Rattle.chain_minimal.proofs.Groups.{number_single, number_loop, number_same, same_number}
use Rattle.chain_minimal.proofs.Modes.{Crowded, mode_repeats, optional_is}

-- A point that stands in the facts, or is the start or the end.
abbrev Present : Follow → Point → Type 0
Present f start = Unit {0}
Present f (name x) = occurs f x ≡ true
Present f end = Unit {0}

present_to : (f : Follow) (u v : Point) → steps f u v → Present f v
present_to f u start g = tt
present_to f u (name x) g = (occurs_is f x).1 (u, g)
present_to f u end g = tt

module _ (f : Follow) (s : Sampled f) where
  present_from : (u v : Point) → steps f u v → Present f u
  present_from start v g = tt
  present_from (name x) v g = (occurs_is f x).1 (s.entered x v g)
  present_from end v g = tt

  level_over : (x : ℕ) → occurs f x ≡ true → 0 < level_of f x
  level_over x o = low f s x ((occurs_is f x).0 o)

  level_under : (x : ℕ) → occurs f x ≡ true → level_of f x < last_level f
  level_under x o = high f s x ((occurs_is f x).0 o)

  -- (l2) at a single.
  single_below : (x l : ℕ) → occurs f x ≡ true → loops f x ≡ false → level_of f x ≡ suc l → (u : Point) × steps f u (name x) × (level f u ≡ l)
  single_below x l o e h = go (from_below f s x l ((occurs_is f x).0 o) h)
    where
      go : ((y : ℕ) × (u : Point) × Alike f x y × steps f u (name y) × (level f u ≡ l)) → (u : Point) × steps f u (name x) × (level f u ≡ l)
      go (y, u, inl q, g, m) = (u, subst (λ (z : ℕ). steps f u (name z)) (sym q) g, m)
      go (y, u, inr q, g, m) = absurd (both_ways (loops f x) (group_loops f x y q) e)

  module _ (size n : ℕ) (d : Chain) (c : IsChain size n d) (p : Arranged f d) where
    on_d : (u : Point) → Present f u → Held d u
    on_d start a = tt
    on_d (name x) a = (p.held x).1 a
    on_d end a = tt

    place_bound : (u : Point) → Held d u → place d u ≤ suc d.count
    place_bound start a = omega arith
    place_bound (name x) a = omega arith
    place_bound end a = omega arith

    -- A lower level stands further to the front.
    level_place : (u v : Point) → Present f u → Present f v → level f u < level f v → place d u < place d v
    level_place start start a b l = absurd (omega arith)
    level_place start (name y) a b l = omega arith
    level_place start end a b l = omega arith
    level_place (name x) start a b l = absurd (omega arith)
    level_place (name x) (name y) a b l = omega (arith, (p.order x y a b).1 (inl l))
    level_place (name x) end a b l = omega (arith, (p.held x).1 a)
    level_place end start a b l = absurd (omega arith)
    level_place end (name y) a b l = absurd (omega (arith, level_under y b))
    level_place end end a b l = absurd (omega arith)

    place_level : (u v : Point) → Present f u → Present f v → place d u < place d v → level f u ≤ level f v
    place_level u v a b l = go (dec_lt (level f v) (level f u))
      where
        go : Dec (level f v < level f u) → level f u ≤ level f v
        go (yes m) = absurd (omega (arith, level_place v u b a m))
        go (no m) = omega arith

    -- A loop group stands in one factor.
    group_factor : (x y : ℕ) → occurs f x ≡ true → occurs f y ≡ true → OneGroup (steps f) (name x) (name y) → factor_of d x ≡ factor_of d y
    group_factor x y a b g =
        let e = (group_reach f x y).1 g in
        (p.shared x y a b).1 (one_group f (name x) (name y) g, number_same f x y e)

    group_place : (u v : Point) → Present f u → Present f v → OneGroup (steps f) u v → place d u ≡ place d v
    group_place start v a b g = absurd g
    group_place (name x) start a b g = absurd g
    group_place (name x) (name y) a b g = ap suc (group_factor x y a b g)
    group_place (name x) end a b g = absurd g
    group_place end v a b g = absurd g

    -- A name of each factor.
    a_name : (i : ℕ) → i < d.count → (z : ℕ) × (factor_of d z ≡ i) × (occurs f z ≡ true)
    a_name i h = let z = c.named i h in (z.0, z.2, (p.held z.0).0 (omega (arith, z.2)))

    loop_mode : (x : ℕ) → occurs f x ≡ true → repeats (mode_of d (factor_of d x)) ≡ loops f x
    loop_mode x o = ap repeats (p.modes x o) ∙ mode_repeats f x

    optional_mode : (x : ℕ) → occurs f x ≡ true → (optional (mode_of d (factor_of d x)) ≡ true) ↔ (StepOver f (level_of f x) ⊎ Crowded f x)
    optional_mode x o = (λ e. (optional_is f x o).0 (sym (ap optional (p.modes x o)) ∙ e), λ q. ap optional (p.modes x o) ∙ (optional_is f x o).1 q)

    -- ---- the sample's steps are steps of the chain

    -- A present point on the level of z and in another factor.
    crowd : (z : ℕ) → occurs f z ≡ true → (u : Point) → Present f u → level f u ≡ level_of f z → ¬ (place d u ≡ suc (factor_of d z)) → Crowded f z
    crowd z o start a e q = absurd (omega (arith, level_over z o))
    crowd z o (name x) a e q = (x, a, e, λ r. q (ap suc ((p.shared x z a o).1 (e, r))))
    crowd z o end a e q = absurd (omega (arith, level_under z o))

    between : (u v : Point) → steps f u v → (z : ℕ) → occurs f z ≡ true → place d u < suc (factor_of d z) → suc (factor_of d z) < place d v →
        StepOver f (level_of f z) ⊎ Crowded f z
    between u v g z o l m =
        go (dec_lt (level f u) (level_of f z)) (dec_lt (level_of f z) (level f v)) (place_level u (name z) a o l) (place_level (name z) v o b m)
      where
        a : Present f u
        a = present_from u v g

        b : Present f v
        b = present_to f u v g

        go : Dec (level f u < level_of f z) → Dec (level_of f z < level f v) → level f u ≤ level_of f z → level_of f z ≤ level f v → StepOver f (level_of f z) ⊎ Crowded f z
        go (yes j) (yes k) h i = inl (u, v, g, j, k)
        go (yes j) (no k) h i = inr (crowd z o v b (omega arith) (omega arith))
        go (no j) k h i = inr (crowd z o u a (omega arith) (omega arith))

    inside_step : (u v : Point) → Present f u → Present f v → OneGroup (steps f) u v → Step d u v
    inside_step start v a b g = absurd g
    inside_step (name x) start a b g = absurd g
    inside_step (name x) (name y) a b g =
        stay d (factor_of d x) x y ((p.held x).1 a) refl (sym (group_factor x y a b g))
        (loop_mode x a ∙ group_loops f x y ((group_reach f x y).1 g))
    inside_step (name x) end a b g = absurd g
    inside_step end v a b g = absurd g

    sound : (u v : Point) → steps f u v → Step d u v
    sound u v g = ⊎_elim rising (inside_step u v a b) (rises f u v g)
      where
        a : Present f u
        a = present_from u v g

        b : Present f v
        b = present_to f u v g

        free : (i : ℕ) → place d u ≤ i → suc i < place d v → optional (mode_of d i) ≡ true
        free i l m = go (a_name i (omega (arith, place_bound v (on_d v b))))
          where
            go : ((z : ℕ) × (factor_of d z ≡ i) × (occurs f z ≡ true)) → optional (mode_of d i) ≡ true
            go (z, e, o) = ap (λ (j : ℕ). optional (mode_of d j)) (sym e) ∙ (optional_mode z o).1 (between u v g z o (omega arith) (omega arith))

        rising : level f u < level f v → Step d u v
        rising l = record { leaves = on_d u a; meets = on_d v b; way = inl record { rises = level_place u v a b l; free = free } }

    -- ---- names of a factor that repeats reach each other

    loop_reach : (x y : ℕ) → factor_of d x < d.count → factor_of d x ≡ factor_of d y → repeats (mode_of d (factor_of d x)) ≡ true → Reach (steps f) x y
    loop_reach x y h e l =
        let a = (p.held x).0 h in
        let b = (p.held y).0 (omega arith) in
        ((group_reach f x y).0 (same_number f x y (sym (loop_mode x a) ∙ l) ((p.shared x y a b).0 e).1)).0

    -- ---- a step between neighbouring factors of singles

    -- Of a single's step from the level below, the source is in the factor before, if that factor is of singles.
    below_is : (a b : ℕ) → occurs f a ≡ true → occurs f b ≡ true → loops f a ≡ false → factor_of d b ≡ suc (factor_of d a) →
        (u : Point) → steps f u (name b) → suc (level f u) ≡ level_of f b → level_of f a < level_of f b → (x : ℕ) × (factor_of d x ≡ factor_of d a) × steps f (name x) (name b)
    below_is a b oa ob sa e start g h l = absurd (omega (arith, level_over a oa))
    below_is a b oa ob sa e end g h l = absurd g
    below_is a b oa ob sa e (name x) g h l = go (dec_lt (level_of f a) (level_of f x)) (loops f x) refl
      where
        ox : occurs f x ≡ true
        ox = present_from (name x) (name b) g

        go : Dec (level_of f a < level_of f x) → (q : Bool) → loops f x ≡ q → (x : ℕ) × (factor_of d x ≡ factor_of d a) × steps f (name x) (name b)
        go (yes m) q r = absurd (omega (arith, (p.order a x oa ox).1 (inl m), (p.order x b ox ob).1 (inl (omega arith))))
        go (no m) true r =
            absurd
            (omega (
              arith,
              (p.order a x oa ox).1 (inr (omega arith, omega (arith, number_single f a sa, number_loop f x r))),
              (p.order x b ox ob).1 (inl (omega arith)),
            ))
        go (no m) false r = (x, (p.shared x a ox oa).1 (omega arith, number_single f x r ∙ sym (number_single f a sa)), g)

    neighbours_of : (a b : ℕ) → occurs f a ≡ true → occurs f b ≡ true → loops f a ≡ false → loops f b ≡ false → factor_of d b ≡ suc (factor_of d a) →
        (x : ℕ) × (factor_of d x ≡ factor_of d a) × steps f (name x) (name b)
    neighbours_of a b oa ob sa sb e = go (dec_lt (level_of f a) (level_of f b)) (ℕ_discrete (level_of f a) (level_of f b))
      where
        go : Dec (level_of f a < level_of f b) → Dec (level_of f a ≡ level_of f b) → (x : ℕ) × (factor_of d x ≡ factor_of d a) × steps f (name x) (name b)
        go (yes l) q =
            let k = single_below b (level_of f b - 1) ob sb (omega arith) in
            below_is a b oa ob sa e k.0 k.1 (omega (arith, k.2)) l
        go (no l) (yes q) = absurd (omega (arith, (p.shared a b oa ob).1 (q, number_single f a sa ∙ sym (number_single f b sb))))
        go (no l) (no q) = absurd (omega (arith, (p.order b a ob oa).1 (inl (omega arith))))

    neighbours : (i : ℕ) → suc i < d.count → repeats (mode_of d i) ≡ false → repeats (mode_of d (suc i)) ≡ false →
        (a : ℕ) × (b : ℕ) × (factor_of d a ≡ i) × (factor_of d b ≡ suc i) × steps f (name a) (name b)
    neighbours i h la lb = go (a_name i (omega arith)) (a_name (suc i) h)
      where
        go : ((z : ℕ) × (factor_of d z ≡ i) × (occurs f z ≡ true)) → ((z : ℕ) × (factor_of d z ≡ suc i) × (occurs f z ≡ true)) →
            (a : ℕ) × (b : ℕ) × (factor_of d a ≡ i) × (factor_of d b ≡ suc i) × steps f (name a) (name b)
        go (a, ea, oa) (b, eb, ob) =
            let k =
            neighbours_of a b oa ob
            (sym (loop_mode a oa) ∙ ap (λ (j : ℕ). repeats (mode_of d j)) ea ∙ la)
            (sym (loop_mode b ob) ∙ ap (λ (j : ℕ). repeats (mode_of d j)) eb ∙ lb)
            (omega arith) in
            (k.0, b, k.1 ∙ ea, eb, k.2)

    -- ---- a step over each optional factor

    -- A way that stays on one level stays in one factor.
    flat : {u v : Point} → Way f u v → level f v ≤ level f u → place d u ≡ place d v
    flat here l = refl
    flat (by {u = u} {v = v} {w = w} g r) l = go (rises f u v g) (flat r)
      where
        go : (level f u < level f v) ⊎ OneGroup (steps f) u v → (level f w ≤ level f v → place d v ≡ place d w) → place d u ≡ place d w
        go (inl m) ih = absurd (omega (arith, way_rises f s r))
        go (inr m) ih = group_place u v (present_from u v g) (present_to f u v g) m ∙ ih (omega (arith, one_group f u v m))

    module _ (z : ℕ) (o : occurs f z ≡ true) where
      -- A step over the factor of z.
      abbrev Crossing : Type 0
      Crossing = (u : Point) × (v : Point) × steps f u v × (place d u < suc (factor_of d z)) × (suc (factor_of d z) < place d v)

      -- A point in the factor of z is on its level.
      point_level : (v : Point) → Present f v → place d v ≡ suc (factor_of d z) → level f v ≡ level_of f z
      point_level start b e = absurd (omega arith)
      point_level (name y) b e = ((p.shared y z b o).0 (omega arith)).0
      point_level end b e = absurd (omega (arith, (p.held z).1 o))

      -- A way from before the factor to behind it, that begins on its level or above, or ends on its level or below,
      -- does not stop in it
      no_stop : (u v w : Point) → steps f u v → Way f v w → place d u < suc (factor_of d z) → suc (factor_of d z) < place d w →
          (level_of f z ≤ level f u) ⊎ (level f w ≤ level_of f z) → ¬ (place d v ≡ suc (factor_of d z))
      no_stop u v w g r h k (inl b) e = go (rises f u v g)
        where
          go : (level f u < level f v) ⊎ OneGroup (steps f) u v → ⊥
          go (inl m) = omega (arith, point_level v (present_to f u v g) e)
          go (inr m) = omega (arith, group_place u v (present_from u v g) (present_to f u v g) m)
      no_stop u v w g r h k (inr b) e = omega (arith, flat r (omega (arith, point_level v (present_to f u v g) e)))

      -- so it has a step over it.
      crossing : {u w : Point} → Way f u w → place d u < suc (factor_of d z) → suc (factor_of d z) < place d w →
          (level_of f z ≤ level f u) ⊎ (level f w ≤ level_of f z) → Crossing
      crossing here h k b = absurd (omega arith)
      crossing (by {u = u} {v = v} {w = w} g r) h k b = go (dec_lt (place d v) (suc (factor_of d z))) (dec_lt (suc (factor_of d z)) (place d v)) (crossing r)
        where
          still : (level_of f z ≤ level f u) ⊎ (level f w ≤ level_of f z) → (level_of f z ≤ level f v) ⊎ (level f w ≤ level_of f z)
          still (inl m) = inl (omega (arith, step_rises f s u v g))
          still (inr m) = inr m

          go : Dec (place d v < suc (factor_of d z)) → Dec (suc (factor_of d z) < place d v) →
              (place d v < suc (factor_of d z) → suc (factor_of d z) < place d w → (level_of f z ≤ level f v) ⊎ (level f w ≤ level_of f z) → Crossing) → Crossing
          go (yes m) q ih = ih m k (still b)
          go (no m) (yes q) ih = (u, v, g, h, q)
          go (no m) (no q) ih = absurd (no_stop u v w g r h k b (omega arith))

      skipped_crosses : StepOver f (level_of f z) → Crossing
      skipped_crosses (u, v, g, l, m) =
          (u, v, g, level_place u (name z) (present_from u v g) o l, level_place (name z) v o (present_to f u v g) m)

      crowded_crosses : Crowded f z → Crossing
      crowded_crosses (w, ow, e, q) = go (dec_lt (factor_of d w) (factor_of d z)) (λ r. q ((p.shared w z ow o).0 r).1)
        where
          go : Dec (factor_of d w < factor_of d z) → ¬ (factor_of d w ≡ factor_of d z) → Crossing
          go (yes l) k = crossing (s.to_end w ((occurs_is f w).0 ow)) (omega arith) (omega (arith, (p.held z).1 o)) (inl (omega arith))
          go (no l) k = crossing (s.to_name w ((occurs_is f w).0 ow)) (omega arith) (omega arith) (inr (omega arith))

    skips : (i : ℕ) → i < d.count → optional (mode_of d i) ≡ true → (u : Point) × (v : Point) × steps f u v × (place d u < suc i) × (suc i < place d v)
    skips i h q = go (a_name i h)
      where
        go : ((z : ℕ) × (factor_of d z ≡ i) × (occurs f z ≡ true)) → (u : Point) × (v : Point) × steps f u v × (place d u < suc i) × (suc i < place d v)
        go (z, e, o) =
            let k : Crossing z o =
            ⊎_elim (skipped_crosses z o) (crowded_crosses z o) ((optional_mode z o).0 (ap (λ (j : ℕ). optional (mode_of d j)) e ∙ q)) in
            (k.0, k.1, k.2, omega (arith, k.3), omega (arith, k.4))

    -- The levels give a tight chain.
    pub tight : Tight (steps f) d
    tight = record {
      sound = sound;
      occurs = λ x h. (occurs_is f x).0 ((p.held x).0 h);
      loops = loop_reach;
      neighbours = neighbours;
      skips = skips;
    }
