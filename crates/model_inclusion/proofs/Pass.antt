-- The steps of m compared with those of k in one pass over m's factors. Of the points that a step of m to factor i may
-- leave, two are kept: the one that is lowest in k and the one that is highest. Of the names of factor i two
-- are looked at, in the same way. If k has the steps between these, it has all steps of m into that factor.
-- Assumes nothing.
use Prim.Native.Nat.{ℕ, suc, ◌≤◌, ◌<◌}
use mathlib.Core.Path.{◌≡◌, refl, sym, ◌∙◌}
use mathlib.Core.Bool.{true, false, false≢true}
use mathlib.Core.Logic.{◌⊎◌, inl, inr}
use native.Mathlib.Omega.{arith}
use native.Mathlib.Decide.{dec_lt, dec_le, ℕ_discrete}
use Rattle.model.specs.declared.Chain.{Chain}
use Rattle.model.specs.Record.{factor_of, mode_of}
use Rattle.model_language.specs.Word.{Point, start, name, end}
use Rattle.model_language.specs.Step.{optional, repeats, place, Held, Over, Repeat, Step, Includes}
use Rattle.model_language.proofs.Walk.{Before, next_to, enter, stay, finish}
use Rattle.model_language.proofs.Shown.{step_rises}
use Rattle.model_inclusion.specs.Spans.{Spans}

held_place : (m : Chain) (u : Point) → place m u ≤ m.count → Held m u
held_place m start l = tt
held_place m (name x) l = omega arith
held_place m end l = absurd (omega arith)

-- ---- steps between points that stand between others

-- u stands between low and high, v between lo and hi.
pub between : (k : Chain) (low high lo hi u v : Point) → Step k low hi → Step k high lo → place k hi ≤ k.count
    → place k low ≤ place k u → place k u ≤ place k high → place k lo ≤ place k v → place k v ≤ place k hi → Step k u v
between k low high lo hi u v s t top a b c d =
    record {
      leaves = held_place k u (omega (arith, (step_rises k high lo t).2));
      meets = held_place k v (omega arith);
      way = go (dec_lt (place k u) (place k v)) s.way t.way;
    }
  where
    go : Dec (place k u < place k v) → Over k low hi ⊎ Repeat k low hi → Over k high lo ⊎ Repeat k high lo → Over k u v ⊎ Repeat k u v
    go (yes l) (inl o) y = inl record { rises = l; free = λ i p q. o.free i (omega arith) (omega arith) }
    go (yes l) (inr w) y = absurd (omega (arith, w.left, w.right))
    go (no l) x (inl o) = absurd (omega (arith, o.rises))
    go (no l) x (inr w) = inr record { factor = w.factor; one = w.one; left = omega (arith, w.left, w.right); right = omega (arith, w.left, w.right); loop = w.loop }

-- Two names that stand between lo and hi, if a step leads from hi back to lo.
pub between_loop : (k : Chain) (lo hi u v : Point) → Step k hi lo → place k lo ≤ place k u → place k u ≤ place k hi → place k lo ≤ place k v → place k v ≤ place k hi
    → Step k u v
between_loop k lo hi u v t a b c d =
    let r = step_rises k hi lo t in
    record { leaves = held_place k u (omega arith); meets = held_place k v (omega arith); way = go t.way }
  where
    go : Over k hi lo ⊎ Repeat k hi lo → Over k u v ⊎ Repeat k u v
    go (inl o) = absurd (omega (arith, o.rises))
    go (inr w) = inr record { factor = w.factor; one = w.one; left = omega (arith, w.left, w.right); right = omega (arith, w.left, w.right); loop = w.loop }

between_end : (k : Chain) (low u : Point) → Step k low end → place k low ≤ place k u → place k u ≤ k.count → Step k u end
between_end k low u s a b = record { leaves = held_place k u b; meets = tt; way = go s.way }
  where
    go : Over k low end ⊎ Repeat k low end → Over k u end ⊎ Repeat k u end
    go (inl o) = inl record { rises = omega arith; free = λ i p q. o.free i (omega arith) q }
    go (inr w) = absurd (omega (arith, w.one, w.right))

-- ---- points before a factor

pub before_up : (m : Chain) (u : Point) (i : ℕ) → Before m u i → optional (mode_of m i) ≡ true → Before m u (suc i)
before_up m u i b e = record { leaves = b.leaves; low = omega (arith, b.low); free = λ j p q. go j p q (ℕ_discrete j i) }
  where
    go : (j : ℕ) → place m u ≤ j → j < suc i → Dec (j ≡ i) → optional (mode_of m j) ≡ true
    go j p q (yes f) = rw f e
    go j p q (no d) = b.free j p (omega arith)

before_down : (m : Chain) (u : Point) (i : ℕ) → Before m u (suc i) → place m u ≤ i → Before m u i × (optional (mode_of m i) ≡ true)
before_down m u i b l = (record { leaves = b.leaves; low = l; free = λ j p q. b.free j p (omega arith) }, b.free i l (omega arith))

over_before : (m : Chain) (u v : Point) (i : ℕ) → Held m u → Over m u v → place m v ≡ suc i → Before m u i
over_before m u v i h o e = record { leaves = h; low = omega (arith, o.rises); free = λ j p q. o.free j p (omega arith) }

-- ---- the pass

-- The factors before i are passed.
pub record Passed (m k : Chain) (i : ℕ) (low high : Point) : Type 0 where
  pub below : Before m low i
  pub above : Before m high i
  pub least : (u : Point) → Before m u i → place k low ≤ place k u
  pub most : (u : Point) → Before m u i → place k u ≤ place k high
  pub top : place k high ≤ k.count
  pub same : (u v : Point) → Step m u v → place m v ≤ i → Step k u v

pub passed_none : (m k : Chain) → Passed m k 0 start start
passed_none m k =
    record {
      below = next_to m start tt;
      above = next_to m start tt;
      least = λ u b. omega arith;
      most = λ u b. first u b.low;
      top = omega arith;
      same = λ u v s l. absurd (omega (arith, (step_rises m u v s).1));
    }
  where
    first : (u : Point) → place m u ≤ 0 → place k u ≤ 0
    first start l = omega arith
    first (name x) l = absurd (omega arith)
    first end l = absurd (omega arith)

module _ (m k : Chain) (i : ℕ) (low high : Point) (lo hi : ℕ) (l : i < m.count) (p : Passed m k i low high) (n : Spans m k i lo hi) where
  -- The three steps of m that are looked at.
  pub step_low : Step m low (name hi)
  step_low = enter m low i hi p.below l n.hi_in

  pub step_high : Step m high (name lo)
  step_high = enter m high i lo p.above l n.lo_in

  pub step_loop : repeats (mode_of m i) ≡ true → Step m (name hi) (name lo)
  step_loop e = stay m i hi lo l n.hi_in n.lo_in e

  -- If k has them, factor i is passed.
  module _ (a : Step k low (name hi)) (b : Step k high (name lo)) (c : repeats (mode_of m i) ≡ true → Step k (name hi) (name lo)) where
    new_same : (u v : Point) → Step m u v → place m v ≤ suc i → Step k u v
    new_same u v s h = go v s h
      where
        over : (y : ℕ) → factor_of m y ≡ i → (s : Step m u (name y)) → Over m u (name y) → Step k u (name y)
        over y e s o =
            let z = over_before m u (name y) i s.leaves o (omega arith) in
            let h = a.meets in
            between k low high (name lo) (name hi) u (name y) a b h (p.least u z) (p.most u z) (omega (arith, n.least y e)) (omega (arith, n.most y e))

        inside : (u : Point) (y : ℕ) → factor_of m y ≡ i → Repeat m u (name y) → Held m u → Step k u (name y)
        inside start y e w h = absurd (omega (arith, w.left))
        inside end y e w h = absurd (omega (arith, w.left, w.one))
        inside (name x) y e w h =
            let f : w.factor ≡ i = omega (arith, w.right) in
            let g : factor_of m x ≡ i = omega (arith, w.left) in
            between_loop k (name lo) (name hi) (name x) (name y) (c (rw f at w.loop))
            (omega (arith, n.least x g)) (omega (arith, n.most x g)) (omega (arith, n.least y e)) (omega (arith, n.most y e))

        at : (y : ℕ) → factor_of m y ≡ i → (s : Step m u (name y)) → Over m u (name y) ⊎ Repeat m u (name y) → Step k u (name y)
        at y e s (inl o) = over y e s o
        at y e s (inr w) = inside u y e w s.leaves

        go : (v : Point) → Step m u v → place m v ≤ suc i → Step k u v
        go start s h = absurd (omega (arith, (step_rises m u start s).1))
        go end s h = absurd (omega arith)
        go (name y) s h = here (dec_le (suc (factor_of m y)) i)
          where
            here : Dec (suc (factor_of m y) ≤ i) → Step k u (name y)
            here (yes q) = p.same u (name y) s q
            here (no q) = at y (omega arith) s s.way

    new_most : (u : Point) → Before m u (suc i) → place k u ≤ place k (name hi)
    new_most u z = go u z (dec_le (place m u) i)
      where
        go : (u : Point) → Before m u (suc i) → Dec (place m u ≤ i) → place k u ≤ place k (name hi)
        go u z (yes q) = omega (arith, p.most u (before_down m u i z q).0, (step_rises k high (name lo) b).0, n.most lo n.lo_in)
        go start z (no q) = absurd (omega arith)
        go end z (no q) = absurd (omega (arith, z.low))
        go (name y) z (no q) = omega (arith, n.most y (omega (arith, z.low)))

    -- the lower of the two
    new_lo : (u : Point) → Before m u (suc i) → (place k low ≤ place k u) × (optional (mode_of m i) ≡ false → place k (name lo) ≤ place k u)
    new_lo u z = go u z (dec_le (place m u) i)
      where
        go : (u : Point) → Before m u (suc i) → Dec (place m u ≤ i) → (place k low ≤ place k u) × (optional (mode_of m i) ≡ false → place k (name lo) ≤ place k u)
        go u z (yes q) = let w = before_down m u i z q in (p.least u w.0, λ e. absurd (false≢true (sym e ∙ w.1)))
        go start z (no q) = absurd (omega arith)
        go end z (no q) = absurd (omega (arith, z.low))
        go (name y) z (no q) =
            let g = n.least y (omega (arith, z.low)) in
            (omega (arith, p.least high p.above, (step_rises k high (name lo) b).0), λ e. omega arith)

    -- the factor may be left out
    pub passed_optional : optional (mode_of m i) ≡ true → Passed m k (suc i) low (name hi)
    passed_optional e =
        let h = n.hi_in in
        record {
          below = before_up m low i p.below e;
          above = rw h at (next_to m (name hi) (omega arith));
          least = λ u z. (new_lo u z).0;
          most = new_most;
          top = a.meets;
          same = new_same;
        }

    -- it may not
    pub passed_required : optional (mode_of m i) ≡ false → Passed m k (suc i) (name lo) (name hi)
    passed_required e =
        let h = n.hi_in in
        let g = n.lo_in in
        record {
          below = rw g at (next_to m (name lo) (omega arith));
          above = rw h at (next_to m (name hi) (omega arith));
          least = λ u z. (new_lo u z).1 e;
          most = new_most;
          top = a.meets;
          same = new_same;
        }

-- All factors are passed.
module _ (m k : Chain) (low high : Point) (p : Passed m k m.count low high) where
  pub step_last : Step m low end
  step_last = finish m low m.count p.below refl

  pub passed_all : Step k low end → Includes m k
  passed_all e u v s = go v s s.way
    where
      go : (v : Point) → Step m u v → Over m u v ⊎ Repeat m u v → Step k u v
      go start s w = absurd (omega (arith, (step_rises m u start s).1))
      go (name y) s w = p.same u (name y) s s.meets
      go end s (inr w) = absurd (omega (arith, w.one, w.right))
      go end s (inl o) =
          let z = over_before m u end m.count s.leaves o refl in
          between_end k low u e (p.least u z) (omega (arith, p.most u z, p.top))
