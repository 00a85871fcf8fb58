-- The places that steps lead to decide the steps of a chain.
-- Assumes nothing.
use Prim.Native.Nat.{ℕ, zero, suc, ◌+◌, ◌-◌, ◌≤◌, ◌<◌}
use mathlib.Core.Path.{◌≡◌, refl, sym, ◌∙◌}
use mathlib.Core.Bool.{Bool, true, false, cond, false≢true}
use mathlib.Core.List.{List}
use mathlib.Core.Logic.{◌⊎◌, inl, inr, ◌↔◌}
use native.Mathlib.Omega.{arith}
use native.Mathlib.Decide.{dec_lt, dec_le, ℕ_discrete}
use borrow.Author.Tests.{leb-true, le-leb}
use lib.Dec.{leb}
use lib.ListN.{get_or}
use Rattle.model.specs.declared.Chain.{Chain}
use Rattle.model.specs.Record.{no_factor, factor_of, mode_of, IsChain}
use Rattle.nameset.proofs.Tests.{both, and_left, and_right}
use Rattle.model_language.specs.Word.{Point, start, name, end}
use Rattle.model_language.specs.Step.{optional, repeats, place, Held, Over, Repeat, Step}
use Rattle.model_language.proofs.Shown.{step_rises}
use Rattle.model_places.specs.Places.{nearest, far_from, farthest, has_step}

-- ---- how far

-- f is the first factor behind p that may not be left out, or the place behind all of them.
record Far (modes : List ℕ) (left p f : ℕ) : Type 0 where
  rises : p < f
  top : f ≤ suc (p + left)
  free : (i : ℕ) → p ≤ i → suc i < f → optional (get_or modes i 0) ≡ true
  stops : (i : ℕ) → suc i ≡ f → i < p + left → optional (get_or modes i 0) ≡ false

far_is : (modes : List ℕ) (left p : ℕ) → Far modes left p (far_from modes left p)
unfolding far_from
far_is modes zero p = record { rises = omega arith; top = omega arith; free = λ i a b. absurd (omega arith); stops = λ i a b. absurd (omega arith) }
far_is modes (suc left) p = go (optional (get_or modes p 0)) refl (far_is modes left (suc p))
  where
    go : (b : Bool) → optional (get_or modes p 0) ≡ b → Far modes left (suc p) (far_from modes left (suc p)) → Far modes (suc left) p (cond b (far_from modes left (suc p)) (suc p))
    go true e h =
        record {
          rises = omega (arith, h.rises);
          top = omega (arith, h.top);
          free = λ i a b. over i a b (ℕ_discrete i p);
          stops = λ i a b. h.stops i a (omega arith);
        }
      where
        over : (i : ℕ) → p ≤ i → suc i < far_from modes left (suc p) → Dec (i ≡ p) → optional (get_or modes i 0) ≡ true
        over i a b (yes q) = rw q e
        over i a b (no q) = h.free i (omega arith) b
    go false e h =
        record {
          rises = omega arith;
          top = omega arith;
          free = λ i a b. absurd (omega arith);
          stops = λ i a b. let q : i ≡ p = omega arith in rw q e;
        }

-- ---- how near

near_split : (modes : List ℕ) (p : ℕ) → ((nearest modes p ≡ p) × ((i : ℕ) × (suc i ≡ p) × (repeats (get_or modes i 0) ≡ true)))
    ⊎ ((nearest modes p ≡ suc p) × ((i : ℕ) → suc i ≡ p → repeats (get_or modes i 0) ≡ false))
unfolding nearest
near_split modes zero = inr (refl, λ i h. absurd (omega arith))
near_split modes (suc j) = go (repeats (get_or modes j 0)) refl
  where
    go : (b : Bool) → repeats (get_or modes j 0) ≡ b → ((cond b (suc j) (suc (suc j)) ≡ suc j) × ((i : ℕ) × (suc i ≡ suc j) × (repeats (get_or modes i 0) ≡ true)))
        ⊎ ((cond b (suc j) (suc (suc j)) ≡ suc (suc j)) × ((i : ℕ) → suc i ≡ suc j → repeats (get_or modes i 0) ≡ false))
    go true e = inl (refl, (j, refl, e))
    go false e = inr (refl, λ i h. let q : i ≡ j = omega arith in rw q e)

-- ---- the steps of a chain

module _ (size n : ℕ) (m : Chain) (c : IsChain size n m) (small : size < no_factor) (u v : Point) where
  near : ℕ
  near = nearest m.mode (place m u)

  far : ℕ
  far = farthest m.count m.mode (place m u)

  held_from : (u : Point) → place m u ≤ m.count → Held m u
  held_from start h = tt
  held_from (name x) h = omega arith
  held_from end h = absurd (omega arith)

  held_to : (v : Point) → place m v ≤ suc m.count → Held m v
  held_to start h = tt
  held_to end h = tt
  held_to (name x) h = go (dec_lt x n)
    where
      one : (factor_of m x ≡ no_factor) ⊎ (factor_of m x < m.count) → factor_of m x < m.count
      one (inl e) = absurd (omega (arith, c.few))
      one (inr l) = l

      go : Dec (x < n) → factor_of m x < m.count
      go (yes l) = one (c.placed x l)
      go (no l) = one (inl (c.others x (omega arith)))

  held_top : (v : Point) → Held m v → place m v ≤ suc m.count
  held_top start h = omega arith
  held_top (name x) h = omega arith
  held_top end h = omega arith

  far_row : Far m.mode (m.count - place m u) (place m u) far
  unfolding far farthest
  far_row = far_is m.mode (m.count - place m u) (place m u)

  has : place m u ≤ m.count → near ≤ place m v → place m v ≤ far → Step m u v
  unfolding near mode_of
  has low a b = record { leaves = held_from u low; meets = held_to v (omega (arith, far_row.top)); way = go (dec_lt (place m u) (place m v)) (near_split m.mode (place m u)) }
    where
      go : Dec (place m u < place m v) → ((nearest m.mode (place m u) ≡ place m u) × ((i : ℕ) × (suc i ≡ place m u) × (repeats (get_or m.mode i 0) ≡ true)))
          ⊎ ((nearest m.mode (place m u) ≡ suc (place m u)) × ((i : ℕ) → suc i ≡ place m u → repeats (get_or m.mode i 0) ≡ false))
          → Over m u v ⊎ Repeat m u v
      go (yes l) z = inl record { rises = l; free = λ i p q. far_row.free i p (omega arith) }
      go (no l) (inr (e, z)) = absurd (omega arith)
      go (no l) (inl (e, (i, q, r))) = inr record { factor = i; one = omega arith; left = sym q; right = omega arith; loop = r }

  from_near : Step m u v → near ≤ place m v
  unfolding near mode_of
  from_near s = go s.way (near_split m.mode (place m u))
    where
      go : Over m u v ⊎ Repeat m u v → ((nearest m.mode (place m u) ≡ place m u) × ((i : ℕ) × (suc i ≡ place m u) × (repeats (get_or m.mode i 0) ≡ true)))
          ⊎ ((nearest m.mode (place m u) ≡ suc (place m u)) × ((i : ℕ) → suc i ≡ place m u → repeats (get_or m.mode i 0) ≡ false))
          → nearest m.mode (place m u) ≤ place m v
      go (inl o) (inl (e, z)) = omega (arith, o.rises)
      go (inl o) (inr (e, z)) = omega (arith, o.rises)
      go (inr w) (inl (e, z)) = omega (arith, w.left, w.right)
      go (inr w) (inr (e, z)) = absurd (false≢true (sym (z w.factor (sym w.left)) ∙ w.loop))

  to_far : Step m u v → place m v ≤ far
  unfolding mode_of
  to_far s = go s.way (dec_le (place m v) far)
    where
      go : Over m u v ⊎ Repeat m u v → Dec (place m v ≤ far) → place m v ≤ far
      go w (yes l) = l
      go (inr w) (no l) = omega (arith, w.left, w.right, far_row.rises)
      go (inl o) (no l) =
          let t = held_top v s.meets in
          let r = far_row.rises in
          let low = (step_rises m u v s).2 in
          let e : suc (far - 1) ≡ far = omega arith in
          absurd (false≢true (sym (far_row.stops (far - 1) e (omega arith)) ∙ o.free (far - 1) (omega arith) (omega arith)))

  -- The test says yes exactly when the step is one of the chain.
  pub step_law : (has_step m u v ≡ true) ↔ Step m u v
  unfolding has_step near far
  step_law = (
    λ e.
        let a = and_left (leb (place m u) m.count) _ e in
        let b = and_right (leb (place m u) m.count) _ e in
        has
        (leb-true (place m u) m.count a)
        (leb-true _ _ (and_left (leb (nearest m.mode (place m u)) (place m v)) _ b))
        (leb-true _ _ (and_right (leb (nearest m.mode (place m u)) (place m v)) _ b)),
    λ s. both (leb (place m u) m.count) _ (le-leb (place m u) m.count (step_rises m u v s).2) (both (leb (nearest m.mode (place m u)) (place m v)) _ (le-leb _ _ (from_near s)) (le-leb _ _ (to_far s))),
  )

  -- The test says no: the chain has no such step.
  pub no_step : has_step m u v ≡ false → Step m u v → ⊥
  no_step e s = false≢true (sym e ∙ step_law.1 s)
