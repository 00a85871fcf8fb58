-- What the modes mean: a factor repeats if it is a loop group, and is optional if its level is skipped or has another
-- factor.
-- Assumes nothing.
use Prim.Native.Nat.{ℕ, zero, suc, ◌+◌, ◌≤◌, ◌<◌}
use mathlib.Core.Path.{◌≡◌, refl, sym, ◌∙◌}
use mathlib.Core.Bool.{Bool, true, false, cond, not}
use mathlib.Core.Logic.{◌⊎◌, inl, inr, ◌↔◌}
use native.Mathlib.Omega.{arith}
use native.Mathlib.Decide.{dec_lt}
use lib.Dec.{eqb}
use Rattle.model_language.specs.Step.{optional, repeats}
use Rattle.follow.specs.Follow.{Follow}
use Rattle.chain_levels.specs.Below.{any_below, count_below}
use Rattle.chain_levels.specs.Reach.{loops, occurs}
use Rattle.chain_levels.specs.Rank.{level_of, skipped}
use Rattle.chain_levels.specs.Chain.{single_at, leads_at, factors, factors_at, fixed, singles_mode, group_mode}
use Rattle.chain_levels.proofs.Tests.{and_is, not_is, eqb_is, some_is, both_ways, refuted}
use Rattle.chain_levels.proofs.Below.{count_one, count_two, count_some, count_other}
use Rattle.chain_levels.proofs.Paths.{occurs_is, occurs_below}
use Rattle.chain_levels.proofs.Skipped.{StepOver, skipped_is}
use Rattle.chain_minimal.specs.Arranged.{group_no, mode_for}
use Rattle.chain_minimal.proofs.Groups.{At, single_at_lem, leader_at, leader_of}

-- The level of x has a name of another factor.
abbrev pub Crowded : Follow → ℕ → Type 0
Crowded f x = (w : ℕ) × (occurs f w ≡ true) × (level_of f w ≡ level_of f x) × (¬ (group_no f w ≡ group_no f x))

module _ (f : Follow) where
  pub mode_repeats : (x : ℕ) → repeats (mode_for f x) ≡ loops f x
  unfolding mode_for group_mode singles_mode repeats
  mode_repeats x = go (loops f x) (fixed f (level_of f x))
    where
      go : (a b : Bool) → repeats (cond a (cond b 2 3) (cond b 0 1)) ≡ a
      go true true = refl
      go true false = refl
      go false true = refl
      go false false = refl

  mode_optional : (x : ℕ) → optional (mode_for f x) ≡ not (fixed f (level_of f x))
  unfolding mode_for group_mode singles_mode optional
  mode_optional x = go (loops f x) (fixed f (level_of f x))
    where
      go : (a b : Bool) → optional (cond a (cond b 2 3) (cond b 0 1)) ≡ not b
      go true true = refl
      go true false = refl
      go false true = refl
      go false false = refl

  -- ---- how many factors a level has

  module _ (l : ℕ) where
    groups : ℕ
    groups = count_below f.names (leads_at f l)

    factors_are : (b : Bool) → any_below f.names (single_at f l) ≡ b → factors_at f l ≡ cond b 1 0 + groups
    unfolding factors factors_at groups
    factors_are b e = rw e

    below : (g x : ℕ) → At f l g x → x < f.names
    below g x a = occurs_below f x ((occurs_is f x).0 a.0)

    singles_there : (x : ℕ) → At f l 0 x → factors_at f l ≡ 1 + groups
    singles_there x a = factors_are true ((some_is f.names (single_at f l)).1 (x, below 0 x a, (single_at_lem f l x).1 a))

    group_there : (k x : ℕ) → At f l (suc k) x → (k < f.names) × (leads_at f l k ≡ true)
    group_there k x a = let b = leader_of f l k x a in (below (suc k) k b, (leader_at f l k).1 b)

    groups_one : (k x : ℕ) → At f l (suc k) x → 1 ≤ groups
    unfolding groups
    groups_one k x a = let p = group_there k x a in count_one f.names (leads_at f l) k p.0 p.1

    groups_two : (j k x y : ℕ) → At f l (suc j) x → At f l (suc k) y → j < k → 2 ≤ groups
    unfolding groups
    groups_two j k x y a b h = count_two f.names (leads_at f l) j k h (group_there k y b).0 (group_there j x a).1 (group_there k y b).1

    factors_low : groups ≤ factors_at f l
    factors_low = go (any_below f.names (single_at f l)) refl
      where
        go : (b : Bool) → any_below f.names (single_at f l) ≡ b → groups ≤ factors_at f l
        go true e = omega (arith, factors_are true e)
        go false e = omega (arith, factors_are false e)

    -- Two names with different numbers stand in two factors.
    pub two_factors : (g h x y : ℕ) → At f l g x → At f l h y → ¬ (g ≡ h) → 2 ≤ factors_at f l
    two_factors zero zero x y a b d = absurd (d refl)
    two_factors zero (suc k) x y a b d = omega (arith, singles_there x a, groups_one k y b)
    two_factors (suc j) zero x y a b d = omega (arith, singles_there y b, groups_one j x a)
    two_factors (suc j) (suc k) x y a b d = go (dec_lt j k)
      where
        go : Dec (j < k) → 2 ≤ factors_at f l
        go (yes h) = omega (arith, factors_low, groups_two j k x y a b h)
        go (no h) = omega (arith, factors_low, groups_two k j y x b a (omega arith))

    -- If the level has not just the factor of x then it has a name of another one.
    abbrev pub Other : ℕ → Type 0
    Other g = (w : ℕ) × (h : ℕ) × At f l h w × (¬ (h ≡ g))

    a_leader : (k : ℕ) → leads_at f l k ≡ true → (g : ℕ) → ¬ (suc k ≡ g) → Other g
    a_leader k e g d = (k, suc k, (leader_at f l k).0 e, d)

    pub other_factor : (g x : ℕ) → At f l g x → ¬ (factors_at f l ≡ 1) → Other g
    unfolding groups
    other_factor zero x a d =
        let k = count_some f.names (leads_at f l) (omega (arith, singles_there x a, d)) in
        a_leader k.0 k.2 0 (omega arith)
    other_factor (suc j) x a d = go (any_below f.names (single_at f l)) refl
      where
        go : (b : Bool) → any_below f.names (single_at f l) ≡ b → Other (suc j)
        go true e = let z = (some_is f.names (single_at f l)).0 e in (z.0, 0, (single_at_lem f l z.0).0 z.2, omega arith)
        go false e =
            let k = count_other f.names (leads_at f l) j (omega (arith, factors_are false e, groups_one j x a, d)) in
            a_leader k.0 k.2 (suc j) (λ q. k.3 (omega arith))

  -- ---- when a factor is optional

  pub fixed_is : (l : ℕ) → (fixed f l ≡ true) ↔ ((skipped f l ≡ false) × (factors_at f l ≡ 1))
  unfolding fixed
  fixed_is l = (
    λ e. let p = (and_is (not (skipped f l)) (eqb (factors_at f l) 1)).0 e in ((not_is (skipped f l)).0 p.0, (eqb_is (factors_at f l) 1).0 p.1),
    λ p. (and_is (not (skipped f l)) (eqb (factors_at f l) 1)).1 ((not_is (skipped f l)).1 p.0, (eqb_is (factors_at f l) 1).1 p.1),
  )

  pub optional_is : (x : ℕ) → occurs f x ≡ true → (optional (mode_for f x) ≡ true) ↔ (StepOver f (level_of f x) ⊎ Crowded f x)
  optional_is x o = (λ e. to ((not_is (fixed f (level_of f x))).0 (sym (mode_optional x) ∙ e)), λ p. mode_optional x ∙ (not_is (fixed f (level_of f x))).1 (from p))
    where
      here : At f (level_of f x) (group_no f x) x
      here = (o, refl, refl)

      to : fixed f (level_of f x) ≡ false → StepOver f (level_of f x) ⊎ Crowded f x
      to e = go (skipped f (level_of f x)) refl
        where
          go : (b : Bool) → skipped f (level_of f x) ≡ b → StepOver f (level_of f x) ⊎ Crowded f x
          go true q = inl ((skipped_is f (level_of f x)).0 q)
          go false q =
              let w = other_factor (level_of f x) (group_no f x) x here (λ c. both_ways (fixed f (level_of f x)) ((fixed_is (level_of f x)).1 (q, c)) e) in
              inr (w.0, w.2.0, w.2.1, λ r. w.3 (sym w.2.2 ∙ r))

      from : StepOver f (level_of f x) ⊎ Crowded f x → fixed f (level_of f x) ≡ false
      from (inl s) =
          refuted (fixed f (level_of f x)) (λ e. both_ways (skipped f (level_of f x)) ((skipped_is f (level_of f x)).1 s) ((fixed_is (level_of f x)).0 e).0)
      from (inr (w, ow, lw, d)) =
          refuted (fixed f (level_of f x))
          (λ e. omega (arith, ((fixed_is (level_of f x)).0 e).1, two_factors (level_of f x) (group_no f w) (group_no f x) w x (ow, lw, refl) here d))
