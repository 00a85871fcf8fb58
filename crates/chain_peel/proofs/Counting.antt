-- How many factors a chain under construction has: no more than there are names.
-- Assumes nothing.
use Prim.Native.Nat.{ℕ, zero, suc, ◌+◌, ◌≤◌}
use mathlib.Core.Path.{◌≡◌, refl}
use mathlib.Core.Bool.{Bool, true, false, cond, ◌&&◌, not}
use native.Mathlib.Omega.{arith}
use borrow.Author.Tests.{leb-true, le-leb}
use lib.Dec.{eqb, leb}
use Rattle.model.specs.declared.Chain.{Chain}
use Rattle.model.specs.Record.{empty_chain}
use Rattle.model.specs.Build.{with_factor}
use Rattle.follow.specs.Follow.{Follow}
use Rattle.chain_levels.specs.Below.{any_below, count_below}
use Rattle.chain_levels.specs.Reach.{loops, occurs, leads, is_single, same_group}
use Rattle.chain_levels.specs.Rank.{level_of}
use Rattle.chain_levels.specs.Chain.{single_at, leads_at, factors, factors_at, fixed, singles_mode, group_mode, with_any, with_each, with_both, with_level, chain_to}
use Rattle.chain_levels.proofs.Tests.{and_is, not_is, eqb_is, both_ways}
use Rattle.chain_levels.proofs.Below.{count_all, count_join, some_count}
use Rattle.chain_peel.proofs.Peel.{leads_loops}

-- the number of factors after one more, or none
appended : (b : Bool) (m : Chain) (holds : ℕ → Bool) (mode : ℕ) → (cond b (with_factor m holds mode) m).count ≡ m.count + cond b 1 0
unfolding with_factor
appended true m holds mode = refl
appended false m holds mode = omega arith

pub any_count : (n : ℕ) (names : ℕ → Bool) (mode : ℕ) (m : Chain) → (with_any n names mode m).count ≡ m.count + cond (any_below n names) 1 0
unfolding with_any
any_count n names mode m = appended (any_below n names) m names mode

pub each_count : (leaders : ℕ → Bool) (group : ℕ → ℕ → Bool) (mode k : ℕ) (m : Chain) → (with_each leaders group mode k m).count ≡ m.count + count_below k leaders
unfolding with_each count_below
each_count leaders group mode zero m = omega arith
each_count leaders group mode (suc k) m = omega (arith, appended (leaders k) (with_each leaders group mode k m) (group k) mode, each_count leaders group mode k m)

module _ (f : Follow) where
  single_is : (l x : ℕ) → single_at f l x ≡ true → (loops f x ≡ false) × (level_of f x ≡ l)
  unfolding single_at is_single
  single_is l x e =
      let p = (and_is (occurs f x && not (loops f x)) (eqb (level_of f x) l)).0 e in
      ((not_is (loops f x)).0 ((and_is (occurs f x) (not (loops f x))).0 p.0).1, (eqb_is (level_of f x) l).0 p.1)

  leads_is : (l x : ℕ) → leads_at f l x ≡ true → (loops f x ≡ true) × (level_of f x ≡ l)
  unfolding leads_at
  leads_is l x e =
      let p = (and_is (leads f x) (eqb (level_of f x) l)).0 e in
      (leads_loops f x p.0, (eqb_is (level_of f x) l).0 p.1)

  -- those of a level, and those up to it
  upto : ℕ → ℕ → Bool
  upto l x = leb (level_of f x) l

  on : ℕ → ℕ → Bool
  on l x = eqb (level_of f x) l

  level_count : (l : ℕ) → count_below f.names (single_at f l) + count_below f.names (leads_at f l) ≤ count_below f.names (on l)
  unfolding on
  level_count l =
      count_join f.names (single_at f l) (leads_at f l) (on l) (λ x h p q. both_ways (loops f x) (leads_is l x q).0 (single_is l x p).0)
      (λ x h p. (eqb_is (level_of f x) l).1 (single_is l x p).1) (λ x h p. (eqb_is (level_of f x) l).1 (leads_is l x p).1)

  upto_count : (l : ℕ) → count_below f.names (upto l) + count_below f.names (on (suc l)) ≤ count_below f.names (upto (suc l))
  unfolding upto on
  upto_count l =
      count_join f.names (upto l) (on (suc l)) (upto (suc l))
      (λ x h p q. omega (arith, leb-true (level_of f x) l p, (eqb_is (level_of f x) (suc l)).0 q))
      (λ x h p. le-leb (level_of f x) (suc l) (omega (arith, leb-true (level_of f x) l p)))
      (λ x h q. le-leb (level_of f x) (suc l) (omega (arith, (eqb_is (level_of f x) (suc l)).0 q)))

  module _ (size : ℕ) where
    bound : (l : ℕ) → (chain_to size f l).count ≤ count_below f.names (upto l)
    unfolding chain_to empty_chain with_level with_both
    bound zero = omega arith
    bound (suc l) =
        omega (
          arith,
          bound l,
          any_count f.names (single_at f (suc l)) (singles_mode (fixed f (suc l))) (chain_to size f l),
          each_count (leads_at f (suc l)) (same_group f) (group_mode (fixed f (suc l))) f.names
              (with_any f.names (single_at f (suc l)) (singles_mode (fixed f (suc l))) (chain_to size f l)),
          some_count f.names (single_at f (suc l)),
          level_count (suc l),
          upto_count l,
        )

    -- there is a place for each factor of the next level
    pub level_room : (l : ℕ) → (chain_to size f l).count + factors_at f (suc l) ≤ f.names
    unfolding factors factors_at
    level_room l =
        omega (
          arith,
          bound l,
          some_count f.names (single_at f (suc l)),
          level_count (suc l),
          upto_count l,
          count_all f.names (upto (suc l)),
        )
