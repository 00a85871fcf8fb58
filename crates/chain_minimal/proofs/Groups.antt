-- Singles and loop groups by number: which names a factor of a level holds.
-- Assumes nothing.
use Prim.Native.Nat.{ℕ, suc, ◌≤◌}
use mathlib.Core.Path.{◌≡◌, refl, sym, ◌∙◌, ap, fun_ext}
use mathlib.Core.Bool.{Bool, true, false, cond, ◌&&◌, not}
use mathlib.Core.Logic.{◌↔◌}
use native.Mathlib.Omega.{arith}
use lib.Dec.{eqb}
use Rattle.nameset.proofs.Tests.{same_test}
use Rattle.follow.specs.Follow.{Follow}
use Rattle.chain_levels.specs.Below.{first_below}
use Rattle.chain_levels.specs.Reach.{same_group, loops, leads, occurs, is_single}
use Rattle.chain_levels.specs.Rank.{level_of}
use Rattle.chain_levels.specs.Chain.{single_at, leads_at, fixed, singles_mode, group_mode}
use Rattle.chain_levels.proofs.Tests.{and_is, not_is, eqb_is}
use Rattle.chain_levels.proofs.Below.{first_is}
use Rattle.chain_levels.proofs.Reach.{group_reach, group_sym, group_trans, loops_group, group_loops, group_below}
use Rattle.chain_levels.proofs.Carry.{reach_occurs}
use Rattle.chain_levels.proofs.Paths.{occurs_is}
use Rattle.chain_levels.proofs.Levels.{group_level}
use Rattle.chain_minimal.specs.Arranged.{group_no, mode_for}

-- The name x occurs, on level l, and its number there is g.
abbrev pub At : Follow → ℕ → ℕ → ℕ → Type 0
At f l g x = (occurs f x ≡ true) × (level_of f x ≡ l) × (group_no f x ≡ g)

module _ (f : Follow) where
  -- The smallest number of the loop group of x.
  abbrev pub least : ℕ → ℕ
  least x = first_below f.names (same_group f x)

  pub number_single : (x : ℕ) → loops f x ≡ false → group_no f x ≡ 0
  unfolding group_no
  number_single x e = rw e

  pub number_loop : (x : ℕ) → loops f x ≡ true → group_no f x ≡ suc (least x)
  unfolding group_no
  number_loop x e = rw e

  -- A name is a single if its number is 0, and else in a loop group whose smallest number is one less.
  pub single_number : (x : ℕ) → group_no f x ≡ 0 → loops f x ≡ false
  single_number x e = go (loops f x) refl
    where
      go : (b : Bool) → loops f x ≡ b → b ≡ false
      go true p = absurd (omega (arith, number_loop x p))
      go false p = refl

  pub loop_number : (x k : ℕ) → group_no f x ≡ suc k → (loops f x ≡ true) × (least x ≡ k)
  loop_number x k e = go (loops f x) refl
    where
      go : (b : Bool) → loops f x ≡ b → (loops f x ≡ true) × (least x ≡ k)
      go true p = (p, omega (arith, number_loop x p))
      go false p = absurd (omega (arith, number_single x p))

  -- The smallest name of a name's loop group is in that group.
  pub least_in : (x : ℕ) → loops f x ≡ true → same_group f x (least x) ≡ true
  least_in x e = first_is f.names (same_group f x) x (group_below f x x (loops_group f x e)) (loops_group f x e)

  least_same : (x y : ℕ) → same_group f x y ≡ true → least x ≡ least y
  least_same x y e =
      ap (first_below f.names)
      (fun_ext (λ z. same_test (same_group f x z) (same_group f y z) (group_trans f y x z (group_sym f x y e)) (group_trans f x y z e)))

  pub number_same : (x y : ℕ) → same_group f x y ≡ true → group_no f x ≡ group_no f y
  number_same x y e =
      number_loop x (group_loops f x y e) ∙ ap suc (least_same x y e) ∙ sym (number_loop y (group_loops f y x (group_sym f x y e)))

  -- Names of loop groups that have one number are in one loop group.
  pub same_number : (x y : ℕ) → loops f x ≡ true → group_no f x ≡ group_no f y → same_group f x y ≡ true
  same_number x y e p =
      let q = loop_number y (least x) (sym p ∙ number_loop x e) in
      let r : same_group f y (least x) ≡ true = ap (same_group f y) (sym q.1) ∙ least_in y q.0 in
      group_trans f x (least x) y (least_in x e) (group_sym f y (least x) r)

  pub number_low : (x : ℕ) → group_no f x ≤ f.names
  number_low x = go (loops f x) refl
    where
      go : (b : Bool) → loops f x ≡ b → group_no f x ≤ f.names
      go true p = omega (arith, number_loop x p, group_below f (least x) x (group_sym f x (least x) (least_in x p)))
      go false p = omega (arith, number_single x p)

  -- A name of a loop group occurs.
  pub loop_occurs : (x : ℕ) → loops f x ≡ true → occurs f x ≡ true
  loop_occurs x e = (occurs_is f x).1 (reach_occurs ((group_reach f x x).0 (loops_group f x e)).0)

  -- ---- the singles of level l

  pub single_at_lem : (l x : ℕ) → (single_at f l x ≡ true) ↔ At f l 0 x
  unfolding single_at is_single
  single_at_lem l x = (
    λ e.
        let p = (and_is (occurs f x && not (loops f x)) (eqb (level_of f x) l)).0 e in
        let q = (and_is (occurs f x) (not (loops f x))).0 p.0 in
        (q.0, (eqb_is (level_of f x) l).0 p.1, number_single x ((not_is (loops f x)).0 q.1)),
    λ a.
        (and_is (occurs f x && not (loops f x)) (eqb (level_of f x) l)).1
        ((and_is (occurs f x) (not (loops f x))).1 (a.0, (not_is (loops f x)).1 (single_number x a.2)), (eqb_is (level_of f x) l).1 a.1),
  )

  -- ---- the loop group of level l whose smallest number is k

  leads_is : (k : ℕ) → (leads f k ≡ true) ↔ ((loops f k ≡ true) × (least k ≡ k))
  unfolding leads
  leads_is k = (
    λ e. let p = (and_is (loops f k) (eqb (least k) k)).0 e in (p.0, (eqb_is (least k) k).0 p.1),
    λ p. (and_is (loops f k) (eqb (least k) k)).1 (p.0, (eqb_is (least k) k).1 p.1),
  )

  pub leader_at : (l k : ℕ) → (leads_at f l k ≡ true) ↔ At f l (suc k) k
  unfolding leads_at
  leader_at l k = (
    λ e.
        let p = (and_is (leads f k) (eqb (level_of f k) l)).0 e in
        let q = (leads_is k).0 p.0 in
        (loop_occurs k q.0, (eqb_is (level_of f k) l).0 p.1, number_loop k q.0 ∙ ap suc q.1),
    λ a. (and_is (leads f k) (eqb (level_of f k) l)).1 ((leads_is k).1 (loop_number k k a.2), (eqb_is (level_of f k) l).1 a.1),
  )

  -- If any name has the number k + 1 then k has.
  pub leader_of : (l k x : ℕ) → At f l (suc k) x → At f l (suc k) k
  leader_of l k x (o, e, p) =
      let q = loop_number x k p in
      let s : same_group f x k ≡ true = ap (same_group f x) (sym q.1) ∙ least_in x q.0 in
      (loop_occurs k (group_loops f k x (group_sym f x k s)), sym (group_level f x k s) ∙ e, sym (number_same x k s) ∙ p)

  pub group_at : (l k : ℕ) → At f l (suc k) k → (x : ℕ) → (same_group f k x ≡ true) ↔ At f l (suc k) x
  group_at l k (o, e, p) x = (
    λ s. (loop_occurs x (group_loops f x k (group_sym f k x s)), sym (group_level f k x s) ∙ e, sym (number_same k x s) ∙ p),
    λ a. same_number k x (loop_number k k p).0 (p ∙ sym a.2),
  )

  -- ---- modes

  pub single_mode : (l x : ℕ) → At f l 0 x → mode_for f x ≡ singles_mode (fixed f l)
  unfolding mode_for
  single_mode l x (o, e, p) = rw (single_number x p, e)

  pub group_mode_lem : (l k x : ℕ) → At f l (suc k) x → mode_for f x ≡ group_mode (fixed f l)
  unfolding mode_for
  group_mode_lem l k x (o, e, p) = rw ((loop_number x k p).0, e)

  pub mode_low : (x : ℕ) → mode_for f x ≤ 3
  unfolding mode_for group_mode singles_mode
  mode_low x = go (loops f x) (fixed f (level_of f x))
    where
      go : (a b : Bool) → cond a (cond b 2 3) (cond b 0 1) ≤ 3
      go true true = omega arith
      go true false = omega arith
      go false true = omega arith
      go false false = omega arith
