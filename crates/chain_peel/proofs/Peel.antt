-- Of the names above a level, those that stand behind none of the others form the next level.
-- Assumes nothing.
use Prim.Native.Nat.{ℕ, zero, suc, ◌+◌, ◌-◌, ◌≤◌, ◌<◌}
use mathlib.Core.Path.{◌≡◌, refl}
use mathlib.Core.Bool.{Bool, true, false, ◌&&◌, ◌||◌, not, and-true}
use mathlib.Core.Logic.{◌⊎◌, inl, inr, ⊎_elim, ◌↔◌}
use native.Mathlib.Omega.{arith}
use native.Mathlib.Decide.{ℕ_discrete, dec_lt}
use lib.Dec.{ltb, eqb}
use Rattle.nameset.proofs.Tests.{same_test}
use Rattle.follow.specs.Follow.{Follow}
use Rattle.chain_levels.specs.Reach.{reaches, loops, occurs, leads, is_single}
use Rattle.chain_levels.specs.Rank.{is_before, level_of, last_level}
use Rattle.chain_levels.specs.Chain.{single_at, leads_at}
use Rattle.chain_peel.specs.Shown.{Shown}
use Rattle.chain_peel.specs.Sets.{is_lower, is_at, is_higher, in_rows}
use Rattle.chain_levels.proofs.Tests.{and_is, or_is, not_is, ltb_is, eqb_is, refuted, both_ways}
use Rattle.chain_levels.proofs.Below.{largest_bounds, largest_most}
use Rattle.chain_levels.proofs.Levels.{before_is, level_low, level_most, before_rises, level_has, reach_level}
use Rattle.chain_peel.proofs.Rows.{rows_is}
use Rattle.chain_peel.proofs.Reaching.{occurs_small, occurs_reached, occurs_reaching}

module _ (f : Follow) where
  pub lower_is : (l x : ℕ) → (is_lower f l x ≡ true) ↔ ((occurs f x ≡ true) × (level_of f x < l))
  unfolding is_lower
  lower_is l x = (
    λ e. let p = (and_is (occurs f x) (ltb (level_of f x) l)).0 e in (p.0, (ltb_is (level_of f x) l).0 p.1),
    λ p. (and_is (occurs f x) (ltb (level_of f x) l)).1 (p.0, (ltb_is (level_of f x) l).1 p.1),
  )

  pub at_is : (l x : ℕ) → (is_at f l x ≡ true) ↔ ((occurs f x ≡ true) × (level_of f x ≡ l))
  unfolding is_at
  at_is l x = (
    λ e. let p = (and_is (occurs f x) (eqb (level_of f x) l)).0 e in (p.0, (eqb_is (level_of f x) l).0 p.1),
    λ p. (and_is (occurs f x) (eqb (level_of f x) l)).1 (p.0, (eqb_is (level_of f x) l).1 p.1),
  )

  pub higher_is : (l x : ℕ) → (is_higher f l x ≡ true) ↔ ((occurs f x ≡ true) × (l < level_of f x))
  unfolding is_higher
  higher_is l x = (
    λ e. let p = (and_is (occurs f x) (ltb l (level_of f x))).0 e in (p.0, (ltb_is l (level_of f x)).0 p.1),
    λ p. (and_is (occurs f x) (ltb l (level_of f x))).1 (p.0, (ltb_is l (level_of f x)).1 p.1),
  )

  -- ---- the sets from level to level

  pub higher_first : (x : ℕ) → is_higher f 0 x ≡ occurs f x
  higher_first x =
      same_test (is_higher f 0 x) (occurs f x) (λ e. ((higher_is 0 x).0 e).0) (λ e. (higher_is 0 x).1 (e, level_low f x (occurs_small f x e)))

  pub lower_first : (x : ℕ) → is_lower f 1 x ≡ false
  lower_first x =
      refuted (is_lower f 1 x) (λ e. let p = (lower_is 1 x).0 e in absurd (omega (arith, level_low f x (occurs_small f x p.0), p.1)))

  pub higher_next : (l x : ℕ) → is_higher f (suc l) x ≡ (is_higher f l x && not (is_at f (suc l) x))
  higher_next l x =
      same_test (is_higher f (suc l) x) (is_higher f l x && not (is_at f (suc l) x))
      (λ e.
      let p = (higher_is (suc l) x).0 e in
      (and_is (is_higher f l x) (not (is_at f (suc l) x))).1 (
        (higher_is l x).1 (p.0, omega (arith, p.1)),
        (not_is (is_at f (suc l) x)).1 (refuted (is_at f (suc l) x) (λ q. omega (arith, p.1, ((at_is (suc l) x).0 q).1))),
      ))
      (λ e.
      let p = (and_is (is_higher f l x) (not (is_at f (suc l) x))).0 e in
      let h = (higher_is l x).0 p.0 in
      (higher_is (suc l) x).1 (h.0, above h.0 h.1 ((not_is (is_at f (suc l) x)).0 p.1) (ℕ_discrete (level_of f x) (suc l))))
    where
      above : occurs f x ≡ true → l < level_of f x → is_at f (suc l) x ≡ false → Dec (level_of f x ≡ suc l) → suc l < level_of f x
      above o h q (yes e) = absurd (both_ways (is_at f (suc l) x) ((at_is (suc l) x).1 (o, e)) q)
      above o h q (no e) = omega arith

  pub lower_next : (l x : ℕ) → is_lower f (suc l) x ≡ (is_lower f l x || is_at f l x)
  lower_next l x =
      same_test (is_lower f (suc l) x) (is_lower f l x || is_at f l x)
      (λ e. let p = (lower_is (suc l) x).0 e in (or_is (is_lower f l x) (is_at f l x)).1 (split p.0 p.1 (dec_lt (level_of f x) l)))
      (λ e.
      (lower_is (suc l) x).1
      (⊎_elim {C = (occurs f x ≡ true) × (level_of f x < suc l)} (λ q. let p = (lower_is l x).0 q in (p.0, omega (arith, p.1))) (λ q. let p = (at_is l x).0 q in (p.0, omega (arith, p.1)))
      ((or_is (is_lower f l x) (is_at f l x)).0 e)))
    where
      split : occurs f x ≡ true → level_of f x < suc l → Dec (level_of f x < l) → (is_lower f l x ≡ true) ⊎ (is_at f l x ≡ true)
      split o h (yes q) = inl ((lower_is l x).1 (o, q))
      split o h (no q) = inr ((at_is l x).1 (o, omega arith))

  -- ---- singles and loop groups of a level

  shuffle : (a b c : Bool) → ((a && b) && c) ≡ ((a && c) && b)
  shuffle true b true = and-true b
  shuffle true true false = refl
  shuffle true false false = refl
  shuffle false b c = refl

  pub single_at_lem : (l x : ℕ) → single_at f l x ≡ (is_at f l x && not (loops f x))
  unfolding single_at is_single is_at
  single_at_lem l x = shuffle (occurs f x) (not (loops f x)) (eqb (level_of f x) l)

  pub leads_loops : (x : ℕ) → leads f x ≡ true → loops f x ≡ true
  unfolding leads
  leads_loops x e = ((and_is (loops f x) _).0 e).0

  pub loops_occurs : (x : ℕ) → loops f x ≡ true → occurs f x ≡ true
  unfolding loops
  loops_occurs x e = occurs_reached f x x e

  pub leads_at_lem : (l x : ℕ) → leads_at f l x ≡ (is_at f l x && leads f x)
  unfolding leads_at
  leads_at_lem l x =
      same_test (leads f x && eqb (level_of f x) l) (is_at f l x && leads f x)
      (λ e.
      let p = (and_is (leads f x) (eqb (level_of f x) l)).0 e in
      (and_is (is_at f l x) (leads f x)).1 ((at_is l x).1 (loops_occurs x (leads_loops x p.0), (eqb_is (level_of f x) l).0 p.1), p.0))
      (λ e.
      let p = (and_is (is_at f l x) (leads f x)).0 e in
      (and_is (leads f x) (eqb (level_of f x) l)).1 (p.1, (eqb_is (level_of f x) l).1 ((at_is l x).0 p.0).1))

  module _ (s : Shown f) where
    -- ---- the next level

    pub peel : (size l : ℕ) → f.names ≤ size → (x : ℕ) → is_at f (suc l) x ≡ (is_higher f l x && not (in_rows size (is_before f) (is_higher f l) x))
    peel size l k x =
        same_test (is_at f (suc l) x) (is_higher f l x && not (in_rows size (is_before f) (is_higher f l) x))
        (λ e.
        let p = (at_is (suc l) x).0 e in
        (and_is (is_higher f l x) (not (in_rows size (is_before f) (is_higher f l) x))).1 (
          (higher_is l x).1 (p.0, omega (arith, p.1)),
          (not_is (in_rows size (is_before f) (is_higher f l) x)).1 (refuted (in_rows size (is_before f) (is_higher f l) x) (λ q. behind p.1 ((rows_is size (is_before f) (is_higher f l) x).0 q))),
        ))
        (λ e.
        let p = (and_is (is_higher f l x) (not (in_rows size (is_before f) (is_higher f l) x))).0 e in
        let h = (higher_is l x).0 p.0 in
        (at_is (suc l) x).1 (h.0, lowest h.0 h.1 ((not_is (in_rows size (is_before f) (is_higher f l) x)).0 p.1) (level_of f x) refl))
      where
        behind : level_of f x ≡ suc l → ((y : ℕ) × (y < size) × (is_higher f l y ≡ true) × (is_before f y x ≡ true)) → ⊥
        behind e (y, h, p, q) = omega (arith, before_rises f y x q, ((higher_is l y).0 p).1)

        found : (m : ℕ) → l ≤ m → level_of f x ≡ suc (suc m) → occurs f x ≡ true → in_rows size (is_before f) (is_higher f l) x ≡ true
        found m h e o =
            let r = level_has f x m (occurs_small f x o) e in
            let t = (before_is f r.0 x).0 r.2 in
            (rows_is size (is_before f) (is_higher f l) x).1 (
              r.0,
              omega (arith, r.1),
              (higher_is l r.0).1 (occurs_reaching f s r.0 x t.0, omega (arith, r.3)),
              r.2,
            )

        lowest : occurs f x ≡ true → l < level_of f x → in_rows size (is_before f) (is_higher f l) x ≡ false → (v : ℕ) → level_of f x ≡ v → level_of f x ≡ suc l
        lowest o h q zero e = absurd (omega arith)
        lowest o h q (suc zero) e = omega arith
        lowest o h q (suc (suc m)) e = go (dec_lt m l)
          where
            go : Dec (m < l) → level_of f x ≡ suc l
            go (yes k) = omega arith
            go (no k) = absurd (both_ways (in_rows size (is_before f) (is_higher f l) x) (found m (omega arith) e o) q)

    -- ---- the number of levels

    ends_most : (x : ℕ) → f.ends x ≡ true → level_of f x ≤ last_level f - 1
    unfolding last_level
    ends_most x e = omega (arith, largest_bounds f.names f.ends (level_of f) x (occurs_small f x (s.ended x e)) e)

    -- while a name is left, there is one level more
    pub level_left : (l x : ℕ) → is_higher f l x ≡ true → (l < last_level f - 1) × (l < f.names)
    level_left l x e =
        let p = (higher_is l x).0 e in
        (omega (arith, p.1, most (s.onward x p.0)), omega (arith, p.1, level_most f x))
      where
        most : (f.ends x ≡ true) ⊎ ((b : ℕ) × (reaches f x b ≡ true) × (f.ends b ≡ true)) → level_of f x ≤ last_level f - 1
        most (inl q) = ends_most x q
        most (inr (b, r, q)) = omega (arith, reach_level f x b r, ends_most b q)

    -- where no name is left, there is none
    pub level_none : (l : ℕ) → ((x : ℕ) → is_higher f l x ≡ false) → last_level f - 1 ≤ l
    unfolding last_level
    level_none l h = omega (arith, largest_most f.names f.ends (level_of f) l (λ x k e. low x e (dec_lt l (level_of f x))))
      where
        low : (x : ℕ) → f.ends x ≡ true → Dec (l < level_of f x) → level_of f x ≤ l
        low x e (yes q) = absurd (both_ways (is_higher f l x) ((higher_is l x).1 (s.ended x e, q)) (h x))
        low x e (no q) = omega arith

    -- and a name on that level
    pub level_found : (l d x : ℕ) → occurs f x ≡ true → level_of f x ≡ suc (l + d) → (y : ℕ) × (is_at f (suc l) y ≡ true)
    level_found l zero x o e = (x, (at_is (suc l) x).1 (o, omega arith))
    level_found l (suc d) x o e =
        let r = level_has f x (l + d) (occurs_small f x o) (omega arith) in
        level_found l d r.0 (occurs_reaching f s r.0 x ((before_is f r.0 x).0 r.2).0) r.3
