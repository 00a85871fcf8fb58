-- When a level is skipped, by the sets of the names below it and above it.
-- Assumes nothing.
use Prim.Native.Nat.{ℕ, ◌≤◌, ◌<◌}
use mathlib.Core.Path.{◌≡◌, refl, ◌∙◌}
use mathlib.Core.Bool.{Bool, true, false, ◌&&◌, ◌||◌, false≢true}
use mathlib.Core.Logic.{◌⊎◌, inl, inr, ⊎_elim, ◌↔◌}
use native.Mathlib.Omega.{arith}
use lib.Dec.{ltb}
use Rattle.nameset.proofs.Tests.{same_test}
use Rattle.follow.specs.Follow.{Follow}
use Rattle.chain_levels.specs.Below.{any_below}
use Rattle.chain_levels.specs.Rank.{level_of, last_level, skipped}
use Rattle.chain_peel.specs.Shown.{Shown}
use Rattle.chain_peel.specs.Sets.{is_lower, is_higher, meets, in_rows, steps_over}
use Rattle.chain_levels.proofs.Tests.{and_is, or_is, ltb_is, some_is}
use Rattle.chain_peel.proofs.Rows.{rows_is}
use Rattle.chain_peel.proofs.Reaching.{occurs_small, occurs_starts, occurs_after, edge_follows}
use Rattle.chain_peel.proofs.Peel.{lower_is, higher_is}

-- a test and two orders
three : (b : Bool) (i j k l : ℕ) → ((b && (ltb i j && ltb k l)) ≡ true) ↔ ((b ≡ true) × (i < j) × (k < l))
three b i j k l = (
  λ e. let p = (and_is b (ltb i j && ltb k l)).0 e in let q = (and_is (ltb i j) (ltb k l)).0 p.1 in (p.0, (ltb_is i j).0 q.0, (ltb_is k l).0 q.1),
  λ p. (and_is b (ltb i j && ltb k l)).1 (p.0, (and_is (ltb i j) (ltb k l)).1 ((ltb_is i j).1 p.1, (ltb_is k l).1 p.2)),
)

four : (a b c d : Bool) → ((a || (b || (c || d))) ≡ true) ↔ ((a ≡ true) ⊎ ((b ≡ true) ⊎ ((c ≡ true) ⊎ (d ≡ true))))
four true b c d = (λ e. inl refl, λ p. refl)
four false true c d = (λ e. inr (inl refl), λ p. refl)
four false false c d = (λ e. inr (inr ((or_is c d).0 e)), to)
  where
    to : (false ≡ true) ⊎ ((false ≡ true) ⊎ ((c ≡ true) ⊎ (d ≡ true))) → (c || d) ≡ true
    to (inl e) = absurd (false≢true cc)
    to (inr (inl e)) = absurd (false≢true cc)
    to (inr (inr p)) = (or_is c d).1 p

pub meets_is : (size : ℕ) (a b : ℕ → Bool) → (meets size a b ≡ true) ↔ ((x : ℕ) × (x < size) × (a x ≡ true) × (b x ≡ true))
unfolding meets
meets_is size a b = (
  λ e. let p = (some_is size (λ x. a x && b x)).0 e in let q = (and_is (a p.0) (b p.0)).0 p.2 in (p.0, p.1, q.0, q.1),
  λ p. (some_is size (λ x. a x && b x)).1 (p.0, p.1, (and_is (a p.0) (b p.0)).1 (p.2, p.3)),
)

-- ---- the four kinds of steps over a level

module _ (f : Follow) (l : ℕ) where
  empty_over : Bool
  empty_over = f.empty && (ltb 0 l && ltb l (last_level f))

  start_over : Bool
  start_over = any_below f.names (λ y. f.starts y && (ltb 0 l && ltb l (level_of f y)))

  end_over : Bool
  end_over = any_below f.names (λ x. f.ends x && (ltb (level_of f x) l && ltb l (last_level f)))

  inner_over : Bool
  inner_over = any_below f.names (λ x. any_below f.names (λ y. f.follows x y && (ltb (level_of f x) l && ltb l (level_of f y))))

  skipped_four : skipped f l ≡ (empty_over || (start_over || (end_over || inner_over)))
  unfolding skipped empty_over start_over end_over inner_over
  skipped_four = refl

  empty_is : (empty_over ≡ true) ↔ ((f.empty ≡ true) × (0 < l) × (l < last_level f))
  unfolding empty_over
  empty_is = three f.empty 0 l l (last_level f)

  start_is : (start_over ≡ true) ↔ ((y : ℕ) × (y < f.names) × ((f.starts y ≡ true) × (0 < l) × (l < level_of f y)))
  unfolding start_over
  start_is = (
    λ e. let p = (some_is f.names _).0 e in (p.0, p.1, (three (f.starts p.0) 0 l l (level_of f p.0)).0 p.2),
    λ p. (some_is f.names _).1 (p.0, p.1, (three (f.starts p.0) 0 l l (level_of f p.0)).1 p.2),
  )

  end_is : (end_over ≡ true) ↔ ((x : ℕ) × (x < f.names) × ((f.ends x ≡ true) × (level_of f x < l) × (l < last_level f)))
  unfolding end_over
  end_is = (
    λ e. let p = (some_is f.names _).0 e in (p.0, p.1, (three (f.ends p.0) (level_of f p.0) l l (last_level f)).0 p.2),
    λ p. (some_is f.names _).1 (p.0, p.1, (three (f.ends p.0) (level_of f p.0) l l (last_level f)).1 p.2),
  )

  inner_is : (inner_over ≡ true) ↔ ((x : ℕ) × (x < f.names) × ((y : ℕ) × (y < f.names) × ((f.follows x y ≡ true) × (level_of f x < l) × (l < level_of f y))))
  unfolding inner_over
  inner_is = (
    λ e.
        let p = (some_is f.names _).0 e in
        let q = (some_is f.names (λ y. f.follows p.0 y && (ltb (level_of f p.0) l && ltb l (level_of f y)))).0 p.2 in
        (p.0, p.1, (q.0, q.1, (three (f.follows p.0 q.0) (level_of f p.0) l l (level_of f q.0)).0 q.2)),
    λ p.
        let q = p.2 in
        (some_is f.names (λ x. any_below f.names (λ y. f.follows x y && (ltb (level_of f x) l && ltb l (level_of f y))))).1 (
          p.0,
          p.1,
          (some_is f.names (λ y. f.follows p.0 y && (ltb (level_of f p.0) l && ltb l (level_of f y)))).1
              (q.0, q.1, (three (f.follows p.0 q.0) (level_of f p.0) l l (level_of f q.0)).1 q.2),
        ),
  )

-- ---- the law

module _ (f : Follow) (s : Shown f) (size l : ℕ) (k : f.names ≤ size) (first : 0 < l) (last : l < last_level f) where
  -- a name that starts, or follows a lower one
  comes : ℕ → Bool
  comes y = f.starts y || in_rows size f.follows (is_lower f l) y

  to_start : (y : ℕ) → f.starts y ≡ true → l < level_of f y → meets size comes (is_higher f l) ≡ true
  unfolding comes
  to_start y e h =
      let n = s.starts y e in
      (meets_is size comes (is_higher f l)).1
      (y, omega arith, (or_is (f.starts y) (in_rows size f.follows (is_lower f l) y)).1 (inl e), (higher_is f l y).1 (occurs_starts f y n e, h))

  to_inner : (x y : ℕ) → f.follows x y ≡ true → level_of f x < l → l < level_of f y → meets size comes (is_higher f l) ≡ true
  unfolding comes
  to_inner x y e h i =
      let o = s.followed x y e in
      let n = s.follows x y e in
      (meets_is size comes (is_higher f l)).1 (
        y,
        omega arith,
        (or_is (f.starts y) (in_rows size f.follows (is_lower f l) y)).1
            (inr ((rows_is size f.follows (is_lower f l) y).1 (x, omega (arith, occurs_small f x o), (lower_is f l x).1 (o, h), e))),
        (higher_is f l y).1 (occurs_after f y x (edge_follows f s x y ∙ e), i),
      )

  to_end : (x : ℕ) → f.ends x ≡ true → level_of f x < l → meets size f.ends (is_lower f l) ≡ true
  to_end x e h = let o = s.ended x e in (meets_is size f.ends (is_lower f l)).1 (x, omega (arith, occurs_small f x o), e, (lower_is f l x).1 (o, h))

  over : Bool
  over = f.empty || (meets size f.ends (is_lower f l) || meets size comes (is_higher f l))

  to : (empty_over f l ≡ true) ⊎ ((start_over f l ≡ true) ⊎ ((end_over f l ≡ true) ⊎ (inner_over f l ≡ true))) → over ≡ true
  unfolding over
  to (inl e) = (or_is f.empty _).1 (inl ((empty_is f l).0 e).0)
  to (inr (inl e)) = let p = (start_is f l).0 e in (or_is f.empty _).1 (inr ((or_is (meets size f.ends (is_lower f l)) _).1 (inr (to_start p.0 p.2.0 p.2.2))))
  to (inr (inr (inl e))) = let p = (end_is f l).0 e in (or_is f.empty _).1 (inr ((or_is (meets size f.ends (is_lower f l)) _).1 (inl (to_end p.0 p.2.0 p.2.1))))
  to (inr (inr (inr e))) =
      let p = (inner_is f l).0 e in
      let q = p.2 in
      (or_is f.empty _).1 (inr ((or_is (meets size f.ends (is_lower f l)) _).1 (inr (to_inner p.0 q.0 q.2.0 q.2.1 q.2.2))))

  abbrev Over : Type 0
  Over = (empty_over f l ≡ true) ⊎ ((start_over f l ≡ true) ⊎ ((end_over f l ≡ true) ⊎ (inner_over f l ≡ true)))

  from_end : ((x : ℕ) × (x < size) × (f.ends x ≡ true) × (is_lower f l x ≡ true)) → Over
  from_end (x, h, e, p) = let o = (lower_is f l x).0 p in inr (inr (inl ((end_is f l).1 (x, occurs_small f x o.0, (e, o.1, last)))))

  from_comes : (y : ℕ) → is_higher f l y ≡ true → (f.starts y ≡ true) ⊎ (in_rows size f.follows (is_lower f l) y ≡ true) → Over
  from_comes y p (inl e) = let o = (higher_is f l y).0 p in inr (inl ((start_is f l).1 (y, occurs_small f y o.0, (e, first, o.1))))
  from_comes y p (inr e) =
      let o = (higher_is f l y).0 p in
      let r = (rows_is size f.follows (is_lower f l) y).0 e in
      let q = (lower_is f l r.0).0 r.2 in
      inr (inr (inr ((inner_is f l).1 (r.0, occurs_small f r.0 q.0, (y, occurs_small f y o.0, (r.3, q.1, o.1))))))

  from_meets : ((y : ℕ) × (y < size) × (comes y ≡ true) × (is_higher f l y ≡ true)) → Over
  unfolding comes
  from_meets (y, h, e, p) = from_comes y p ((or_is (f.starts y) (in_rows size f.follows (is_lower f l) y)).0 e)

  from : over ≡ true → Over
  unfolding over
  from e =
      ⊎_elim (λ q. inl ((empty_is f l).1 (q, first, last)))
      (λ q. ⊎_elim (λ r. from_end ((meets_is size f.ends (is_lower f l)).0 r)) (λ r. from_meets ((meets_is size comes (is_higher f l)).0 r)) ((or_is (meets size f.ends (is_lower f l)) (meets size comes (is_higher f l))).0 q))
      ((or_is f.empty (meets size f.ends (is_lower f l) || meets size comes (is_higher f l))).0 e)

  same_over : skipped f l ≡ over
  same_over =
      skipped_four f l
      ∙ same_test (empty_over f l || (start_over f l || (end_over f l || inner_over f l))) over
      (λ e. to ((four (empty_over f l) (start_over f l) (end_over f l) (inner_over f l)).0 e))
      (λ e. (four (empty_over f l) (start_over f l) (end_over f l) (inner_over f l)).1 (from e))

  pub skipped_over : skipped f l ≡ steps_over size f.empty f.starts f.ends f.follows (is_lower f l) (is_higher f l)
  unfolding steps_over over comes
  skipped_over = same_over
