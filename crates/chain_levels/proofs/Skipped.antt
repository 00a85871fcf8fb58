-- The executable test finds a level skipped exactly when some step goes from a lower to a higher executable level.
-- Assumes nothing.
use Prim.Native.Nat.{ℕ, ◌<◌}
use mathlib.Core.Path.{◌≡◌}
use mathlib.Core.Bool.{Bool, true, ◌&&◌, ◌||◌}
use mathlib.Core.Logic.{◌⊎◌, inl, inr, ◌↔◌}
use lib.Dec.{ltb}
use Rattle.model_language.specs.Word.{Point, start, name, end}
use Rattle.follow.specs.Follow.{Follow, steps}
use Rattle.chain_levels.specs.Below.{any_below}
use Rattle.chain_levels.specs.Rank.{level_of, last_level, skipped}
use Rattle.chain_levels.proofs.Tests.{and_is, or_is, ltb_is, some_is}
use Rattle.chain_levels.proofs.Levels.{level}

-- Some step goes from a lower to a higher level than l, by executable levels.
abbrev pub StepOver : Follow → ℕ → Type 0
StepOver f l = (u : Point) × (v : Point) × steps f u v × (level f u < l) × (l < level f v)

-- A fact, and l strictly between two levels.
over : (b : Bool) (i l j : ℕ) → ((b && (ltb i l && ltb l j)) ≡ true) ↔ ((b ≡ true) × (i < l) × (l < j))
over b i l j = (
  λ e.
      let p = (and_is b (ltb i l && ltb l j)).0 e in
      let q = (and_is (ltb i l) (ltb l j)).0 p.1 in
      (p.0, (ltb_is i l).0 q.0, (ltb_is l j).0 q.1),
  λ a. (and_is b (ltb i l && ltb l j)).1 (a.0, (and_is (ltb i l) (ltb l j)).1 ((ltb_is i l).1 a.1, (ltb_is l j).1 a.2)),
)

one_of_four : (a b c d : Bool) → ((a || (b || (c || d))) ≡ true) ↔ ((a ≡ true) ⊎ ((b ≡ true) ⊎ ((c ≡ true) ⊎ (d ≡ true))))
one_of_four a b c d = (λ e. first ((or_is a (b || (c || d))).0 e), λ p. (or_is a (b || (c || d))).1 (back p))
  where
    second : (b ≡ true) ⊎ ((c || d) ≡ true) → (b ≡ true) ⊎ ((c ≡ true) ⊎ (d ≡ true))
    second (inl e) = inl e
    second (inr e) = inr ((or_is c d).0 e)

    first : (a ≡ true) ⊎ ((b || (c || d)) ≡ true) → (a ≡ true) ⊎ ((b ≡ true) ⊎ ((c ≡ true) ⊎ (d ≡ true)))
    first (inl e) = inl e
    first (inr e) = inr (second ((or_is b (c || d)).0 e))

    back_two : (b ≡ true) ⊎ ((c ≡ true) ⊎ (d ≡ true)) → (b ≡ true) ⊎ ((c || d) ≡ true)
    back_two (inl e) = inl e
    back_two (inr p) = inr ((or_is c d).1 p)

    back : (a ≡ true) ⊎ ((b ≡ true) ⊎ ((c ≡ true) ⊎ (d ≡ true))) → (a ≡ true) ⊎ ((b || (c || d)) ≡ true)
    back (inl e) = inl e
    back (inr p) = inr ((or_is b (c || d)).1 (back_two p))

module _ (f : Follow) (l : ℕ) where
  whole : Bool
  whole = f.empty && (ltb 0 l && ltb l (last_level f))

  from_start : ℕ → Bool
  from_start y = f.starts y && (ltb 0 l && ltb l (level_of f y))

  to_end : ℕ → Bool
  to_end x = f.ends x && (ltb (level_of f x) l && ltb l (last_level f))

  inner : ℕ → ℕ → Bool
  inner x y = f.follows x y && (ltb (level_of f x) l && ltb l (level_of f y))

  abbrev Found : Type 0
  Found = (whole ≡ true) ⊎ ((any_below f.names from_start ≡ true) ⊎ ((any_below f.names to_end ≡ true) ⊎ (any_below f.names (λ x. any_below f.names (inner x)) ≡ true)))

  found : Found → StepOver f l
  unfolding whole from_start to_end inner
  found (inl e) = let p = (over f.empty 0 l (last_level f)).0 e in (start, end, p.0, p.1, p.2)
  found (inr (inl e)) =
      let k = (some_is f.names from_start).0 e in
      let p = (over (f.starts k.0) 0 l (level_of f k.0)).0 k.2 in
      (start, name k.0, (k.1, p.0), p.1, p.2)
  found (inr (inr (inl e))) =
      let k = (some_is f.names to_end).0 e in
      let p = (over (f.ends k.0) (level_of f k.0) l (last_level f)).0 k.2 in
      (name k.0, end, (k.1, p.0), p.1, p.2)
  found (inr (inr (inr e))) =
      let k = (some_is f.names (λ x. any_below f.names (inner x))).0 e in
      let j = (some_is f.names (inner k.0)).0 k.2 in
      let p = (over (f.follows k.0 j.0) (level_of f k.0) l (level_of f j.0)).0 j.2 in
      (name k.0, name j.0, (k.1, j.1, p.0), p.1, p.2)

  find : (u v : Point) → steps f u v → level f u < l → l < level f v → Found
  unfolding whole from_start to_end inner
  find start start g a b = absurd g
  find start (name y) g a b = inr (inl ((some_is f.names from_start).1 (y, g.0, (over (f.starts y) 0 l (level_of f y)).1 (g.1, a, b))))
  find start end g a b = inl ((over f.empty 0 l (last_level f)).1 (g, a, b))
  find (name x) start g a b = absurd g
  find (name x) (name y) g a b =
      inr
      (inr
      (inr
      ((some_is f.names (λ x. any_below f.names (inner x))).1 (
        x,
        g.0,
        (some_is f.names (inner x)).1 (y, g.1, (over (f.follows x y) (level_of f x) l (level_of f y)).1 (g.2, a, b)),
      ))))
  find (name x) end g a b = inr (inr (inl ((some_is f.names to_end).1 (x, g.0, (over (f.ends x) (level_of f x) l (last_level f)).1 (g.1, a, b)))))
  find end v g a b = absurd g

  pub skipped_is : (skipped f l ≡ true) ↔ StepOver f l
  unfolding skipped whole from_start to_end inner
  skipped_is =
      let q = one_of_four whole (any_below f.names from_start) (any_below f.names to_end) (any_below f.names (λ x. any_below f.names (inner x))) in
      (λ e. found (q.0 e), λ s. q.1 (find s.0 s.1 s.2 s.3 s.4))
