-- What is specified of a record's factors over the steps of words is what `Arranged` states by executable levels.
-- Assumes nothing.
use Prim.Native.Nat.{ℕ, ◌≤◌, ◌<◌}
use mathlib.Core.Path.{◌≡◌, refl, sym, ◌∙◌, subst}
use mathlib.Core.Bool.{Bool, true, false, cond}
use mathlib.Core.List.{List, [], Memᴰ}
use mathlib.Core.Logic.{◌⊎◌, inl, inr, ◌↔◌}
use native.Mathlib.Omega.{arith}
use native.Mathlib.Decide.{ℕ_discrete}
use Rattle.model.specs.declared.Chain.{Chain}
use Rattle.model.specs.Record.{factor_of, mode_of}
use Rattle.model.specs.Accept.{Names}
use Rattle.model_language.specs.Word.{Point, name, Fact}
use Rattle.follow.specs.Follow.{Follow, follow_of}
use Rattle.chain_levels.specs.Reach.{same_group, loops, occurs}
use Rattle.chain_levels.specs.Level.{Occurs, OneGroup, IsLevel}
use Rattle.chain_levels.specs.Rank.{level_of, skipped}
use Rattle.chain_levels.specs.Chain.{factors_at, fixed, singles_mode, group_mode}
use Rattle.chain_levels.proofs.Tests.{both_ways, refuted}
use Rattle.chain_levels.proofs.Below.{first_le}
use Rattle.chain_levels.proofs.Reach.{group_sym, loops_is, group_loops, group_below}
use Rattle.chain_levels.proofs.Carry.{one_level, climb_occurs}
use Rattle.chain_levels.proofs.Levels.{group_level}
use Rattle.chain_levels.proofs.Theorem as Levels
use Rattle.chain_minimal.specs.Arranged.{group_no, SortsBefore, SortsWith, mode_for, Arranged}
use Rattle.chain_minimal.specs.Placed.{InLoop, Single, Smallest, SameLevel, LowerLevel, LowerGroup, Together, Earlier, Fixed, Placed}
use Rattle.chain_minimal.proofs.Groups.{least, number_single, number_loop, single_number, least_in, number_same, same_number}
use Rattle.chain_minimal.proofs.Modes.{two_factors, Other, other_factor, fixed_is}

mode_is : (f : Follow) (x l : ℕ) (a b : Bool) → level_of f x ≡ l → loops f x ≡ a → fixed f l ≡ b → mode_for f x ≡ cond a (cond b 2 3) (cond b 0 1)
unfolding mode_for group_mode singles_mode
mode_is f x l a b e p q = rw (e, p, q)

module _ (n : ℕ) (words : List (List ℕ)) (names : (w : List ℕ) → Memᴰ w words → Names n w) (some : ¬ (words ≡ [])) where
  abbrev f : Follow
  f = follow_of n words

  abbrev S : Point → Point → Type 0
  S = Fact words

  -- ---- names that occur, singles and loop groups

  occurs_is : (x : ℕ) → (occurs f x ≡ true) ↔ Occurs S x
  occurs_is = Levels.occurs_step n words names

  loop_is : (x : ℕ) → (loops f x ≡ true) ↔ InLoop S x
  loop_is x = (
    λ e. (Levels.reach_law n words names x x).0 ((loops_is f x).0 e),
    λ r. (loops_is f x).1 ((Levels.reach_law n words names x x).1 r),
  )

  group_is : (x y : ℕ) → (same_group f x y ≡ true) ↔ OneGroup S (name x) (name y)
  group_is = Levels.group_law n words names

  single_is : (x : ℕ) → occurs f x ≡ true → Single S x ↔ (loops f x ≡ false)
  single_is x o = (
    λ s. refuted (loops f x) (λ e. s.1 ((loop_is x).0 e)),
    λ e. ((occurs_is x).0 o, λ r. both_ways (loops f x) ((loop_is x).1 r) e),
  )

  smallest_is : (x : ℕ) → loops f x ≡ true → (a : ℕ) → Smallest S x a ↔ (least f x ≡ a)
  smallest_is x l a = (
    λ s. omega (arith, low a s.member, s.least (least f x) here),
    λ e. record { member = subst (λ (b : ℕ). OneGroup S (name x) (name b)) e here; least = λ y g. omega (arith, low y g) },
  )
    where
      here : OneGroup S (name x) (name (least f x))
      here = (group_is x (least f x)).0 (least_in f x l)

      low : (y : ℕ) → OneGroup S (name x) (name y) → least f x ≤ y
      low y g = let e = (group_is x y).1 g in first_le n (same_group f x) y (group_below f y x (group_sym f x y e)) e

  -- ---- levels of names that occur

  level_is : (x l : ℕ) → occurs f x ≡ true → IsLevel S (name x) l ↔ (level_of f x ≡ l)
  level_is x l o = (
    λ p. one_level (name x) (level_of f x) l (Levels.level_law n words names some x o) p,
    λ e. subst (IsLevel S (name x)) e (Levels.level_law n words names some x o),
  )

  level_occurs : (x l : ℕ) → IsLevel S (name x) l → occurs f x ≡ true
  level_occurs x l p = (occurs_is x).1 (climb_occurs p.reached)

  module _ (x y : ℕ) (o : occurs f x ≡ true) (p : occurs f y ≡ true) where
    same_level : SameLevel S x y ↔ (level_of f x ≡ level_of f y)
    same_level = (
      λ (l, a, b). (level_is x l o).0 a ∙ sym ((level_is y l p).0 b),
      λ e. (level_of f x, (level_is x (level_of f x) o).1 refl, (level_is y (level_of f x) p).1 (sym e)),
    )

    lower_level : LowerLevel S x y ↔ (level_of f x < level_of f y)
    lower_level = (
      λ (i, j, a, b, h). omega (arith, (level_is x i o).0 a, (level_is y j p).0 b),
      λ h. (level_of f x, level_of f y, (level_is x (level_of f x) o).1 refl, (level_is y (level_of f y) p).1 refl, h),
    )

    -- ---- one factor

    together_is : Together S x y ↔ SortsWith f x y
    together_is = (to, from)
      where
        to : Together S x y → SortsWith f x y
        to (inl (a, b, l)) = (same_level.0 l, number_single f x ((single_is x o).0 a) ∙ sym (number_single f y ((single_is y p).0 b)))
        to (inr g) = let e = (group_is x y).1 g in (group_level f x y e, number_same f x y e)

        from : SortsWith f x y → Together S x y
        from (l, e) = go (loops f x) refl
          where
            go : (b : Bool) → loops f x ≡ b → Together S x y
            go true q = inr ((group_is x y).0 (same_number f x y q e))
            go false q = inl ((single_is x o).1 q, (single_is y p).1 (single_number f y (sym e ∙ number_single f x q)), same_level.1 l)

    -- ---- the order of factors

    earlier_is : Earlier S x y ↔ SortsBefore f x y
    earlier_is = (to, from)
      where
        to : Earlier S x y → SortsBefore f x y
        to (inl h) = inl (lower_level.0 h)
        to (inr (l, inl (s, r))) = inr (same_level.0 l, omega (arith, number_single f x ((single_is x o).0 s), number_loop f y ((loop_is y).1 r)))
        to (inr (l, inr (a, b, s, t, h))) =
            let u = group_loops f x a ((group_is x a).1 s.member) in
            let v = group_loops f y b ((group_is y b).1 t.member) in
            inr (same_level.0 l, omega (arith, number_loop f x u, number_loop f y v, (smallest_is x u a).0 s, (smallest_is y v b).0 t))

        from : SortsBefore f x y → Earlier S x y
        from (inl h) = inl (lower_level.1 h)
        from (inr (l, h)) = inr (same_level.1 l, go (loops f x) refl (loops f y) refl)
          where
            go : (a : Bool) → loops f x ≡ a → (b : Bool) → loops f y ≡ b → (Single S x × InLoop S y) ⊎ LowerGroup S x y
            go a q false r = absurd (omega (arith, number_single f y r))
            go false q true r = inl ((single_is x o).1 q, (loop_is y).0 r)
            go true q true r =
                inr (
                  least f x,
                  least f y,
                  (smallest_is x q (least f x)).1 refl,
                  (smallest_is y r (least f y)).1 refl,
                  omega (arith, number_loop f x q, number_loop f y r),
                )

  -- ---- a level that is fixed, where it has a name

  module _ (l x : ℕ) (o : occurs f x ≡ true) (here : level_of f x ≡ l) where
    fixed_law : Fixed S l ↔ (fixed f l ≡ true)
    fixed_law = (
      λ p. (fixed_is f l).1 (refuted (skipped f l) (λ e. p.kept ((Levels.skipped_law n words names some l).0 e)), just_one p (ℕ_discrete (factors_at f l) 1)),
      λ e. record {
        kept = λ s. both_ways (skipped f l) ((Levels.skipped_law n words names some l).1 s) ((fixed_is f l).0 e).0;
        alone = λ y z p q. alone e y z (level_occurs y l p) (level_occurs z l q) p q;
      },
    )
      where
        other : Fixed S l → Other f l (group_no f x) → ⊥
        other p (w, g, (ow, lw, e), d) =
            let k = (together_is x w o ow).0 (p.alone x w ((level_is x l o).1 here) ((level_is w l ow).1 lw)) in
            d (sym (k.1 ∙ e))

        just_one : Fixed S l → Dec (factors_at f l ≡ 1) → factors_at f l ≡ 1
        just_one p (yes e) = e
        just_one p (no d) = absurd (other p (other_factor f l (group_no f x) x (o, here, refl) d))

        alone : fixed f l ≡ true → (y z : ℕ) → occurs f y ≡ true → occurs f z ≡ true → IsLevel S (name y) l → IsLevel S (name z) l → Together S y z
        alone e y z oy oz p q = (together_is y z oy oz).1 (ly ∙ sym lz, go (ℕ_discrete (group_no f y) (group_no f z)))
          where
            ly : level_of f y ≡ l
            ly = (level_is y l oy).0 p

            lz : level_of f z ≡ l
            lz = (level_is z l oz).0 q

            go : Dec (group_no f y ≡ group_no f z) → group_no f y ≡ group_no f z
            go (yes d) = d
            go (no d) = absurd (omega (arith, ((fixed_is f l).0 e).1, two_factors f l (group_no f y) (group_no f z) y z (oy, ly, refl) (oz, lz, refl) d))

  -- ---- the law

  module _ (m : Chain) where
    to : Placed S m → Arranged f m
    to p =
        record {
          held = λ x. (λ h. (occurs_is x).1 ((p.held x).0 h), λ o. (p.held x).1 ((occurs_is x).0 o));
          order = λ x y o q.
              let k = p.order x y ((occurs_is x).0 o) ((occurs_is y).0 q) in
              (λ h. (earlier_is x y o q).0 (k.0 h), λ h. k.1 ((earlier_is x y o q).1 h));
          shared = λ x y o q.
              let k = p.shared x y ((occurs_is x).0 o) ((occurs_is y).0 q) in
              (λ h. (together_is x y o q).0 (k.0 h), λ h. k.1 ((together_is x y o q).1 h));
          modes = λ x o. mode x o (loops f x) refl (fixed f (level_of f x)) refl;
        }
      where
        mode : (x : ℕ) → occurs f x ≡ true → (a : Bool) → loops f x ≡ a → (b : Bool) → fixed f (level_of f x) ≡ b → mode_of m (factor_of m x) ≡ mode_for f x
        mode x o a e b g = go a e b g ∙ sym (mode_is f x (level_of f x) a b refl e g)
          where
            level : IsLevel S (name x) (level_of f x)
            level = (level_is x (level_of f x) o).1 refl

            is_fixed : Fixed S (level_of f x) ↔ (fixed f (level_of f x) ≡ true)
            is_fixed = fixed_law (level_of f x) x o refl

            go : (a : Bool) → loops f x ≡ a → (b : Bool) → fixed f (level_of f x) ≡ b → mode_of m (factor_of m x) ≡ cond a (cond b 2 3) (cond b 0 1)
            go false e true g = p.plain x (level_of f x) level (is_fixed.1 g) ((single_is x o).1 e)
            go true e true g = p.plus x (level_of f x) level (is_fixed.1 g) ((loop_is x).0 e)
            go false e false g = p.question x (level_of f x) level (λ q. both_ways (fixed f (level_of f x)) (is_fixed.0 q) g) ((single_is x o).1 e)
            go true e false g = p.star x (level_of f x) level (λ q. both_ways (fixed f (level_of f x)) (is_fixed.0 q) g) ((loop_is x).0 e)

    from : Arranged f m → Placed S m
    from p =
        record {
          held = λ x. (λ h. (occurs_is x).0 ((p.held x).0 h), λ o. (p.held x).1 ((occurs_is x).1 o));
          shared = λ x y o q.
              let a = (occurs_is x).1 o in
              let b = (occurs_is y).1 q in
              (λ h. (together_is x y a b).1 ((p.shared x y a b).0 h), λ h. (p.shared x y a b).1 ((together_is x y a b).0 h));
          order = λ x y o q.
              let a = (occurs_is x).1 o in
              let b = (occurs_is y).1 q in
              (λ h. (earlier_is x y a b).1 ((p.order x y a b).0 h), λ h. (p.order x y a b).1 ((earlier_is x y a b).0 h));
          plain = λ x l k h s. fixed_mode x l k false ((single_is x (level_occurs x l k)).0 s) h;
          plus = λ x l k h r. fixed_mode x l k true ((loop_is x).1 r) h;
          question = λ x l k h s. other_mode x l k false ((single_is x (level_occurs x l k)).0 s) h;
          star = λ x l k h r. other_mode x l k true ((loop_is x).1 r) h;
        }
      where
        at : (x l : ℕ) → IsLevel S (name x) l → level_of f x ≡ l
        at x l k = (level_is x l (level_occurs x l k)).0 k

        is_fixed : (x l : ℕ) → IsLevel S (name x) l → Fixed S l ↔ (fixed f l ≡ true)
        is_fixed x l k = fixed_law l x (level_occurs x l k) (at x l k)

        fixed_mode : (x l : ℕ) → IsLevel S (name x) l → (a : Bool) → loops f x ≡ a → Fixed S l → mode_of m (factor_of m x) ≡ cond a 2 0
        fixed_mode x l k a e h = p.modes x (level_occurs x l k) ∙ mode_is f x l a true (at x l k) e ((is_fixed x l k).0 h)

        other_mode : (x l : ℕ) → IsLevel S (name x) l → (a : Bool) → loops f x ≡ a → ¬ Fixed S l → mode_of m (factor_of m x) ≡ cond a 3 1
        other_mode x l k a e h =
            p.modes x (level_occurs x l k) ∙ mode_is f x l a false (at x l k) e (refuted (fixed f l) (λ q. h ((is_fixed x l k).1 q)))

    pub placed_law : Placed S m ↔ Arranged f m
    placed_law = (to, from)
