-- The record that is built level by level is a chain and stands as the levels say.
-- Assumes nothing.
use Prim.Native.Nat.{ℕ, zero, suc, ◌+◌, ◌-◌, ◌≤◌, ◌<◌}
use mathlib.Core.Path.{◌≡◌, refl, sym, ◌∙◌, ap, subst}
use mathlib.Core.Bool.{Bool, true, false, cond}
use mathlib.Core.Logic.{◌⊎◌, inl, inr, ⊎_elim, ◌↔◌}
use native.Mathlib.Omega.{arith}
use native.Mathlib.Decide.{dec_lt, ℕ_discrete}
use lib.ListN.{length}
use Rattle.model.specs.declared.Chain.{Chain}
use Rattle.model.specs.Record.{no_factor, factor_of, mode_of, IsChain, empty_chain}
use Rattle.model.specs.Build.{with_factor}
use Rattle.follow.specs.Follow.{Follow}
use Rattle.chain_levels.specs.Below.{any_below}
use Rattle.chain_levels.specs.Reach.{same_group, occurs}
use Rattle.chain_levels.specs.Rank.{level_of, last_level}
use Rattle.chain_levels.specs.Chain.{single_at, leads_at, fixed, singles_mode, group_mode, with_any, with_each, with_both, with_level, chain_to, chain_of}
use Rattle.chain_levels.proofs.Tests.{some_is, both_ways, refuted}
use Rattle.chain_levels.proofs.Below.{few}
use Rattle.chain_levels.proofs.Paths.{occurs_is, occurs_below, Sampled}
use Rattle.chain_levels.proofs.Levels.{low, high, last_low}
use Rattle.chain_minimal.specs.Arranged.{group_no, SortsBefore, SortsWith, mode_for, Arranged}
use Rattle.chain_minimal.proofs.Groups.{At, single_at_lem, leader_at, leader_of, group_at, single_mode, group_mode_lem, number_low, mode_low}
use Rattle.chain_minimal.proofs.Append.{with_sizes, with_count, with_new, with_old, with_mode_lem, with_modes, empty_sizes, empty_count, empty_factor, empty_mode}

-- The name x occurs, below level l, or on it with a number below g.
abbrev Done : Follow → ℕ → ℕ → ℕ → Type 0
Done f l g x = (occurs f x ≡ true) × ((level_of f x < l) ⊎ ((level_of f x ≡ l) × (group_no f x < g)))

-- The record has the factors of all levels below l, and of level l those with a number below g.
record Built (f : Follow) (size l g : ℕ) (m : Chain) : Type 0 where
  factors : length m.factor ≡ size
  modes : length m.mode ≡ size
  holds : (x : ℕ) → Done f l g x → factor_of m x < m.count
  lacks : (x : ℕ) → ¬ Done f l g x → factor_of m x ≡ no_factor
  named : (i : ℕ) → i < m.count → (x : ℕ) × Done f l g x × (factor_of m x ≡ i)
  order : (x y : ℕ) → Done f l g x → Done f l g y → SortsBefore f x y → factor_of m x < factor_of m y
  shared : (x y : ℕ) → Done f l g x → Done f l g y → SortsWith f x y → factor_of m x ≡ factor_of m y
  mode : (x : ℕ) → Done f l g x → mode_of m (factor_of m x) ≡ mode_for f x
  rest : (i : ℕ) → m.count ≤ i → mode_of m i ≡ 0

three_ways : (f : Follow) (x y : ℕ) → (SortsBefore f x y ⊎ SortsBefore f y x) ⊎ SortsWith f x y
three_ways f x y = go (dec_lt (level_of f x) (level_of f y)) (dec_lt (level_of f y) (level_of f x)) (dec_lt (group_no f x) (group_no f y)) (dec_lt (group_no f y) (group_no f x))
  where
    go : Dec (level_of f x < level_of f y) → Dec (level_of f y < level_of f x) → Dec (group_no f x < group_no f y) → Dec (group_no f y < group_no f x) →
        (SortsBefore f x y ⊎ SortsBefore f y x) ⊎ SortsWith f x y
    go (yes a) b c d = inl (inl (inl a))
    go (no a) (yes b) c d = inl (inr (inl b))
    go (no a) (no b) (yes c) d = inl (inl (inr (omega arith, c)))
    go (no a) (no b) (no c) (yes d) = inl (inr (inr (omega arith, d)))
    go (no a) (no b) (no c) (no d) = inr (omega arith, omega arith)

-- The same names are done.
carry : (f : Follow) (size l g k h : ℕ) (m : Chain) → ((x : ℕ) → Done f l g x ↔ Done f k h x) → Built f size l g m → Built f size k h m
carry f size l g k h m e b = record {
  factors = b.factors;
  modes = b.modes;
  holds = λ x d. b.holds x ((e x).1 d);
  lacks = λ x d. b.lacks x (λ q. d ((e x).0 q));
  named = λ i q. let z = b.named i q in (z.0, (e z.0).0 z.1, z.2);
  order = λ x y p q. b.order x y ((e x).1 p) ((e y).1 q);
  shared = λ x y p q. b.shared x y ((e x).1 p) ((e y).1 q);
  mode = λ x d. b.mode x ((e x).1 d);
  rest = b.rest;
}

-- ---- one more number of level l

module _ (f : Follow) (l g x : ℕ) where
  done_split : Done f l (suc g) x → Done f l g x ⊎ At f l g x
  done_split (o, inl a) = inl (o, inl a)
  done_split (o, inr (a, b)) = go (ℕ_discrete (group_no f x) g)
    where
      go : Dec (group_no f x ≡ g) → Done f l g x ⊎ At f l g x
      go (yes e) = inr (o, a, e)
      go (no d) = inl (o, inr (a, omega arith))

  done_more : Done f l g x → Done f l (suc g) x
  done_more (o, inl a) = (o, inl a)
  done_more (o, inr (a, b)) = (o, inr (a, omega arith))

  done_at : At f l g x → Done f l (suc g) x
  done_at (o, a, b) = (o, inr (a, omega arith))

  done_not : Done f l g x → At f l g x → ⊥
  done_not (o, inl a) (p, b, c) = omega arith
  done_not (o, inr (a, q)) (p, b, c) = omega arith

  -- A name that was done before stands before one of the new factor.
  module _ (y : ℕ) where
    not_back : Done f l g x → At f l g y → SortsBefore f y x → ⊥
    not_back (o, inl a) (p, b, c) (inl e) = omega arith
    not_back (o, inl a) (p, b, c) (inr e) = omega arith
    not_back (o, inr a) (p, b, c) (inl e) = omega arith
    not_back (o, inr a) (p, b, c) (inr e) = omega arith

    not_with : Done f l g x → At f l g y → SortsWith f x y → ⊥
    not_with (o, inl a) (p, b, c) e = omega arith
    not_with (o, inr a) (p, b, c) e = omega arith

    not_among : At f l g x → At f l g y → SortsBefore f x y → ⊥
    not_among (o, a, b) (p, c, d) (inl e) = omega arith
    not_among (o, a, b) (p, c, d) (inr e) = omega arith

-- No name has the number g.
skip : (f : Follow) (size l g : ℕ) (m : Chain) → ((x : ℕ) → At f l g x → ⊥) → Built f size l g m → Built f size l (suc g) m
skip f size l g m none-there =
    carry f size l g l (suc g) m (λ x. (done_more f l g x, λ d. ⊎_elim (λ q. q) (λ a. absurd (none-there x a)) (done_split f l g x d)))

-- The names with the number g form the next factor.
module _ (f : Follow) (size l g : ℕ) (m : Chain) (holds : ℕ → Bool) (mode : ℕ) (room : f.names ≤ size) (b : Built f size l g m)
    (same : (x : ℕ) → (holds x ≡ true) ↔ At f l g x) (first : ℕ) (there : At f l g first) (fits : (x : ℕ) → At f l g x → mode_for f x ≡ mode) where
  next : Chain
  next = with_factor m holds mode

  fresh : (x : ℕ) → At f l g x → factor_of next x ≡ m.count
  unfolding next
  fresh x a = with_new m holds mode x (omega (arith, b.factors, occurs_below f x ((occurs_is f x).0 a.0))) ((same x).1 a)

  kept : (x : ℕ) → (At f l g x → ⊥) → factor_of next x ≡ factor_of m x
  unfolding next
  kept x d = with_old m holds mode x (refuted (holds x) (λ e. d ((same x).0 e)))

  kept_done : (x : ℕ) → Done f l g x → factor_of next x ≡ factor_of m x
  kept_done x d = kept x (done_not f l g x d)

  one_more : next.count ≡ m.count + 1
  unfolding next
  one_more = with_count m holds mode

  next_named : (i : ℕ) → i < next.count → (x : ℕ) × Done f l (suc g) x × (factor_of next x ≡ i)
  next_named i h = go (dec_lt i m.count)
    where
      go : Dec (i < m.count) → (x : ℕ) × Done f l (suc g) x × (factor_of next x ≡ i)
      go (yes k) = let z = b.named i k in (z.0, done_more f l g z.0 z.1, kept_done z.0 z.1 ∙ z.2)
      go (no k) = (first, done_at f l g first there, omega (arith, fresh first there, one_more))

  -- There is room for its mode.
  roomy : m.count < length m.mode
  roomy =
      omega (
        arith,
        b.modes,
        one_more,
        few f.names next.count (factor_of next) (λ i h. let z = next_named i h in (z.0, occurs_below f z.0 ((occurs_is f z.0).0 z.1.0), z.2)),
      )

  old_mode : (i : ℕ) → ¬ (i ≡ m.count) → mode_of next i ≡ mode_of m i
  unfolding next
  old_mode = with_modes m holds mode

  new_mode : mode_of next m.count ≡ mode
  unfolding next
  new_mode = with_mode_lem m holds mode roomy

  next_holds : (x : ℕ) → Done f l g x ⊎ At f l g x → factor_of next x < next.count
  next_holds x (inl d) = omega (arith, kept_done x d, b.holds x d, one_more)
  next_holds x (inr a) = omega (arith, fresh x a, one_more)

  next_order : (x y : ℕ) → Done f l g x ⊎ At f l g x → Done f l g y ⊎ At f l g y → SortsBefore f x y → factor_of next x < factor_of next y
  next_order x y (inl p) (inl q) e = omega (arith, kept_done x p, kept_done y q, b.order x y p q e)
  next_order x y (inl p) (inr q) e = omega (arith, kept_done x p, b.holds x p, fresh y q)
  next_order x y (inr p) (inl q) e = absurd (not_back f l g y x q p e)
  next_order x y (inr p) (inr q) e = absurd (not_among f l g x y p q e)

  next_shared : (x y : ℕ) → Done f l g x ⊎ At f l g x → Done f l g y ⊎ At f l g y → SortsWith f x y → factor_of next x ≡ factor_of next y
  next_shared x y (inl p) (inl q) e = omega (arith, kept_done x p, kept_done y q, b.shared x y p q e)
  next_shared x y (inl p) (inr q) e = absurd (not_with f l g x y p q e)
  next_shared x y (inr p) (inl q) e = absurd (not_with f l g y x q p (sym e.0, sym e.1))
  next_shared x y (inr p) (inr q) e = fresh x p ∙ sym (fresh y q)

  next_mode : (x : ℕ) → Done f l g x ⊎ At f l g x → mode_of next (factor_of next x) ≡ mode_for f x
  next_mode x (inl d) = ap (mode_of next) (kept_done x d) ∙ old_mode (factor_of m x) (omega (arith, b.holds x d)) ∙ b.mode x d
  next_mode x (inr a) = ap (mode_of next) (fresh x a) ∙ new_mode ∙ sym (fits x a)

  next_sizes : (length next.factor ≡ length m.factor) × (length next.mode ≡ length m.mode)
  unfolding next
  next_sizes = with_sizes m holds mode

  next_built : Built f size l (suc g) next
  next_built = record {
    factors = next_sizes.0 ∙ b.factors;
    modes = next_sizes.1 ∙ b.modes;
    holds = λ x d. next_holds x (done_split f l g x d);
    lacks = λ x d. kept x (λ a. d (done_at f l g x a)) ∙ b.lacks x (λ q. d (done_more f l g x q));
    named = next_named;
    order = λ x y p q. next_order x y (done_split f l g x p) (done_split f l g y q);
    shared = λ x y p q. next_shared x y (done_split f l g x p) (done_split f l g y q);
    mode = λ x d. next_mode x (done_split f l g x d);
    rest = λ i h. old_mode i (omega (arith, one_more)) ∙ b.rest i (omega (arith, one_more));
  }

  append : Built f size l (suc g) (with_factor m holds mode)
  unfolding next
  append = next_built

-- ---- level by level

module _ (f : Follow) (size : ℕ) (room : f.names ≤ size) where
  singles_built : (l : ℕ) (m : Chain) → Built f size l 0 m → Built f size l 1 (with_any f.names (single_at f l) (singles_mode (fixed f l)) m)
  unfolding with_any
  singles_built l m b = go (any_below f.names (single_at f l)) refl
    where
      go : (q : Bool) → any_below f.names (single_at f l) ≡ q → Built f size l 1 (cond q (with_factor m (single_at f l) (singles_mode (fixed f l))) m)
      go true e =
          let z = (some_is f.names (single_at f l)).0 e in
          append f size l 0 m (single_at f l) (singles_mode (fixed f l)) room b (single_at_lem f l) z.0 ((single_at_lem f l z.0).0 z.2) (single_mode f l)
      go false e =
          skip f size l 0 m
          (λ x a.
          both_ways (any_below f.names (single_at f l))
          ((some_is f.names (single_at f l)).1 (x, occurs_below f x ((occurs_is f x).0 a.0), (single_at_lem f l x).1 a))
          e)
          b

  groups_built : (l k : ℕ) (m : Chain) → Built f size l 1 m → Built f size l (suc k) (with_each (leads_at f l) (same_group f) (group_mode (fixed f l)) k m)
  unfolding with_each
  groups_built l zero m b = b
  groups_built l (suc k) m b = go (leads_at f l k) refl (with_each (leads_at f l) (same_group f) (group_mode (fixed f l)) k m) (groups_built l k m b)
    where
      go : (q : Bool) → leads_at f l k ≡ q → (p : Chain) → Built f size l (suc k) p →
          Built f size l (suc (suc k)) (cond q (with_factor p (same_group f k) (group_mode (fixed f l))) p)
      go true e p ih =
          let a = (leader_at f l k).0 e in
          append f size l (suc k) p (same_group f k) (group_mode (fixed f l)) room ih (group_at f l k a) k a (group_mode_lem f l k)
      go false e p ih = skip f size l (suc k) p (λ x a. both_ways (leads_at f l k) ((leader_at f l k).1 (leader_of f l k x a)) e) ih

  -- A name's number on its level is at most n, so behind that the level is whole.
  level_done : (l x : ℕ) → Done f l (suc f.names) x ↔ Done f (suc l) 0 x
  level_done l x = (to, from)
    where
      to : Done f l (suc f.names) x → Done f (suc l) 0 x
      to (o, inl a) = (o, inl (omega arith))
      to (o, inr a) = (o, inl (omega arith))

      from : Done f (suc l) 0 x → Done f l (suc f.names) x
      from (o, inr a) = absurd (omega arith)
      from (o, inl a) = (o, go (dec_lt (level_of f x) l))
        where
          go : Dec (level_of f x < l) → (level_of f x < l) ⊎ ((level_of f x ≡ l) × (group_no f x < suc f.names))
          go (yes q) = inl q
          go (no q) = inr (omega arith, omega (arith, number_low f x))

  level_built : (l : ℕ) (m : Chain) → Built f size l 0 m → Built f size (suc l) 0 (with_level f l m)
  unfolding with_level with_both
  level_built l m b =
      carry f size l (suc f.names) (suc l) 0 _ (level_done l) (groups_built l f.names _ (singles_built l m b))

  module _ (s : Sampled f) where
    nothing_done : (x : ℕ) → Done f 1 0 x → ⊥
    nothing_done x (o, inl a) = omega (arith, low f s x ((occurs_is f x).0 o))
    nothing_done x (o, inr a) = omega arith

    start_built : Built f size 1 0 (empty_chain size)
    start_built = record {
      factors = (empty_sizes size).0;
      modes = (empty_sizes size).1;
      holds = λ x d. absurd (nothing_done x d);
      lacks = λ x d. empty_factor size x;
      named = λ i h. absurd (omega (arith, empty_count size));
      order = λ x y p q e. absurd (nothing_done x p);
      shared = λ x y p q e. absurd (nothing_done x p);
      mode = λ x d. absurd (nothing_done x d);
      rest = λ i h. empty_mode size i;
    }

    levels_built : (k : ℕ) → Built f size (suc k) 0 (chain_to size f k)
    unfolding chain_to
    levels_built zero = start_built
    levels_built (suc k) = level_built (suc k) (chain_to size f k) (levels_built k)

    chain_built : Built f size (last_level f) 0 (chain_of size f)
    unfolding chain_of
    chain_built =
        let e : suc (last_level f - 1) ≡ last_level f = omega (arith, last_low f) in
        subst (λ (l : ℕ). Built f size l 0 (chain_to size f (last_level f - 1))) e (levels_built (last_level f - 1))

    all_done : (x : ℕ) → occurs f x ≡ true → Done f (last_level f) 0 x
    all_done x o = (o, inl (high f s x ((occurs_is f x).0 o)))

    -- ---- the chain

    each_named : (i : ℕ) → i < (chain_of size f).count → (x : ℕ) × (x < f.names) × (factor_of (chain_of size f) x ≡ i)
    each_named i h = let z = chain_built.named i h in (z.0, occurs_below f z.0 ((occurs_is f z.0).0 z.1.0), z.2)

    few_factors : (chain_of size f).count ≤ f.names
    few_factors = few f.names (chain_of size f).count (factor_of (chain_of size f)) each_named

    in_or_out : (x : ℕ) → (factor_of (chain_of size f) x ≡ no_factor) ⊎ (occurs f x ≡ true)
    in_or_out x = go (occurs f x) refl
      where
        go : (b : Bool) → occurs f x ≡ b → (factor_of (chain_of size f) x ≡ no_factor) ⊎ (occurs f x ≡ true)
        go true e = inr e
        go false e = inl (chain_built.lacks x (λ d. both_ways (occurs f x) d.0 e))

    pub is_chain_lem : IsChain size f.names (chain_of size f)
    is_chain_lem = record {
      factors = chain_built.factors;
      modes = chain_built.modes;
      few = omega (arith, few_factors);
      placed = λ x h. ⊎_elim inl (λ o. inr (chain_built.holds x (all_done x o))) (in_or_out x);
      others = λ x h. ⊎_elim (λ e. e) (λ o. absurd (omega (arith, occurs_below f x ((occurs_is f x).0 o)))) (in_or_out x);
      named = each_named;
      known = λ i h. let z = chain_built.named i h in omega (arith, ap (mode_of (chain_of size f)) z.2, chain_built.mode z.0 z.1, mode_low f z.0);
      rest = chain_built.rest;
    }

    module _ (small : size ≤ no_factor) where
      pub is_arranged : Arranged f (chain_of size f)
      is_arranged = record {
        held = λ x. (λ h. ⊎_elim (λ e. absurd (omega (arith, few_factors))) (λ o. o) (in_or_out x), λ o. chain_built.holds x (all_done x o));
        order = λ x y o p. (order_from x y o p (three_ways f x y), chain_built.order x y (all_done x o) (all_done y p));
        shared = λ x y o p. (shared_from x y o p (three_ways f x y), chain_built.shared x y (all_done x o) (all_done y p));
        modes = λ x o. chain_built.mode x (all_done x o);
      }
        where
          order_from : (x y : ℕ) → occurs f x ≡ true → occurs f y ≡ true → (SortsBefore f x y ⊎ SortsBefore f y x) ⊎ SortsWith f x y →
              factor_of (chain_of size f) x < factor_of (chain_of size f) y → SortsBefore f x y
          order_from x y o p (inl (inl e)) h = e
          order_from x y o p (inl (inr e)) h = absurd (omega (arith, chain_built.order y x (all_done y p) (all_done x o) e))
          order_from x y o p (inr e) h = absurd (omega (arith, chain_built.shared x y (all_done x o) (all_done y p) e))

          shared_from : (x y : ℕ) → occurs f x ≡ true → occurs f y ≡ true → (SortsBefore f x y ⊎ SortsBefore f y x) ⊎ SortsWith f x y →
              factor_of (chain_of size f) x ≡ factor_of (chain_of size f) y → SortsWith f x y
          shared_from x y o p (inl (inl e)) h = absurd (omega (arith, chain_built.order x y (all_done x o) (all_done y p) e))
          shared_from x y o p (inl (inr e)) h = absurd (omega (arith, chain_built.order y x (all_done y p) (all_done x o) e))
          shared_from x y o p (inr e) h = e
