-- The chain level after level: the sets that the code keeps are those of the levels, and the record is the chain so
-- far.
-- Assumes nothing.
use Prim.Native.Nat.{ℕ, suc, ◌+◌, ◌-◌, ◌≤◌, ◌<◌}
use mathlib.Core.Path.{◌≡◌, refl, sym, ◌∙◌, ap, ap₂, fun_ext}
use mathlib.Core.Bool.{Bool, true, false, cond, ◌&&◌, ◌||◌, not}
use mathlib.Core.List.{List}
use native.Mathlib.Omega.{arith}
use native.Mathlib.Decide.{dec_lt}
use lib.Dec.{eqb}
use Rattle.nameset.specs.Places.{places}
use Rattle.nameset.specs.declared.NameSet.{NameSet}
use Rattle.nameset.specs.Set.{member}
use Rattle.nameset.specs.Rows.{IsRows}
use Rattle.model.specs.declared.Chain.{Chain}
use Rattle.model.specs.Record.{empty_chain}
use Rattle.model.specs.Build.{with_factor}
use Rattle.nameset.proofs.Tests.{same_test}
use Rattle.follow.specs.Follow.{Follow}
use Rattle.follow.specs.View.{view_of}
use Rattle.follow.specs.declared.Facts.{Facts}
use Rattle.chain_levels.specs.Below.{any_below, count_below, first_below}
use Rattle.chain_levels.specs.Reach.{reaches, same_group, loops, leads, occurs}
use Rattle.chain_levels.specs.Rank.{is_before, level_of, last_level, skipped}
use Rattle.chain_levels.specs.Chain.{single_at, leads_at, factors, factors_at, fixed, singles_mode, group_mode, with_any, with_each, with_both, with_level, chain_to, chain_of}
use Rattle.chain_peel.specs.Shown.{Shown}
use Rattle.chain_peel.specs.Sets.{is_lower, is_at, is_higher, in_rows, steps_over}
use Rattle.chain_levels.proofs.Tests.{and_is, not_is, eqb_is, some_is, some_within, refuted, both_ways}
use Rattle.chain_levels.proofs.Below.{first_le, first_is, count_past, count_lt}
use Rattle.chain_levels.proofs.Reach.{reaches_trans, reaches_below, group_is}
use Rattle.chain_peel.proofs.Reaching.{occurs_small}
use Rattle.chain_peel.proofs.Peel.{at_is, higher_is, higher_first, lower_first, higher_next, lower_next, single_at_lem, leads_at_lem, peel, level_left, level_none, level_found}
use Rattle.chain_peel.proofs.Skips.{skipped_over}
use Rattle.chain_peel.proofs.Counting.{level_room}
use Rattle.chain_rows.specs.Rows.{in_row, Transitive}
use Rattle.chain_reach.specs.Reached.{Reached}
use Rattle.chain_groups.specs.Groups.{group_in, holds_in, together, leads_away, smallest, Grouped}
use Rattle.chain_groups.proofs.Groups.{group_members}
use Rattle.chain_factors.proofs.Factors.{each_upto}

-- ---- the tables

pub record Tables (f : Follow) (reach behind : List ℕ) (looping lead : NameSet) : Type 0 where
  pub reach_size : IsRows places reach
  pub behind_size : IsRows places behind
  pub behind_law : (a b : ℕ) → in_row behind a b ≡ is_before f a b
  pub holds_law : (a b : ℕ) → holds_in reach behind a b ≡ same_group f a b
  pub loops_law : (x : ℕ) → member looping x ≡ loops f x
  pub leads_law : (x : ℕ) → member lead x ≡ leads f x

both_reach : (a b : Bool) → (a && not (a && not b)) ≡ (a && b)
both_reach true true = refl
both_reach true false = refl
both_reach false b = refl

leads_smallest : (f : Follow) (x : ℕ) → (reaches f x x && not (any_below x (same_group f x))) ≡ leads f x
unfolding leads loops
leads_smallest f x =
    same_test (reaches f x x && not (any_below x (same_group f x))) (reaches f x x && eqb (first_below f.names (same_group f x)) x) to from
  where
    to : (reaches f x x && not (any_below x (same_group f x))) ≡ true → (reaches f x x && eqb (first_below f.names (same_group f x)) x) ≡ true
    to e =
        let p = (and_is (reaches f x x) (not (any_below x (same_group f x)))).0 e in
        let h = reaches_below f x x p.0 in
        let own = (group_is f x x).1 (p.0, p.0) in
        let none = (not_is (any_below x (same_group f x))).0 p.1 in
        let le = first_le f.names (same_group f x) x h own in
        let is = first_is f.names (same_group f x) x h own in
        (and_is (reaches f x x) (eqb (first_below f.names (same_group f x)) x)).1
        (p.0, (eqb_is (first_below f.names (same_group f x)) x).1 (equal none le is (dec_lt (first_below f.names (same_group f x)) x)))
      where
        equal : any_below x (same_group f x) ≡ false → first_below f.names (same_group f x) ≤ x → same_group f x (first_below f.names (same_group f x)) ≡ true →
            Dec (first_below f.names (same_group f x) < x) → first_below f.names (same_group f x) ≡ x
        equal none le is (yes l) = absurd (both_ways (any_below x (same_group f x)) ((some_is x (same_group f x)).1 (first_below f.names (same_group f x), l, is)) none)
        equal none le is (no l) = omega arith

    from : (reaches f x x && eqb (first_below f.names (same_group f x)) x) ≡ true → (reaches f x x && not (any_below x (same_group f x))) ≡ true
    from e =
        let p = (and_is (reaches f x x) (eqb (first_below f.names (same_group f x)) x)).0 e in
        let q = (eqb_is (first_below f.names (same_group f x)) x).0 p.1 in
        let h = reaches_below f x x p.0 in
        (and_is (reaches f x x) (not (any_below x (same_group f x)))).1 (
          p.0,
          (not_is (any_below x (same_group f x))).1 (refuted (any_below x (same_group f x)) (λ t. let r = (some_is x (same_group f x)).0 t in omega (arith, q, r.1, h, first_le f.names (same_group f x) r.0 (omega (arith, r.1, h)) r.2))),
        )

-- reach is transitive
pub reached_through : (f : Follow) (reach : List ℕ) → Reached f reach → Transitive reach
reached_through f reach r a b c e d = r.law a c ∙ reaches_trans f a b c (sym (r.law a b) ∙ e) (sym (r.law b c) ∙ d)

pub tables_made : (f : Follow) (reach behind : List ℕ) (looping lead : NameSet) → Reached f reach → Grouped reach behind looping lead → Tables f reach behind looping lead
unfolding is_before loops same_group holds_in leads_away together smallest
tables_made f reach behind looping lead r g =
    record { reach_size = r.names.size; behind_size = g.size; behind_law = before; holds_law = group; loops_law = λ x. g.own x ∙ r.law x x; leads_law = leading }
  where
    before : (a b : ℕ) → in_row behind a b ≡ (reaches f a b && not (reaches f b a))
    before a b = g.away a b ∙ ap₂ (λ (u v : Bool). u && not v) (r.law a b) (r.law b a)

    group : (a b : ℕ) → member (group_in reach behind a) b ≡ (reaches f a b && reaches f b a)
    group a b = group_members reach behind a b ∙ ap₂ (λ (u v : Bool). u && not v) (r.law a b) (before a b) ∙ both_reach (reaches f a b) (reaches f b a)

    leading : (x : ℕ) → member lead x ≡ leads f x
    leading x =
        g.lead x
        ∙ ap₂ (λ (u : Bool) (p : ℕ → Bool). u && not (any_below x p)) (r.law x x) (fun_ext (λ b. ap₂ ◌&&◌ (r.law x b) (r.law b x)))
        ∙ leads_smallest f x

-- what stands behind a name has behind it what stands behind that name too
pub behind_through : {f : Follow} {reach behind : List ℕ} {looping lead : NameSet} → Tables f reach behind looping lead → Transitive behind
unfolding is_before
behind_through {f} {reach} {behind} t a b c e d =
    let p = before a b e in
    let q = before b c d in
    t.behind_law a c
    ∙ (and_is (reaches f a c) (not (reaches f c a))).1
    (reaches_trans f a b c p.0 q.0, (not_is (reaches f c a)).1 (refuted (reaches f c a) (λ r. both_ways (reaches f c b) (reaches_trans f c a b r p.0) q.1)))
  where
    before : (x y : ℕ) → in_row behind x y ≡ true → (reaches f x y ≡ true) × (reaches f y x ≡ false)
    before x y u = let p = (and_is (reaches f x y) (not (reaches f y x))).0 (sym (t.behind_law x y) ∙ u) in (p.0, (not_is (reaches f y x)).0 p.1)

-- ---- one level

module _ (f : Follow) (n : f.names ≤ places) where
  small_at : (l x : ℕ) → is_at f l x ≡ true → x < f.names
  small_at l x e = occurs_small f x ((at_is f l x).0 e).0

  single_small : (l x : ℕ) → single_at f l x ≡ true → x < f.names
  single_small l x e = small_at l x ((and_is (is_at f l x) (not (loops f x))).0 (sym (single_at_lem f l x) ∙ e)).0

  leads_small : (l x : ℕ) → leads_at f l x ≡ true → x < f.names
  leads_small l x e = small_at l x ((and_is (is_at f l x) (leads f x)).0 (sym (leads_at_lem f l x) ∙ e)).0

  leads_past : (l x : ℕ) → f.names ≤ x → leads_at f l x ≡ false
  leads_past l x h = refuted (leads_at f l x) (λ e. absurd (omega (arith, leads_small l x e)))

  some_singles : (l : ℕ) → any_below places (single_at f l) ≡ any_below f.names (single_at f l)
  some_singles l =
      some_within places f.names (single_at f l) (single_at f l) (λ x e. (single_small l x e, e)) (λ x e. (omega (arith, single_small l x e), e))

  pub factors_at_lem : (l : ℕ) → factors places (single_at f l) (leads_at f l) ≡ factors_at f l
  unfolding factors factors_at
  factors_at_lem l =
      let e : places ≡ f.names + (places - f.names) = omega arith in
      let c : count_below places (leads_at f l) ≡ count_below f.names (leads_at f l) =
      ap (λ (k : ℕ). count_below k (leads_at f l)) e ∙ count_past f.names (places - f.names) (leads_at f l) (leads_past l) in
      rw (some_singles l, c)

  pub level_made : (l : ℕ) (m : Chain) → with_both places (fixed f l) (single_at f l) (leads_at f l) (same_group f) m ≡ with_level f l m
  unfolding with_both with_any with_level
  level_made l m =
      ap (λ (b : Bool). with_each (leads_at f l) (same_group f) (group_mode (fixed f l)) places (cond b (with_factor m (single_at f l) (singles_mode (fixed f l))) m)) (some_singles l)
      ∙ each_upto (leads_at f l) (same_group f) (group_mode (fixed f l)) f.names places _ n (λ x a b. leads_past l x a)

-- ---- the follow rows as facts

pub skips_view : (facts : Facts) (n : ℕ) (lower higher : NameSet) (r : Bool) →
    r ≡ steps_over places facts.empty (member facts.starts) (member facts.ends) (in_row facts.follows) (member lower) (member higher) →
    r ≡ steps_over places (view_of n facts).empty (view_of n facts).starts (view_of n facts).ends (view_of n facts).follows (member lower) (member higher)
unfolding in_row
skips_view facts n lower higher r e =
    let z : ◌≡◌ {A = ℕ → ℕ → Bool} (in_row facts.follows) (view_of n facts).follows = fun_ext (λ a. fun_ext (λ b. refl)) in
    e ∙ ap (λ (q : ℕ → ℕ → Bool). steps_over places facts.empty (member facts.starts) (member facts.ends) q (member lower) (member higher)) z

-- ---- level after level

-- The chain up to a level, and the names of the levels up to it and above it.
pub record Stage (f : Follow) (m : Chain) (lower higher : NameSet) : Type 0 where
  pub level : ℕ
  pub few : level ≤ last_level f - 1
  pub same : m ≡ chain_to places f level
  pub lower_law : (x : ℕ) → member lower x ≡ is_lower f (suc level) x
  pub higher_law : (x : ℕ) → member higher x ≡ is_higher f level x

pub stage_none : (f : Follow) (m : Chain) (lower higher : NameSet) → m ≡ empty_chain places → ((x : ℕ) → member lower x ≡ false) → ((x : ℕ) → member higher x ≡ occurs f x) → Stage f m lower higher
unfolding chain_to
stage_none f m lower higher e p q =
    record { level = 0; few = omega arith; same = e; lower_law = λ x. p x ∙ sym (lower_first f x); higher_law = λ x. q x ∙ sym (higher_first f x) }

module _ {f : Follow} {m : Chain} {lower higher : NameSet} (s : Shown f) (n : f.names ≤ places) (st : Stage f m lower higher) where
  pub stage_last : any_below places (member higher) ≡ false → m ≡ chain_of places f
  unfolding chain_of
  stage_last e = st.same ∙ ap (chain_to places f) (let h = level_none f s st.level none in let k = st.few in last h k)
    where
      none : (x : ℕ) → is_higher f st.level x ≡ false
      none x =
          refuted (is_higher f st.level x)
          (λ t. both_ways (any_below places (member higher)) ((some_is places (member higher)).1 (x, omega (arith, occurs_small f x ((higher_is f st.level x).0 t).0), st.higher_law x ∙ t)) e)

      last : last_level f - 1 ≤ st.level → st.level ≤ last_level f - 1 → st.level ≡ last_level f - 1
      last h k = omega arith

  -- one turn: a name is left
  module _ {reach behind : List ℕ} {looping lead : NameSet} (t : Tables f reach behind looping lead) (some : any_below places (member higher) ≡ true)
      (on above : NameSet) (on-law : (x : ℕ) → member on x ≡ (member higher x && not (in_rows places (in_row behind) (member higher) x)))
      (above-law : (x : ℕ) → member above x ≡ (member higher x && not (member on x))) where
    left : (x : ℕ) × (is_higher f st.level x ≡ true)
    left = let p = (some_is places (member higher)).0 some in (p.0, sym (st.higher_law p.0) ∙ p.2)

    more : (st.level < last_level f - 1) × (st.level < f.names)
    more = level_left f s st.level left.0 left.1

    pub on_is : (x : ℕ) → member on x ≡ is_at f (suc st.level) x
    on_is x =
        on-law x
        ∙ ap (λ (p : ℕ → Bool). p x && not (in_rows places (in_row behind) p x)) (fun_ext st.higher_law)
        ∙ ap (λ (r : ℕ → ℕ → Bool). is_higher f st.level x && not (in_rows places r (is_higher f st.level) x)) (fun_ext (λ a. fun_ext (t.behind_law a)))
        ∙ sym (peel f s places st.level n x)

    pub above_is : (x : ℕ) → member above x ≡ is_higher f (suc st.level) x
    above_is x = above-law x ∙ ap₂ (λ (u v : Bool). u && not v) (st.higher_law x) (on_is x) ∙ sym (higher_next f st.level x)

    -- fewer are left
    pub fewer : count_below places (member above) < count_below places (member higher)
    fewer =
        let p = (higher_is f st.level left.0).0 left.1 in
        let y = level_found f s st.level (level_of f left.0 - suc st.level) left.0 p.0 (omega (arith, p.1)) in
        let i = (at_is f (suc st.level) y.0).0 y.1 in
        count_lt places (member above) (member higher) (λ x h e. ((and_is (member higher x) (not (member on x))).0 (sym (above-law x) ∙ e)).0) y.0
        (omega (arith, occurs_small f y.0 i.0))
        (above_is y.0 ∙ refuted (is_higher f (suc st.level) y.0) (λ e. omega (arith, ((higher_is f (suc st.level) y.0).0 e).1, i.1)))
        (st.higher_law y.0 ∙ (higher_is f st.level y.0).1 (i.0, omega (arith, i.1)))

    module _ (skips : Bool) (skips-law : skips ≡ steps_over places f.empty f.starts f.ends f.follows (member lower) (member above))
        (singles leaders : NameSet) (singles-law : (x : ℕ) → member singles x ≡ (member on x && not (member looping x)))
        (leaders-law : (x : ℕ) → member leaders x ≡ (member on x && member lead x)) where
      skips_is : skips ≡ skipped f (suc st.level)
      skips_is =
          skips-law
          ∙ ap₂ (λ (p q : ℕ → Bool). steps_over places f.empty f.starts f.ends f.follows p q) (fun_ext st.lower_law) (fun_ext above_is)
          ∙ sym (skipped_over f s places (suc st.level) n (omega arith) (omega (arith, more.0)))

      singles_is : ◌≡◌ {A = ℕ → Bool} (member singles) (single_at f (suc st.level))
      singles_is = fun_ext (λ x. singles-law x ∙ ap₂ (λ (u v : Bool). u && not v) (on_is x) (t.loops_law x) ∙ sym (single_at_lem f (suc st.level) x))

      leaders_is : ◌≡◌ {A = ℕ → Bool} (member leaders) (leads_at f (suc st.level))
      leaders_is = fun_ext (λ x. leaders-law x ∙ ap₂ ◌&&◌ (on_is x) (t.leads_law x) ∙ sym (leads_at_lem f (suc st.level) x))

      factors_is : factors places (member singles) (member leaders) ≡ factors_at f (suc st.level)
      factors_is = ap₂ (factors places) singles_is leaders_is ∙ factors_at_lem f n (suc st.level)

      -- there is a place for each factor
      pub stage_room : m.count + factors places (member singles) (member leaders) ≤ places
      stage_room = omega (arith, ap (λ (o : Chain). o.count) st.same, factors_is, level_room f places st.level)

      fixed_is : (not skips && eqb (factors places (member singles) (member leaders)) 1) ≡ fixed f (suc st.level)
      unfolding fixed
      fixed_is = ap₂ (λ (u : Bool) (v : ℕ). not u && eqb v 1) skips_is factors_is

      pub stage_more : (next : Chain) (below : NameSet) →
          next ≡ with_both places (not skips && eqb (factors places (member singles) (member leaders)) 1) (member singles) (member leaders) (holds_in reach behind) m →
          ((x : ℕ) → member below x ≡ (member lower x || member on x)) → Stage f next below above
      unfolding chain_to
      stage_more next below e b =
          record {
            level = suc st.level;
            few = more.0;
            same = e ∙ made;
            lower_law = λ x. b x ∙ ap₂ ◌||◌ (st.lower_law x) (on_is x) ∙ sym (lower_next f (suc st.level) x);
            higher_law = above_is;
          }
        where
          made : with_both places (not skips && eqb (factors places (member singles) (member leaders)) 1) (member singles) (member leaders) (holds_in reach behind) m
              ≡ with_level f (suc st.level) (chain_to places f st.level)
          made =
              ap (λ (x : Bool). with_both places x (member singles) (member leaders) (holds_in reach behind) m) fixed_is
              ∙ ap₂ (λ (p q : ℕ → Bool). with_both places (fixed f (suc st.level)) p q (holds_in reach behind) m) singles_is leaders_is
              ∙ ap (λ (h : ℕ → ℕ → Bool). with_both places (fixed f (suc st.level)) (single_at f (suc st.level)) (leads_at f (suc st.level)) h m) (fun_ext (λ a. fun_ext (t.holds_law a)))
              ∙ level_made f n (suc st.level) m
              ∙ ap (with_level f (suc st.level)) st.same
