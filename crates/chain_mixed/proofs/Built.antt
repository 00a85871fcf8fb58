-- One starred factor of the names of a set, if it has any: a chain that may have text, and which names it holds.
-- Assumes nothing.
use Prim.Native.Nat.{ℕ, ◌+◌, ◌≤◌, ◌<◌}
use mathlib.Core.Path.{◌≡◌, refl, sym, ◌∙◌, ap, ap₂, fun_ext, subst}
use mathlib.Core.Bool.{Bool, true, false, cond, ◌||◌}
use mathlib.Core.Logic.{◌↔◌, ◌⊎◌, inl, inr}
use native.Mathlib.Omega.{arith}
use Rattle.nameset.specs.Places.{places}
use Rattle.nameset.specs.declared.NameSet.{NameSet}
use Rattle.nameset.specs.Set.{member}
use Rattle.model.specs.declared.Chain.{Chain}
use Rattle.model.specs.Record.{no_factor, factor_of, mode_of, IsChain, MayHaveText, empty_chain}
use Rattle.model.specs.Build.{with_factor}
use Rattle.model.proofs.Empty.{empty_chain_lem}
use Rattle.follow.specs.declared.Facts.{Facts}
use Rattle.follow.specs.View.{view_of}
use Rattle.chain_levels.specs.Below.{any_below}
use Rattle.chain_levels.specs.Chain.{with_any}
use Rattle.chain_levels.proofs.Tests.{some_is, refuted, both_ways}
use Rattle.chain_peel.specs.Shown.{Shown}
use Rattle.chain_rows.specs.Rows.{among_rows}
use Rattle.chain.proofs.Sets.{occurs_law as occurs-names}
use Rattle.chain_mixed.specs.Mixed.{mixed_chain}
use Rattle.chain_minimal.proofs.Append.{with_sizes, with_count, with_new, with_old, with_mode_lem, with_modes, empty_sizes, empty_count, empty_factor, empty_mode}

-- a chain of at most one factor, which is starred and holds the names of the set
pub record Starred (size n : ℕ) (holds : ℕ → Bool) (c : Chain) : Type 0 where
  pub chain : IsChain size n c
  pub text : MayHaveText c
  pub names : (x : ℕ) → (factor_of c x ≡ 0) ↔ (holds x ≡ true)

module _ (size n : ℕ) (few : n ≤ size) (holds : ℕ → Bool) (small : (x : ℕ) → holds x ≡ true → x < n) where
  -- ---- no name

  none_starred : any_below size holds ≡ false → Starred size n holds (empty_chain size)
  none_starred none = record {
    chain = empty_chain_lem size n;
    text = inl (empty_count size);
    names = λ x. (λ e. absurd (omega (arith, empty_factor size x)), λ h. absurd (both_ways _ ((some_is size holds).1 (x, omega (arith, small x h), h)) none));
  }

  -- ---- some name

  module _ (some : any_below size holds ≡ true) where
    abbrev c : Chain
    c = with_factor (empty_chain size) holds 3

    held : (x : ℕ) → holds x ≡ true → factor_of c x ≡ 0
    held x h = with_new (empty_chain size) holds 3 x (omega (arith, small x h, (empty_sizes size).0)) h ∙ empty_count size

    left : (x : ℕ) → holds x ≡ false → factor_of c x ≡ no_factor
    left x h = with_old (empty_chain size) holds 3 x h ∙ empty_factor size x

    one : c.count ≡ 1
    one = omega (arith, with_count (empty_chain size) holds 3, empty_count size)

    star : mode_of c 0 ≡ 3
    star =
        let r = (some_is size holds).0 some in
        subst (λ (i : ℕ). mode_of c i ≡ 3) (empty_count size) (with_mode_lem (empty_chain size) holds 3 (omega (arith, r.1, (empty_sizes size).1, empty_count size)))

    placed : (x : ℕ) (b : Bool) → holds x ≡ b → (factor_of c x ≡ no_factor) ⊎ (factor_of c x < c.count)
    placed x true h = inr (omega (arith, held x h, one))
    placed x false h = inl (left x h)

    rest : (i : ℕ) → c.count ≤ i → mode_of c i ≡ 0
    rest i l = with_modes (empty_chain size) holds 3 i (λ e. omega (arith, one, empty_count size)) ∙ empty_mode size i

    holds_it : (x : ℕ) (b : Bool) → holds x ≡ b → factor_of c x ≡ 0 → holds x ≡ true
    holds_it x true h e = h
    holds_it x false h e = absurd (omega (arith, left x h))

    is_chain_lem : IsChain size n c
    is_chain_lem =
        let r = (some_is size holds).0 some in
        record {
          factors = (with_sizes (empty_chain size) holds 3).0 ∙ (empty_sizes size).0;
          modes = (with_sizes (empty_chain size) holds 3).1 ∙ (empty_sizes size).1;
          few = omega (arith, one, r.1);
          placed = λ x l. placed x (holds x) refl;
          others = λ x l. left x (refuted (holds x) (λ h. omega (arith, small x h)));
          named = λ i l. (r.0, small r.0 r.2, omega (arith, held r.0 r.2, one));
          known = λ i l. let z : i ≡ 0 = omega (arith, one) in omega (arith, subst (λ (k : ℕ). mode_of c k ≡ 3) (sym z) star);
          rest = rest;
        }

    some_starred : Starred size n holds c
    some_starred = record { chain = is_chain_lem; text = inr (one, star); names = λ x. (holds_it x (holds x) refl, held x) }

  pub any_starred : Starred size n holds (with_any size holds 3 (empty_chain size))
  unfolding with_any
  any_starred = go (any_below size holds) refl
    where
      go : (b : Bool) → any_below size holds ≡ b → Starred size n holds (cond b (with_factor (empty_chain size) holds 3) (empty_chain size))
      go true e = some_starred e
      go false e = none_starred e

-- ---- as the code has it

-- There is room for one factor.
pub one_room : (m : Chain) (names : NameSet) → m ≡ empty_chain places → m.count + cond (any_below places (member names)) 1 0 ≤ places
unfolding empty_chain
one_room m names e = go (any_below places (member names))
  where
    go : (b : Bool) → m.count + cond b 1 0 ≤ places
    go true = omega (arith, ap (λ (c : Chain). c.count) e)
    go false = omega (arith, ap (λ (c : Chain). c.count) e)

-- The set that was gathered has the names that occur.
pub mixed_is : (facts : Facts) (n : ℕ) (names : NameSet) (m r : Chain) → Shown (view_of n facts) →
    ((x : ℕ) → member names x ≡ (member facts.starts x || among_rows n facts.follows x)) → m ≡ empty_chain places →
    r ≡ with_any places (member names) 3 m → r ≡ mixed_chain places (view_of n facts)
unfolding mixed_chain
mixed_is facts n names m r s law e h =
    h ∙ ap₂ (λ (p : ℕ → Bool) (c : Chain). with_any places p 3 c) (fun_ext (λ x. law x ∙ occurs-names facts n s x)) e
