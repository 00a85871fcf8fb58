-- The rows of the names of a set: of one of its names and of the others, of no name, and of two sets.
-- Assumes nothing.
use Prim.Native.Nat.{ℕ, ◌<◌}
use mathlib.Core.Path.{◌≡◌, sym, ◌∙◌}
use mathlib.Core.Bool.{Bool, true, false, ◌&&◌, ◌||◌, not}
use mathlib.Core.Logic.{◌⊎◌, inl, inr, ⊎_elim, ◌↔◌}
use native.Mathlib.Decide.{ℕ_discrete}
use borrow.Author.Tests.{ne_eqb}
use lib.Dec.{eqb}
use Rattle.nameset.proofs.Tests.{same_test}
use Rattle.chain_levels.proofs.Tests.{and_is, or_is, both_ways, refuted, some_is}
use Rattle.chain_peel.specs.Sets.{in_rows}

module _ (size : ℕ) (rows : ℕ → ℕ → Bool) where
  pub rows_is : (set : ℕ → Bool) (y : ℕ) → (in_rows size rows set y ≡ true) ↔ ((x : ℕ) × (x < size) × (set x ≡ true) × (rows x y ≡ true))
  unfolding in_rows
  rows_is set y = (
    λ e. let p = (some_is size (λ x. set x && rows x y)).0 e in let q = (and_is (set p.0) (rows p.0 y)).0 p.2 in (p.0, p.1, q.0, q.1),
    λ p. (some_is size (λ x. set x && rows x y)).1 (p.0, p.1, (and_is (set p.0) (rows p.0 y)).1 (p.2, p.3)),
  )

  part : (p q : ℕ → Bool) (y : ℕ) → ((x : ℕ) → p x ≡ true → q x ≡ true) → in_rows size rows p y ≡ true → in_rows size rows q y ≡ true
  part p q y in-q e = let r = (rows_is p y).0 e in (rows_is q y).1 (r.0, r.1, in-q r.0 r.2, r.3)

  pub rows_none : (set : ℕ → Bool) (y : ℕ) → ((x : ℕ) → set x ≡ false) → in_rows size rows set y ≡ false
  rows_none set y none = refuted _ (λ e. let r = (rows_is set y).0 e in both_ways (set r.0) r.2 (none r.0))

  pub rows_both : (p q both : ℕ → Bool) (y : ℕ) → ((x : ℕ) → both x ≡ (p x || q x)) → in_rows size rows both y ≡ (in_rows size rows p y || in_rows size rows q y)
  rows_both p q both y law =
      same_test _ _ (λ e. (or_is _ _).1 (there ((rows_is both y).0 e)))
      (λ e. ⊎_elim (part p both y (λ x t. law x ∙ (or_is (p x) (q x)).1 (inl t))) (part q both y (λ x t. law x ∙ (or_is (p x) (q x)).1 (inr t))) ((or_is _ _).0 e))
    where
      there : ((x : ℕ) × (x < size) × (both x ≡ true) × (rows x y ≡ true)) → (in_rows size rows p y ≡ true) ⊎ (in_rows size rows q y ≡ true)
      there (x, h, e, r) = ⊎_elim (λ t. inl ((rows_is p y).1 (x, h, t, r))) (λ t. inr ((rows_is q y).1 (x, h, t, r))) ((or_is (p x) (q x)).0 (sym (law x) ∙ e))

  -- the row of the name a of the set, and those of the others
  pub rows_first : (set others : ℕ → Bool) (a y : ℕ) → a < size → set a ≡ true → ((x : ℕ) → others x ≡ (set x && not (eqb a x))) → in_rows size rows set y ≡ (rows a y || in_rows size rows others y)
  rows_first set others a y h e law =
      same_test _ _ (λ t. (or_is (rows a y) _).1 (there ((rows_is set y).0 t)))
      (λ t. ⊎_elim (λ q. (rows_is set y).1 (a, h, e, q)) (part others set y (λ x o. ((and_is (set x) (not (eqb a x))).0 (sym (law x) ∙ o)).0)) ((or_is (rows a y) _).0 t))
    where
      there : ((x : ℕ) × (x < size) × (set x ≡ true) × (rows x y ≡ true)) → (rows a y ≡ true) ⊎ (in_rows size rows others y ≡ true)
      there (x, l, s, r) = go (ℕ_discrete a x)
        where
          go : Dec (a ≡ x) → (rows a y ≡ true) ⊎ (in_rows size rows others y ≡ true)
          go (yes u) = inl (rw u r)
          go (no u) = inr ((rows_is others y).1 (x, l, law x ∙ rw (s, ne_eqb a x u), r))
