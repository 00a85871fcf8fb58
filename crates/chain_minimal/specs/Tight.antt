-- A means: `is_tight` and `only_ours` in crates/chain_minimal/proofs/Main.antt join it to `Accepts`.
-- Assumes nothing.
-- Chains that are tight for a sample: no step of theirs can be spared.
use Rattle.std.specs.Prelude.{ℕ, suc, ◌<◌, ◌≡◌, true, false}
use Rattle.model.specs.declared.Chain.{Chain}
use Rattle.model.specs.Record.{factor_of, mode_of}
use Rattle.model_language.specs.Word.{Point, name}
use Rattle.model_language.specs.Reach.{Reach}
use Rattle.model_language.specs.Step.{optional, repeats, place, Step}

-- S is the steps of the sample.
pub record Tight (S : Point → Point → Type 0) (m : Chain) : Type 0 where
  -- every step of the sample is a step of the chain
  pub sound : (u v : Point) → S u v → Step m u v
  -- every name that a factor holds occurs in the sample
  pub occurs : (x : ℕ) → factor_of m x < m.count → (u : Point) × S u (name x)
  -- any two names of a factor that repeats, also one name twice, reach each other by steps of the sample
  pub loops : (x y : ℕ) → factor_of m x < m.count → factor_of m x ≡ factor_of m y → repeats (mode_of m (factor_of m x)) ≡ true → Reach S x y
  -- between two neighbouring factors that do not repeat there is a step of the sample
  pub neighbours : (i : ℕ) → suc i < m.count → repeats (mode_of m i) ≡ false → repeats (mode_of m (suc i)) ≡ false →
      (a : ℕ) × (b : ℕ) × (factor_of m a ≡ i) × (factor_of m b ≡ suc i) × S (name a) (name b)
  -- over each optional factor there is a step of the sample
  pub skips : (i : ℕ) → i < m.count → optional (mode_of m i) ≡ true → (u : Point) × (v : Point) × S u v × (place m u < suc i) × (suc i < place m v)
