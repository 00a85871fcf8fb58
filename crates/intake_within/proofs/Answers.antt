-- The answer of each way through the checks.
-- Assumes nothing.
use Rattle.std.specs.Prelude.{Ok, Err}
use Prim.Native.Nat.{ℕ, ◌≤◌, ◌<◌}
use mathlib.Core.Path.{◌≡◌, refl, sym, ◌∙◌, subst}
use mathlib.Core.Bool.{Bool, true, false}
use mathlib.Core.List.{List}
use Rattle.std.specs.Prelude.{None, Some}
use native.Mathlib.Omega.{arith}
use borrow.Author.Tests.{lt-ltb, le-ltb}
use lib.ListN.{length}
use Rattle.refusal.specs.declared.Refusal.TheVariants.{BadNameCount, NotAModel, BufferTooShort}
use Rattle.refusal.specs.Answer.{Answer}
use Rattle.nameset.specs.Places.{places, good_count}
use Rattle.nameset.proofs.Count.{count_bounds}
use Rattle.model.specs.declared.Chain.{Chain}
use Rattle.model.specs.declared.Model.{Model}
use Rattle.model.specs.Record.{IsChain, IsModel}
use Rattle.model.specs.Check.{is_model}
use Rattle.model.proofs.ModelLaw.{model_law}
use Rattle.model_language.proofs.Theorem.{accepts_steps}
use Rattle.model_inclusion.specs.Inclusion.{longest_counterexample}
use Rattle.model_inclusion.specs.Search.{within}
use Rattle.model_places.specs.declared.Step.{Step as Arrow}
use Rattle.model_places.specs.Places.{point}
use Rattle.model_extremes.specs.declared.Extremes.{Extremes}
use Rattle.model_extremes.specs.Extremes.{Lower, AreExtremes}
use Rattle.model_extremes.proofs.Rows.{best_in}
use Rattle.model_within.specs.Pass.{Told}
use Rattle.model_within.proofs.Turns.{told_yes, told_no}
use Rattle.model_counterexample.specs.Word.{name_in, Stepping, Shown}
use Rattle.intake_within.specs.declared.Inclusion.{Inclusion}
use Rattle.intake_within.specs.declared.Inclusion.TheVariants.{Yes, No, Refused}
use Rattle.intake_within.specs.Comparison.{comparison_of, Leaves, ComparesModels}

-- ---- two chains

module _ (n : ℕ) (a b : Chain) (c : IsChain places n a) (d : IsChain places n b) where
  pub says_yes : (d₀ : List ℕ) → Told a b None → Leaves a b (Ok (within n a b)) Yes d₀ d₀
  says_yes d₀ q = rw (told_yes n a b c d q) (refl, refl)

  module _ (t : Arrow) (q : Told a b (Some t)) where
    -- the lowest names serve as a name of each factor
    pub stepping : (x : Extremes) → AreExtremes n a.factor b.factor x → Stepping a x.low (point t.from) (point t.to)
    unfolding name_in
    stepping x h =
        record {
          names = n;
          chain = c;
          named = best_in (Lower b.factor) n a c x.low h.lowest;
          step = q.0;
        }

    pub says_no : (stop : ℕ) (d₀ d₁ : List ℕ) → Shown a (point t.from) (point t.to) d₀ stop d₁ → Leaves a b (Ok (within n a b)) (No stop) d₀ d₁
    says_no stop d₀ d₁ s = rw (told_no n a b c d t q) (
      stop,
      refl,
      record {
        word = s.word;
        example =
            record {
              accepted = s.accepted;
              not_accepted = λ y. q.1 ((accepts_steps places n b d s.word).0 y (point t.from) (point t.to) s.shows);
            };
        short = omega (arith, s.short, c.few);
        size = omega (arith, s.put.place);
        buffer = s.put.holds;
      },
    )

-- ---- each way through the checks

module _ (n : ℕ) (a b : Model) (d₀ : List ℕ) where
  promised : (x : Answer Bool) (r : Inclusion) (d₁ : List ℕ) → comparison_of n a b (length d₀) ≡ x → Leaves a.chain b.chain x r d₀ d₁ → ComparesModels n a b r d₀ d₁
  promised x r d₁ e h = record { leaves = subst (λ (z : Answer Bool). Leaves a.chain b.chain z r d₀ d₁) (sym e) h }

  module _ {count : Bool} (e : count ≡ good_count n) where
    pub stops_count : count ≡ false → ComparesModels n a b (Refused BadNameCount) d₀ d₀
    unfolding comparison_of
    stops_count c = promised (Err BadNameCount) _ _ (rw (← e, c)) (refl, refl)

    module _ (c : count ≡ true) {first : Bool} (f : first ≡ is_model places n a) where
      pub stops_first : first ≡ false → ComparesModels n a b (Refused NotAModel) d₀ d₀
      unfolding comparison_of
      stops_first k = promised (Err NotAModel) _ _ (rw (← e, c, ← f, k)) (refl, refl)

      module _ (k : first ≡ true) {second : Bool} (g : second ≡ is_model places n b) where
        pub stops_second : second ≡ false → ComparesModels n a b (Refused NotAModel) d₀ d₀
        unfolding comparison_of
        stops_second h = promised (Err NotAModel) _ _ (rw (← e, c, ← f, k, ← g, h)) (refl, refl)

        module _ (h : second ≡ true) where
          pub stops_buffer : length d₀ < longest_counterexample → ComparesModels n a b (Refused BufferTooShort) d₀ d₀
          unfolding comparison_of
          stops_buffer l = promised (Err BufferTooShort) _ _ (rw (← e, c, ← f, k, ← g, h, lt-ltb (length d₀) longest_counterexample l)) (refl, refl)

          -- past the checks both records are chains over the names
          pub both_chains : (n ≤ places) × IsChain places n a.chain × IsChain places n b.chain
          both_chains =
              let one : IsModel places n a = (model_law places n a).0 (sym f ∙ k) in
              let other : IsModel places n b = (model_law places n b).0 (sym g ∙ h) in
              ((count_bounds n (sym e ∙ c)).1, one.chain, other.chain)

          pub answers : longest_counterexample ≤ length d₀ → (r : Inclusion) (d₁ : List ℕ) → Leaves a.chain b.chain (Ok (within n a.chain b.chain)) r d₀ d₁ → ComparesModels n a b r d₀ d₁
          unfolding comparison_of
          answers l r d₁ = promised (Ok (within n a.chain b.chain)) r d₁ (rw (← e, c, ← f, k, ← g, h, le-ltb (length d₀) longest_counterexample l))
