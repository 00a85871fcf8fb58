-- What callers may rely on, in the words of request U4 of paper 02. The statements to read first.
-- Assumes nothing.
use Rattle.std.specs.Prelude.{Ok, Err}
use Prim.Native.Nat.{ℕ, ◌<◌}
use mathlib.Core.Path.{◌≡◌, refl, sym, ◌∙◌, ap, subst}
use mathlib.Core.Bool.{Bool, true, false, not, false≢true}
use mathlib.Core.List.{List}
use mathlib.Core.Logic.{◌↔◌}
use native.Mathlib.Omega.{arith}
use borrow.Author.Tests.{ltb-false, le-ltb, not-false}
use lib.Dec.{ltb}
use lib.ListN.{length}
use Rattle.refusal.specs.declared.Refusal.TheVariants.{BadNameCount, NotAModel, BufferTooShort}
use Rattle.refusal.specs.Answer.{Answer, answer_number}
use Rattle.refusal.proofs.Laws.{number_positive}
use Rattle.refusal.proofs.Answers.{check_given, given_same}
use Rattle.nameset.specs.Places.{places, good_count}
use Rattle.nameset.proofs.Count.{count_bounds, bounds_count}
use Rattle.model.specs.declared.Model.{Model}
use Rattle.model.specs.Check.{is_model}
use Rattle.model.proofs.ModelLaw.{model_law}
use Rattle.model_inclusion.specs.Inclusion.{Within, longest_counterexample}
use Rattle.model_inclusion.specs.Search.{within}
use Rattle.model_inclusion.proofs.Search.{within_law, not_within}
use Rattle.intake_within.specs.declared.Inclusion.{Inclusion}
use Rattle.intake_within.specs.Comparison.{comparison_of, inclusion_number, inclusion_yes, inclusion_length, PassesBoth, WordWritten, Leaves, ComparesModels}

-- ---- what the checks let pass

module _ (n : ℕ) (first second : Model) (room : ℕ) where
  given_passes : (b : Bool) → comparison_of n first second room ≡ Ok b → PassesBoth n first second room × (within n first.chain second.chain ≡ b)
  unfolding comparison_of
  given_passes b e =
      let c = check_given (not (good_count n)) BadNameCount _ b e in
      let f = check_given (not (is_model places n first)) NotAModel _ b c.1 in
      let s = check_given (not (is_model places n second)) NotAModel _ b f.1 in
      let r = check_given (ltb room longest_counterexample) BufferTooShort _ b s.1 in
      let count = count_bounds n (not-false (good_count n) c.0) in (
        record {
          some = count.0;
          few = count.1;
          first_model = (model_law places n first).0 (not-false (is_model places n first) f.0);
          second_model = (model_law places n second).0 (not-false (is_model places n second) s.0);
          enough = ltb-false room longest_counterexample r.0;
        },
        given_same _ _ r.1,
      )

  passes_given : PassesBoth n first second room → comparison_of n first second room ≡ Ok (within n first.chain second.chain)
  unfolding comparison_of
  passes_given p = rw (
    bounds_count n p.some p.few,
    (model_law places n first).1 p.first_model,
    (model_law places n second).1 p.second_model,
    le-ltb room longest_counterexample p.enough,
  )

  pass_within : PassesBoth n first second room → (within n first.chain second.chain ≡ true) ↔ Within first.chain second.chain
  pass_within p = within_law places n first.chain second.chain p.first_model.chain p.second_model.chain (omega arith)

-- ---- the call

module _ (n : ℕ) (first second : Model) (r : Inclusion) (before after : List ℕ) (call : ComparesModels n first second r before after) where
  -- The promise, for an answer that is known.
  leaves : (x : Answer Bool) → comparison_of n first second (length before) ≡ x → Leaves first.chain second.chain x r before after
  leaves x e = subst (λ (z : Answer Bool). Leaves first.chain second.chain z r before after) e call.leaves

  number_by : (x : Answer Bool) → Leaves first.chain second.chain x r before after → inclusion_number r ≡ answer_number x
  unfolding inclusion_number
  number_by (Ok true) h = ap inclusion_number h.0
  number_by (Ok false) h = ap inclusion_number h.1
  number_by (Err f) h = ap inclusion_number h.0

  pub number_is : inclusion_number r ≡ answer_number (comparison_of n first second (length before))
  number_is = number_by (comparison_of n first second (length before)) call.leaves

  -- A refused call answers no and the length 0, and keeps the buffer.
  pub refused_keeps : 0 < inclusion_number r → (inclusion_yes r ≡ false) × (inclusion_length r ≡ 0) × (after ≡ before)
  unfolding inclusion_yes inclusion_length inclusion_number
  refused_keeps l = go (comparison_of n first second (length before)) call.leaves
    where
      go : (x : Answer Bool) → Leaves first.chain second.chain x r before after → (inclusion_yes r ≡ false) × (inclusion_length r ≡ 0) × (after ≡ before)
      go (Ok true) h = absurd (omega (arith, ap inclusion_number h.0))
      go (Ok false) h = absurd (omega (arith, ap inclusion_number h.1))
      go (Err f) h = (ap inclusion_yes h.0, ap inclusion_length h.0, h.1)

  -- Yes exactly when nothing stops the call and every word that the first accepts is accepted by the second.
  pub yes_exactly : (inclusion_yes r ≡ true) ↔ (PassesBoth n first second (length before) × Within first.chain second.chain)
  unfolding inclusion_yes
  yes_exactly = (λ e. to e (comparison_of n first second (length before)) refl call.leaves, from)
    where
      to : inclusion_yes r ≡ true → (x : Answer Bool) → comparison_of n first second (length before) ≡ x → Leaves first.chain second.chain x r before after
          → PassesBoth n first second (length before) × Within first.chain second.chain
      to e (Ok true) q h = let p = given_passes n first second (length before) true q in (p.0, (pass_within n first second (length before) p.0).0 p.1)
      to e (Ok false) q h = absurd (false≢true (sym (ap inclusion_yes h.1) ∙ e))
      to e (Err f) q h = absurd (false≢true (sym (ap inclusion_yes h.0) ∙ e))

      from : PassesBoth n first second (length before) × Within first.chain second.chain → inclusion_yes r ≡ true
      from (p, w) = ap inclusion_yes (leaves (Ok true) (passes_given n first second (length before) p ∙ ap Ok ((pass_within n first second (length before) p).1 w))).0

  -- On yes the length is 0, and all bytes are kept.
  pub yes_keeps : inclusion_yes r ≡ true → (inclusion_length r ≡ 0) × (after ≡ before)
  unfolding inclusion_yes inclusion_length
  yes_keeps e = go (comparison_of n first second (length before)) call.leaves
    where
      go : (x : Answer Bool) → Leaves first.chain second.chain x r before after → (inclusion_length r ≡ 0) × (after ≡ before)
      go (Ok true) h = (ap inclusion_length h.0, h.1)
      go (Ok false) h = absurd (false≢true (sym (ap inclusion_yes h.1) ∙ e))
      go (Err f) h = absurd (false≢true (sym (ap inclusion_yes h.0) ∙ e))

  -- No, of a call that was not refused: a counterexample is in the buffer.
  pub no_writes : inclusion_number r ≡ 0 → inclusion_yes r ≡ false → WordWritten first.chain second.chain (inclusion_length r) before after
  unfolding inclusion_yes inclusion_length inclusion_number
  no_writes z e = go (comparison_of n first second (length before)) call.leaves
    where
      go : (x : Answer Bool) → Leaves first.chain second.chain x r before after → WordWritten first.chain second.chain (inclusion_length r) before after
      go (Ok true) h = absurd (false≢true (sym e ∙ ap inclusion_yes h.0))
      go (Ok false) (l, q, w) = subst (λ (k : ℕ). WordWritten first.chain second.chain k before after) (sym (ap inclusion_length q)) w
      go (Err f) h = absurd (let p : 0 < answer_number {A = Bool} (Err f) = number_positive f in omega (arith, ap inclusion_number h.0))

  -- No exactly when nothing stops the call and some word of the first is not one of the second.
  pub no_exactly : ((inclusion_number r ≡ 0) × (inclusion_yes r ≡ false)) ↔ (PassesBoth n first second (length before) × (¬ Within first.chain second.chain))
  unfolding inclusion_yes inclusion_number
  no_exactly = (λ (z, e). to z e (comparison_of n first second (length before)) refl call.leaves, λ (p, d). from p d (within n first.chain second.chain) refl)
    where
      to : inclusion_number r ≡ 0 → inclusion_yes r ≡ false → (x : Answer Bool) → comparison_of n first second (length before) ≡ x → Leaves first.chain second.chain x r before after
          → PassesBoth n first second (length before) × (¬ Within first.chain second.chain)
      to z e (Ok true) q h = absurd (false≢true (sym e ∙ ap inclusion_yes h.0))
      to z e (Ok false) q (l, k, w) = ((given_passes n first second (length before) false q).0, not_within first.chain second.chain w.word w.example)
      to z e (Err f) q h = absurd (let p : 0 < answer_number {A = Bool} (Err f) = number_positive f in omega (arith, ap inclusion_number h.0))

      from : PassesBoth n first second (length before) → ¬ Within first.chain second.chain → (b : Bool) → within n first.chain second.chain ≡ b → (inclusion_number r ≡ 0) × (inclusion_yes r ≡ false)
      from p d true e = absurd (d ((pass_within n first second (length before) p).0 e))
      from p d false e =
          let h = leaves (Ok false) (passes_given n first second (length before) p ∙ ap Ok e) in
          (ap inclusion_number h.1, ap inclusion_yes h.1)
