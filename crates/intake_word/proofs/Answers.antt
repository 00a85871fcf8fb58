-- The answer of each way through the checks.
-- Assumes nothing.
use Rattle.std.specs.Prelude.{Ok, Err}
use Prim.Native.Nat.{ℕ, ◌≤◌, ◌<◌}
use mathlib.Core.Path.{◌≡◌, ap}
use mathlib.Core.Bool.{Bool, true, false, not}
use mathlib.Core.List.{List}
use Rattle.refusal.specs.declared.Refusal.TheVariants.{BadNameCount, NotAModel, BadWord}
use Rattle.refusal.specs.declared.Acceptance.TheVariants.{Refused, Yes, No}
use Rattle.refusal.specs.Answer.{Answer, acceptance}
use Rattle.refusal.proofs.Decisions.{decides}
use Rattle.nameset.specs.Places.{places, good_count}
use Rattle.model.specs.declared.Chain.{Chain}
use Rattle.model.specs.declared.Model.{Model}
use Rattle.model.specs.Check.{is_model}
use Rattle.model.specs.Run.{accepts}
use Rattle.intake_word.specs.Acceptance.{bad_model, bad_word, answer_of, AcceptsWord}

-- ---- each way through the checks

module _ (n : ℕ) (m : Model) (w : List ℕ) where
  promised : (a : Answer Bool) → answer_of n m w ≡ a → AcceptsWord n m w (acceptance a)
  promised a e =
      let d = decides (answer_of n m w) a e in
      record { same = d.same; number = d.number; yes = d.yes }

  module _ {count : Bool} (e : count ≡ good_count n) where
    pub stops_count : count ≡ false → AcceptsWord n m w (Refused BadNameCount)
    unfolding acceptance answer_of
    stops_count c = promised (Err BadNameCount) (rw (← e, c))

    module _ (c : count ≡ true) {model : Bool} (f : model ≡ is_model places n m) where
      pub stops_model : model ≡ false → AcceptsWord n m w (Refused NotAModel)
      unfolding acceptance answer_of bad_model
      stops_model k = promised (Err NotAModel) (rw (← e, c, ← f, k))

      module _ (k : model ≡ true) {word : Bool} (g : word ≡ bad_word n w) where
        pub stops_word : word ≡ true → AcceptsWord n m w (Refused BadWord)
        unfolding acceptance answer_of bad_model
        stops_word h = promised (Err BadWord) (rw (← e, c, ← f, k, ← g, h))

        module _ (h : word ≡ false) {chain : Chain} (p : chain ≡ m.chain) {yes : Bool} (a : yes ≡ accepts chain w) where
          pub answers_yes : yes ≡ true → AcceptsWord n m w Yes
          unfolding acceptance answer_of bad_model
          answers_yes q = promised (Ok true) (rw (← e, c, ← f, k, ← g, h, ← p, ← a, q))

          pub answers_no : yes ≡ false → AcceptsWord n m w No
          unfolding acceptance answer_of bad_model
          answers_no q = promised (Ok false) (rw (← e, c, ← f, k, ← g, h, ← p, ← a, q))
