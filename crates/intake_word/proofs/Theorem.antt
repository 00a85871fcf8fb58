-- What callers may rely on, in the words of paper 01. The statements to read first.
-- Assumes nothing.
use Rattle.std.specs.Prelude.{Ok}
use Prim.Native.Nat.{ℕ, ◌≤◌, ◌<◌}
use mathlib.Core.Path.{◌≡◌, refl, sym, ◌∙◌, ap}
use mathlib.Core.Bool.{Bool, true, false, not, ◌||◌, false≢true}
use mathlib.Core.List.{List, Memᴰ}
use mathlib.Core.Logic.{◌↔◌, ◌⊎◌, inl, inr}
use borrow.Author.Tests.{ltb-true, ltb-false, lt-ltb, le-ltb, not-false}
use lib.Dec.{ltb}
use lib.ListN.{length}
use Rattle.refusal.specs.declared.Refusal.TheVariants.{BadNameCount, NotAModel, BadWord}
use Rattle.refusal.specs.declared.Acceptance.{Acceptance}
use Rattle.refusal.specs.declared.Acceptance.TheVariants.{Yes}
use Rattle.refusal.specs.Answer.{acceptance}
use Rattle.refusal.proofs.Answers.{check_given, given_same}
use Rattle.refusal.proofs.Decisions.{yes_given}
use Rattle.nameset.specs.Places.{places, good_count}
use Rattle.nameset.proofs.Count.{count_bounds, bounds_count}
use Rattle.book.specs.Book.{all_below}
use Rattle.model.specs.declared.Model.{Model}
use Rattle.model.specs.Check.{is_model}
use Rattle.model.specs.Accept.{Accepts, Names}
use Rattle.model.proofs.ModelLaw.{model_law}
use Rattle.model.proofs.Acceptance.{accepts_law}
use Rattle.intake_word.specs.Acceptance.{bad_model, longest_word, bad_word, answer_of, Passes, AcceptsWord}
use Rattle.intake_word.proofs.Words.{names_law, not_below}

-- ---- helpers

neither : (a b : Bool) → (a || b) ≡ false → (a ≡ false) × (b ≡ false)
neither true b e = absurd (false≢true (sym e))
neither false b e = (refl, e)

pub good_word : (n : ℕ) (w : List ℕ) → bad_word n w ≡ false → (length w ≤ longest_word) × Names n w
unfolding bad_word
good_word n w e =
    let p = neither (ltb longest_word (length w)) (not (all_below n w)) e in
    (ltb-false longest_word (length w) p.0, (names_law n w).0 (not-false (all_below n w) p.1))

pub word_good : (n : ℕ) (w : List ℕ) → (length w ≤ longest_word) × Names n w → bad_word n w ≡ false
unfolding bad_word
word_good n w h = rw (le-ltb longest_word (length w) h.0, (names_law n w).1 h.1)

-- 11: "above 255 names, or a number not below N"
pub bad_word_lem : (n : ℕ) (w : List ℕ) → (bad_word n w ≡ true) ↔ ((longest_word < length w) ⊎ ((x : ℕ) × Memᴰ x w × (n ≤ x)))
unfolding bad_word
bad_word_lem n w = (λ e. to (ltb longest_word (length w)) refl (all_below n w) refl e, from)
  where
    to : (a : Bool) → ltb longest_word (length w) ≡ a → (b : Bool) → all_below n w ≡ b → (a || not b) ≡ true → (longest_word < length w) ⊎ ((x : ℕ) × Memᴰ x w × (n ≤ x))
    to true p b q e = inl (ltb-true longest_word (length w) p)
    to false p true q e = absurd (false≢true e)
    to false p false q e = inr ((not_below n w).0 q)

    or_right : (a b : Bool) → b ≡ true → (a || b) ≡ true
    or_right true b e = refl
    or_right false b e = e

    from : (longest_word < length w) ⊎ ((x : ℕ) × Memᴰ x w × (n ≤ x)) → (ltb longest_word (length w) || not (all_below n w)) ≡ true
    from (inl l) = rw (lt-ltb longest_word (length w) l)
    from (inr h) = or_right (ltb longest_word (length w)) (not (all_below n w)) (ap not ((not_below n w).1 h))

-- ---- demand 2, acceptance

-- The call answers yes exactly when nothing stops it and the word is a joining of one part for each factor of the model
-- in order.
pub yes_exactly : (n : ℕ) (m : Model) (w : List ℕ) (r : Acceptance) → AcceptsWord n m w r → (r ≡ Yes) ↔ (Passes n m w × Accepts m.chain w)
unfolding acceptance answer_of bad_model bad_word
yes_exactly n m w r h = (λ e. to (yes_given (answer_of n m w) (sym h.same ∙ e)), λ p. h.same ∙ from p.0 p.1)
  where
    to : answer_of n m w ≡ Ok true → Passes n m w × Accepts m.chain w
    to e =
        let a = check_given (not (good_count n)) BadNameCount _ true e in
        let b = check_given (bad_model n m) NotAModel _ true a.1 in
        let c = check_given (bad_word n w) BadWord _ true b.1 in
        let count = count_bounds n (not-false (good_count n) a.0) in
        let word = good_word n w c.0 in (
          record {
            some = count.0;
            few = count.1;
            model = (model_law places n m).0 (not-false (is_model places n m) b.0);
            short = word.0;
            names = word.1;
          },
          (accepts_law m.chain w).0 (given_same _ _ c.1),
        )

    from : Passes n m w → Accepts m.chain w → acceptance (answer_of n m w) ≡ Yes
    from p a = rw (
      bounds_count n p.some p.few,
      (model_law places n m).1 p.model,
      le-ltb longest_word (length w) p.short,
      (names_law n w).1 p.names,
      (accepts_law m.chain w).1 a,
    )
