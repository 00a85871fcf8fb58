-- A means: the checks of the call for acceptance of a word, in the order of paper 01's table, and its answer.
-- `word_refusals` and `accepted_exactly` in crates/demands/proofs/Demands.antt say what that is. To be believed are
-- `Passes`, `longest_word`, `acceptance_number` and `acceptance_yes`.
-- Assumes nothing.
use Rattle.std.specs.Prelude.{◌≡◌, ℕ, ◌≤◌, ◌<◌, Bool, ◌||◌, not, List, ltb, length, Ok}
use Rattle.refusal.specs.declared.Refusal.TheVariants.{BadNameCount, NotAModel, BadWord}
use Rattle.refusal.specs.declared.Acceptance.{Acceptance}
use Rattle.refusal.specs.Answer.{Answer, refuse_if, answer_number}
pub use Rattle.refusal.specs.Answer.{acceptance, acceptance_number, acceptance_yes, yes_due}
use Rattle.nameset.specs.Places.{places, good_count}
use Rattle.book.specs.Book.{all_below}
use Rattle.model.specs.declared.Model.{Model}
use Rattle.model.specs.Record.{IsModel}
use Rattle.model.specs.Check.{is_model}
use Rattle.model.specs.Accept.{Names}
use Rattle.model.specs.Run.{accepts}

-- 10: "no chain over N names", or "a text record of any other shape".
unfoldable pub bad_model : ℕ → Model → Bool
bad_model n m = not (is_model places n m)

-- The most names that a word may have in a call.
abbrev pub longest_word : ℕ
longest_word = 255

-- 11: "above 255 names, or a number not below N".
unfoldable pub bad_word : ℕ → List ℕ → Bool
bad_word n w = ltb longest_word (length w) || not (all_below n w)

-- The call's answer: the first check that applies (3: "0 or above 64" for the count N), else whether the chain of m
-- accepts w: "Acceptance looks at child names".
unfoldable pub answer_of : ℕ → Model → List ℕ → Answer Bool
answer_of n m w =
    refuse_if (not (good_count n)) BadNameCount (refuse_if (bad_model n m) NotAModel (refuse_if (bad_word n w) BadWord (Ok (accepts m.chain w))))

-- Nothing stops the call.
pub record Passes (n : ℕ) (m : Model) (w : List ℕ) : Type 0 where
  pub some : 0 < n
  pub few : n ≤ places
  pub model : IsModel places n m
  pub short : length w ≤ longest_word
  pub names : Names n w

-- The whole promise of the call, of its answer r.
pub record AcceptsWord (n : ℕ) (m : Model) (w : List ℕ) (r : Acceptance) : Type 0 where
  pub same : r ≡ acceptance (answer_of n m w)
  pub number : acceptance_number r ≡ answer_number (answer_of n m w)
  pub yes : acceptance_yes r ≡ yes_due (answer_of n m w)
