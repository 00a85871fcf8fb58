-- A means: the checks of the call for the model of a parent, in the order of paper 01's table, and its answer.
-- `model_refusals`, demand 3 and request U5 in crates/demands/proofs/Demands.antt say what that is. To be believed are
-- `sample_of`, `text_of` and `answer_model`.
-- Assumes nothing.
use Rattle.std.specs.Prelude.{ℕ, ◌≡◌, Bool, true, false, List, [], ◌∷◌, length, Ok}
use Rattle.nameset.specs.Places.{places}
use Rattle.refusal.specs.declared.Refusal.TheVariants.{BadParent, NoBlock}
use Rattle.refusal.specs.Answer.{Answer, onward, refuse_if, value_or}
use Rattle.book.specs.Book.{Book}
use Rattle.book.specs.Layout.{layout_of}
use Rattle.book.specs.Taken.{taken_book, bad_parent}
use Rattle.model.specs.declared.Model.{Model}
use Rattle.model.specs.Record.{due_model}
use Rattle.follow.specs.Sample.{words_of, has_text}
use Rattle.chain_sample.specs.Sample.{model_of_words}
use Rattle.intake_sample.specs.declared.InferredIn.{InferredIn}

-- "A parent's sample is the words of all its blocks."
unfoldable pub sample_of : Book → ℕ → List (List ℕ)
sample_of b parent = words_of parent b.blocks

-- The parent has text: some block of it does.
unfoldable pub text_of : Book → ℕ → Bool
text_of b parent = has_text parent b.blocks

-- No word: the parent has no block.
unfoldable pub no_word : List (List ℕ) → Bool
no_word [] = true
no_word (w ∷ ws) = false

-- The model of the parent's blocks over the book's names.
unfoldable pub parent_model : Book → ℕ → Model
parent_model b parent = model_of_words places (length b.names) (sample_of b parent) (text_of b parent)

-- 8, then "9: no block has it", else the model.
unfoldable pub model_in : Book → ℕ → Answer Model
model_in b parent =
    refuse_if (bad_parent b parent) BadParent (refuse_if (no_word (sample_of b parent)) NoBlock (Ok (parent_model b parent)))

-- The call's answer for any bytes as the book and any parent: 1 to 7, 16, 17, then those.
unfoldable pub model_answer : List ℕ → ℕ → Answer Model
model_answer bytes parent = onward (taken_book bytes) (λ b. model_in b parent)

-- The whole promise of the call, of its answer r.
abbrev pub InfersModel : List ℕ → ℕ → Answer Model → Type 0
InfersModel bytes parent r = r ≡ model_answer bytes parent

-- The model beside the number of an answer: of a refused call it is the model due.
abbrev pub answer_model : Answer Model → Model
answer_model r = value_or due_model r

-- The same answer, with the layout of the book for whoever goes back to its names.
unfoldable pub found_in : List ℕ → ℕ → Answer InferredIn
found_in bytes parent = onward (taken_book bytes) (λ b. onward (model_in b parent) (λ m. Ok (record { layout = layout_of b; model = m })))
