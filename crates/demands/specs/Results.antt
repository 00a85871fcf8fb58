-- To be believed: what a call that writes has done (demand 2; for a table of models U7), the case that demand 3 speaks
-- of, and demand 3.
-- Assumes nothing.
use Rattle.std.specs.Prelude.{ℕ, ◌+◌, ◌*◌, ◌≤◌, ◌<◌, ◌≡◌, List, [], ◌⊎◌, length, get_or, take, drop, Some}
use Rattle.refusal.specs.Answer.{Answer}
use Rattle.nameset.specs.Places.{places}
use Rattle.book.specs.Book.{Book}
use Rattle.book.specs.Taken.{TakenAs}
use Rattle.model.specs.declared.Model.{Model}
use Rattle.model.specs.Record.{IsModel}
use Rattle.model.specs.Accept.{Accepts, Names}
use Rattle.model_table.specs.Table.{row_size, row_of, entry_of, model_row}
use Rattle.model_language.specs.Word.{AcceptsAll}
use Rattle.intake_sample.specs.Inference.{sample_of, InfersModel}

-- The text is at the front of the buffer: a declaration in canonical form (paper 01's house spelling), a whole DTD, a
-- word as the numbers of its names, or the rows of a table of models. Its length was answered, and the bytes behind it
-- are those that the buffer held before.
pub record Wrote (text : List ℕ) (answered : ℕ) (before after : List ℕ) : Type 0 where
  pub size : answered ≡ length text
  pub front : take answered after ≡ text
  pub past : drop answered after ≡ drop answered before

-- The table of models has the row of the model m for the parent, and so tells that this is its model. It tells of every
-- other name what it told before, and all bytes but those of the parent's row are as before.
pub record HasPut (parent : ℕ) (m : Model) (before after : List ℕ) : Type 0 where
  pub row : row_of after parent ≡ model_row m
  pub own : entry_of after parent ≡ Some m
  pub others : (x : ℕ) → ¬ (x ≡ parent) → entry_of after x ≡ entry_of before x
  pub size : length after ≡ length before
  pub bytes : (i : ℕ) → (i < parent * row_size) ⊎ (parent * row_size + row_size ≤ i) → get_or after i 0 ≡ get_or before i 0

-- The call for a parent's model was made with bytes that are taken as the book b, which has a block of the parent: its
-- sample is not empty.
pub record Asked (bytes : List ℕ) (parent : ℕ) (r : Answer Model) (b : Book) : Type 0 where
  pub call : InfersModel bytes parent r
  pub read : TakenAs bytes b
  pub block : ¬ (sample_of b parent ≡ [])

-- Demand 3, of a record and the words of a sample over n names. "The minimal-model result is about parents without text
-- and compares their models only with records without text" (paper 02, U5).
pub record Minimal (n : ℕ) (ours : Model) (words : List (List ℕ)) : Type 0 where
  -- "our model for that parent is a chain expression", without text,
  pub model : IsModel places n ours
  pub no_text : ours.text ≡ 0
  -- "that accepts every one of them."
  pub accepts : AcceptsAll ours.chain words
  -- "Every other chain expression that accepts every word of that sample also accepts some word that ours does not
  -- accept." The proof gives such a word, and it is short: at most one name more than that chain has factors.
  pub no_better : (other : Model) → IsModel places n other → other.text ≡ 0 → AcceptsAll other.chain words → ¬ (other ≡ ours) →
      (w : List ℕ) × Accepts other.chain w × (¬ Accepts ours.chain w) × (length w ≤ other.chain.count + 1) × Names n w
