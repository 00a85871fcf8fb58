-- What callers may rely on, of the two calls that put models into a table. The statements to read first.
-- Assumes nothing.
use Rattle.std.specs.Prelude.{⊤, Ok, Err}
use Prim.Native.Nat.{ℕ, ◌+◌, ◌*◌, ◌≤◌, ◌<◌}
use mathlib.Core.Path.{◌≡◌, refl, sym, ◌∙◌, ap, subst}
use mathlib.Core.Bool.{Bool, true, false, not, cond}
use mathlib.Core.List.{List, [], ◌++◌}
use mathlib.Core.Logic.{◌⊎◌}
use borrow.Author.Tests.{ltb-false, leb-false, not-false}
use lib.Dec.{leb, ltb}
use lib.ListN.{length, get_or, drop}
use Rattle.refusal.specs.declared.Refusal.{Refusal}
use Rattle.refusal.specs.declared.Refusal.TheVariants.{BadNameCount, BadParent, NotAModel, BufferTooShort}
use Rattle.refusal.specs.Answer.{Answer, value_or, answer_number}
use Rattle.refusal.proofs.Answers.{onward_given, check_given, given_same, given_refused, refused_same}
use Rattle.nameset.specs.Places.{places, good_count}
use Rattle.book.specs.Book.{Book}
use Rattle.book.specs.Taken.{taken_book, TakenAs}
use Rattle.book.proofs.Taken.{is_book}
use Rattle.model.specs.declared.Model.{Model}
use Rattle.model.specs.Record.{IsModel}
use Rattle.model.specs.Check.{is_model}
use Rattle.model.proofs.ModelLaw.{model_law}
use Rattle.byte_buffer.specs.Put.{wrote}
use Rattle.declaration_writing.specs.Write.{fitted, length_due, written, buffer_after}
use Rattle.declaration_writing.proofs.Back.{buffer_given, buffer_kept, written_refused, written_given}
use Rattle.intake_sample.specs.Inference.{sample_of, no_word, parent_model}
use Rattle.intake_sample.proofs.Samples.{no_word_lem, some_word_lem, has_block, sample_model}
use Rattle.std.proofs.Common.{Some, None}
use Rattle.model_table.specs.Table.{row_size, row_of, entry_of, model_row, empty_row}
use Rattle.model_table_rows.proofs.Rows.{model_size, empty_size, rows_size}
use Rattle.intake_models.specs.Putting.{put_answer, ended, PutsModel}
use Rattle.intake_models.specs.Filling.{book_row, models_of, models_answer, WritesModels}
use Rattle.intake_models.proofs.Entries.{same_entry, model_entry, empty_entry, same_size, byte_kept, row_kept, row_put, row_among}

-- ---- the call that puts a model

-- a call that answers no value ends as the answer that is due
ended_refused : {A : Type 0} (a : Answer A) (f : Refusal) → ended a ≡ Err f → a ≡ Err f
ended_refused (Ok x) f e = absurd (given_refused tt f e)
ended_refused (Err g) f e = ap Err (refused_same {A = ⊤} g f e)

ended_given : {A : Type 0} (a : Answer A) → ended a ≡ Ok tt → (x : A) × (a ≡ Ok x)
ended_given (Ok x) e = (x, refl)
ended_given (Err g) e = absurd (given_refused tt g (sym e))

pub ended_number : {A : Type 0} (a : Answer A) → answer_number (ended a) ≡ answer_number a
ended_number (Ok x) = refl
ended_number (Err g) = refl

-- What the checks of a call that was not refused have let pass, and the table then.
record Passed (n parent : ℕ) (m : Model) (before after : List ℕ) : Type 0 where
  below : parent < n
  model : IsModel places n m
  room : parent * row_size + row_size ≤ length before
  holds : after ≡ wrote before (parent * row_size) (model_row m)

module _ (n parent : ℕ) (m : Model) (r : Answer ⊤) (before after : List ℕ) (call : PutsModel n parent m r before after) where
  -- A refused call leaves every byte.
  pub put_kept : (f : Refusal) → r ≡ Err f → after ≡ before
  put_kept f e = call.1 ∙ ap (value_or before) (ended_refused (put_answer n parent m before) f (sym call.0 ∙ e))

  module _ (done : r ≡ Ok tt) where
    passed : Passed n parent m before after
    unfolding put_answer
    passed =
        let a = ended_given (put_answer n parent m before) (sym call.0 ∙ done) in
        let c = check_given (not (good_count n)) BadNameCount _ a.0 a.1 in
        let p = check_given (leb n parent) BadParent _ a.0 c.1 in
        let k = check_given (not (is_model places n m)) NotAModel _ a.0 p.1 in
        let l = check_given (ltb (length before) (parent * row_size + row_size)) BufferTooShort _ a.0 k.1 in
        record {
          below = leb-false n parent p.0;
          model = (model_law places n m).0 (not-false (is_model places n m) k.0);
          room = ltb-false (length before) (parent * row_size + row_size) l.0;
          holds = call.1 ∙ ap (value_or before) a.1 ∙ sym (given_same _ _ l.1);
        }

    size : length (model_row m) ≡ row_size
    size = model_size n m passed.model

    -- The table then has the row of the model, and so the model, as the parent's,
    pub put_row_lem : row_of after parent ≡ model_row m
    put_row_lem = ap (λ (t : List ℕ). row_of t parent) passed.holds ∙ row_put before parent (model_row m) size passed.room

    pub put_entry : entry_of after parent ≡ Some m
    put_entry = model_entry after parent n m passed.model put_row_lem

    -- tells of every other name what it told before, whether or not that name's row is whole,
    pub put_others : (x : ℕ) → ¬ (x ≡ parent) → entry_of after x ≡ entry_of before x
    put_others x other = same_entry after before x (ap (λ (t : List ℕ). row_of t x) passed.holds ∙ row_kept before parent (model_row m) size x other)

    -- and has its old bytes but for those of the row.
    pub put_bytes : (k : ℕ) → (k < parent * row_size) ⊎ (parent * row_size + row_size ≤ k) → get_or after k 0 ≡ get_or before k 0
    put_bytes k outside = ap (λ (t : List ℕ). get_or t k 0) passed.holds ∙ byte_kept before parent (model_row m) size k outside

    pub put_length : length after ≡ length before
    put_length = ap length passed.holds ∙ same_size before parent (model_row m) size

-- ---- the call that fills a table from a book

module _ (bytes : List ℕ) (b : Book) (taken : TakenAs bytes b) where
  row_size_lem : (x : ℕ) → length (book_row b x) ≡ row_size
  unfolding book_row
  row_size_lem x = go (no_word (sample_of b x)) refl
    where
      go : (none : Bool) → no_word (sample_of b x) ≡ none → length (cond none empty_row (model_row (parent_model b x))) ≡ row_size
      go true e = empty_size
      go false e = model_size _ (parent_model b x) (sample_model bytes b (is_book bytes b taken) x ((some_word_lem (sample_of b x)).0 e))

  -- The rows of all names have 131 bytes for each.
  pub rows_length_lem : length (models_of b) ≡ length b.names * row_size
  unfolding models_of
  rows_length_lem = rows_size (book_row b) (length b.names) (λ x below. row_size_lem x)

module _ (bytes : List ℕ) (w : Answer ℕ) (before after : List ℕ) (call : WritesModels bytes w before after) where
  abbrev answer : Answer (List ℕ)
  answer = models_answer bytes (length before)

  refused_is : (f : Refusal) → w ≡ Err f → answer ≡ Err f
  refused_is f e = written_refused answer f (sym call.0 ∙ e)

  -- A refused call answers the length 0 and leaves every byte.
  pub fill_kept : (f : Refusal) → w ≡ Err f → (length_due w ≡ 0) × (after ≡ before)
  fill_kept f e = (ap length_due e, call.1 ∙ ap (buffer_after before) (refused_is f e) ∙ buffer_kept before f)

  module _ (done : (n : ℕ) × (w ≡ Ok n)) (b : Book) (taken : TakenAs bytes b) where
    given_rows : (length (models_of b) ≤ length before) × (answer ≡ Ok (models_of b))
    unfolding models_answer fitted
    given_rows =
        let a = written_given answer done.0 (sym call.0 ∙ done.1) in
        let s = onward_given (taken_book bytes) _ a.0 a.1 in
        let l = check_given (ltb (length before) (length (models_of s.0))) BufferTooShort _ a.0 s.2 in
        let same : s.0 ≡ b = given_same _ _ (sym s.1 ∙ taken) in
        let rows : models_of b ≡ a.0 = ap models_of (sym same) ∙ given_same _ _ l.1 in
        (subst (λ (x : Book). length (models_of x) ≤ length before) same (ltb-false _ _ l.0), a.1 ∙ ap Ok (sym rows))

    -- The call answers the length of the rows of all names; they are at the front, and the bytes behind them are kept.
    pub fill_length : length_due w ≡ length b.names * row_size
    unfolding written
    fill_length = ap length_due (call.0 ∙ ap written given_rows.1) ∙ rows_length_lem bytes b taken

    pub fill_bytes : after ≡ models_of b ++ drop (length b.names * row_size) before
    fill_bytes =
        call.1 ∙ ap (buffer_after before) given_rows.1 ∙ buffer_given before (models_of b) given_rows.0
        ∙ ap (λ (k : ℕ). models_of b ++ drop k before) (rows_length_lem bytes b taken)

    row_there : (x : ℕ) → x < length b.names → row_of after x ≡ book_row b x
    unfolding models_of
    row_there x below = ap (λ (t : List ℕ). row_of t x) fill_bytes ∙ row_among (book_row b) (length b.names) x below (λ p h. row_size_lem bytes b taken p) _

    -- So the table has the model of its sample for each name with a block,
    pub fill_entry : (x : ℕ) → ¬ (sample_of b x ≡ []) → entry_of after x ≡ Some (parent_model b x)
    unfolding book_row
    fill_entry x some =
        let read = is_book bytes b taken in
        model_entry after x (length b.names) (parent_model b x) (sample_model bytes b read x some) (row_there x (has_block bytes b read x some) ∙ rw ((some_word_lem (sample_of b x)).1 some))

    -- and none for the others.
    pub fill_lacks : (x : ℕ) → x < length b.names → sample_of b x ≡ [] → entry_of after x ≡ None
    unfolding book_row
    fill_lacks x below none = empty_entry after x (row_there x below ∙ rw ((no_word_lem (sample_of b x)).1 none))
