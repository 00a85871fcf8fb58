-- Demand 1: each refusal is given for its condition and for no other, by the definition of each call's answer.
-- Demands.antt says it of the calls.
-- Assumes nothing.
use Rattle.std.specs.Prelude.{Ok, Err}
use Prim.Native.Nat.{ℕ, ◌+◌, ◌*◌, ◌≤◌, ◌<◌}
use mathlib.Core.Path.{◌≡◌, refl, sym, ◌∙◌, ap, subst}
use mathlib.Core.Bool.{Bool, true, false, not, false≢true}
use mathlib.Core.List.{List, []}
use mathlib.Core.Logic.{◌↔◌, ◌⊎◌, inl, inr, ⊎_elim}
use lib.Dec.{eqb, ltb, leb}
use lib.ListN.{length}
use borrow.Author.Tests.{lt-ltb, le-ltb, ltb-true, ltb-false, le-leb, lt-leb, leb-true, leb-false, not-true, not-false}
use Rattle.refusal.specs.declared.Refusal.{Refusal}
use Rattle.refusal.specs.declared.Refusal.TheVariants.{BookTooLong, BytesMissing, BadNameCount, BadName, NameNotAbove, NumberNotBelow, BytesLeftOver, BadParent, NoBlock, NotAModel, BadWord, BufferTooShort, NotADeclaration, UnknownName, NameTwice, BadText, UnusedName, BadDocument, TooDeep}
use Rattle.refusal.specs.Table.{number_of, of_book}
use Rattle.refusal.specs.Answer.{Answer, onward, refuse_if, answer_number, yes_due}
use Rattle.refusal.proofs.Answers.{given_same, given_refused, check_law, number_refused, number_given}
use Rattle.refusal.proofs.Checks.{other, own_check, next_check, pass_check, last_check, avoids, own, own_or_next, row, row_0, number_only}
use Rattle.nameset.specs.Places.{places, good_count}
use Rattle.nameset.proofs.Count.{count_bounds, bounds_count, count_bad}
use Rattle.book.specs.Book.{Book}
use Rattle.book.specs.Stops.{Stops}
use Rattle.book.specs.Taken.{taken_book, TakenAs, bad_parent}
use Rattle.book.proofs.Taken.{is_book, taken_refused, taken_unused, taken_stops, bad_parent_lem, good_parent}
use Rattle.book.proofs.Onward.{book_first, book_or_later, in_book, in_given}
use Rattle.model.specs.declared.Model.{Model}
use Rattle.model.specs.Record.{IsModel}
use Rattle.model.specs.Check.{is_model}
use Rattle.model.specs.Accept.{Names}
use Rattle.model.specs.Run.{accepts}
use Rattle.model.proofs.ModelLaw.{model_law}
use Rattle.byte_buffer.specs.Put.{wrote}
use Rattle.model_table.specs.Table.{row_size, model_row}
use Rattle.declaration_spelling.specs.House.{declaration}
use Rattle.declaration_spelling.specs.Spelled.{Spelled}
use Rattle.declaration_spelling.specs.declared.Declared.{Declared}
use Rattle.declaration_spelling.specs.Read.{declared}
use Rattle.declaration_walk.specs.Gather.{text_answer}
use Rattle.declaration_spelling.proofs.Books.{good_names}
use Rattle.declaration_walk.proofs.Theorem as Spelling
use Rattle.declaration_writing.specs.Write.{fitted, write_in, write_answer}
use Rattle.declaration_reading.specs.Read.{read_answer}
use Rattle.declaration_reading.proofs.Theorem as Reading
use Rattle.intake_word.specs.Acceptance.{bad_model, longest_word, bad_word, answer_of, Passes}
use Rattle.intake_word.proofs.Theorem.{good_word, word_good, bad_word_lem}
use Rattle.intake_document.specs.Document.{document_answer}
use Rattle.intake_document.proofs.Theorem as Document
use Rattle.model_inclusion.specs.Inclusion.{longest_counterexample}
use Rattle.model_inclusion.specs.Search.{within}
use Rattle.intake_within.specs.Comparison.{comparison_of, PassesBoth}
use Rattle.intake_sample.specs.Inference.{sample_of, no_word, parent_model, model_in, model_answer}
use Rattle.intake_sample.specs.Writing.{sample_text}
use Rattle.intake_sample.proofs.Samples.{no_word_lem, some_word_lem}
use Rattle.intake_dtd.specs.Dtd.{dtd_of, dtd_answer}
use Rattle.intake_models.specs.Putting.{put_answer}
use Rattle.intake_models.specs.Filling.{models_of, models_answer}
use Rattle.intake_models.proofs.Theorem.{rows_length_lem}
use Rattle.dtd_output.specs.Output.{output_of}
use Rattle.dtd_output.proofs.Printed.{printed_refused}
use Rattle.demands.specs.Conditions.{OfBook, InRange, BookConditions, WordConditions, WithinConditions, ModelConditions, WriteConditions, sample_declaration, SampleConditions, DtdConditions, ReadConditions, ProgramConditions, DocumentConditions, PutConditions, FillConditions}

-- ---- what the tests mean

below_law : (p n : ℕ) → (ltb p n ≡ true) ↔ (p < n)
below_law p n = (ltb-true p n, lt-ltb p n)

at_most_law : (p n : ℕ) → (ltb p n ≡ false) ↔ (n ≤ p)
at_most_law p n = (ltb-false p n, le-ltb p n)

-- a test that fails, and a test turned round
fails : {P : Type 0} (t : Bool) → (t ≡ true) ↔ P → (t ≡ false) ↔ (¬ P)
fails true h = (λ e. absurd (false≢true (sym e)), λ n. absurd (n (h.0 refl)))
fails false h = (λ e p. absurd (false≢true (h.1 p)), λ n. refl)

turned : {P : Type 0} (t : Bool) → (t ≡ false) ↔ P → (not t ≡ true) ↔ P
turned t h = (λ e. h.0 (not-true t e), λ p. ap not (h.1 p))

turned_back : {P : Type 0} (t : Bool) → (t ≡ true) ↔ P → (not t ≡ false) ↔ P
turned_back t h = (λ e. h.0 (not-false t e), λ p. ap not (h.1 p))

no_model : (n : ℕ) (m : Model) → (not (is_model places n m) ≡ true) ↔ (¬ IsModel places n m)
no_model n m = turned (is_model places n m) (fails (is_model places n m) (model_law places n m))

is_model_lem : (n : ℕ) (m : Model) → (not (is_model places n m) ≡ false) ↔ IsModel places n m
is_model_lem n m = turned_back (is_model places n m) (model_law places n m)

count_law : (n : ℕ) → (good_count n ≡ true) ↔ InRange n
count_law n = (count_bounds n, λ h. bounds_count n h.0 h.1)

-- ---- 1 to 7, 16, 17

book_rows : {A : Type 0} (bytes : List ℕ) (a : Answer A) → ((f : Refusal) → of_book f ≡ true → (a ≡ Err f) ↔ (taken_book bytes ≡ Err f)) → BookConditions bytes (answer_number a)
book_rows bytes a law =
    record {
      one = at BookTooLong refl refl;
      two = at BytesMissing refl refl;
      three = at BadNameCount refl refl;
      four = at BadName refl refl;
      five = at NameNotAbove refl refl;
      six = at NumberNotBelow refl refl;
      sixteen = at BadText refl refl;
      seven = at BytesLeftOver refl refl;
      seventeen = by UnusedName refl (taken_unused bytes);
    }
  where
    by : {C : Type 0} (f : Refusal) → of_book f ≡ true → (taken_book bytes ≡ Err f) ↔ C → (answer_number a ≡ number_of f) ↔ C
    by f l h = row a f (λ e. h.0 ((law f l).0 e), λ c. (law f l).1 (h.1 c))

    at : (f : Refusal) → of_book f ≡ true → eqb (number_of UnusedName) (number_of f) ≡ false → (answer_number a ≡ number_of f) ↔ Stops bytes f
    at f l d = by f l (taken_refused bytes f (other UnusedName f d))

-- ---- acceptance of a word

module _ (n : ℕ) (m : Model) (w : List ℕ) where
  some_names : (not (good_count n) ≡ false) ↔ InRange n
  some_names = turned_back (good_count n) (count_law n)

  passes : {K : Type 0} → K ↔ (InRange n × (IsModel places n m × ((length w ≤ longest_word) × Names n w))) → K ↔ Passes n m w
  passes h = (
    λ k. let ((a, b), (c, (d, e))) = h.0 k in record { some = a; few = b; model = c; short = d; names = e },
    λ p. h.1 ((p.some, p.few), (p.model, (p.short, p.names))),
  )

  word_only : (f : Refusal) → answer_of n m w ≡ Err f → (number_of f ≡ 3) ⊎ ((number_of f ≡ 10) ⊎ (number_of f ≡ 11))
  unfolding answer_of
  word_only f e =
      ⊎_elim (λ z. inl (ap number_of (sym z)))
      (λ h. inr (⊎_elim (λ z. inl (ap number_of (sym z))) (λ k. inr (ap number_of (sym (own (bad_word n w) BadWord _ f k)))) (own_or_next (bad_model n m) NotAModel _ f h)))
      (own_or_next (not (good_count n)) BadNameCount _ f e)

  pub word_conditions : WordConditions n m w (answer_number (answer_of n m w))
  unfolding answer_of bad_model
  word_conditions =
      let t₁ = not (good_count n) in
      let t₂ = not (is_model places n m) in
      let t₃ = bad_word n w in
      let a₃ = Ok (accepts m.chain w) in
      let a₂ = refuse_if t₃ BadWord a₃ in
      let a₁ = refuse_if t₂ NotAModel a₂ in
      let a = refuse_if t₁ BadNameCount a₁ in
      record {
        three =
            row a BadNameCount
            (own_check t₁ BadNameCount a₁ (turned (good_count n) (count_bad n))
            (avoids t₂ NotAModel a₂ BadNameCount (other NotAModel BadNameCount refl) (avoids t₃ BadWord a₃ BadNameCount (other BadWord BadNameCount refl) (given_refused _ _))));
        ten =
            row a NotAModel
            (next_check t₁ BadNameCount a₁ NotAModel (other BadNameCount NotAModel refl) some_names
            (own_check t₂ NotAModel a₂ (no_model n m) (avoids t₃ BadWord a₃ NotAModel (other BadWord NotAModel refl) (given_refused _ _))));
        eleven =
            row a BadWord
            (next_check t₁ BadNameCount a₁ BadWord (other BadNameCount BadWord refl) some_names
            (next_check t₂ NotAModel a₂ BadWord (other NotAModel BadWord refl) (is_model_lem n m) (own_check t₃ BadWord a₃ (bad_word_lem n w) (given_refused _ _))));
        none =
            passes (row_0 a
            (pass_check t₁ BadNameCount a₁ some_names (pass_check t₂ NotAModel a₂ (is_model_lem n m) (last_check t₃ BadWord _ (good_word n w, word_good n w)))));
        no_other = number_only (λ k. (k ≡ 0) ⊎ ((k ≡ 3) ⊎ ((k ≡ 10) ⊎ (k ≡ 11)))) a (inl refl) (λ f e. inr (word_only f e));
      }

-- ---- comparison of two models

-- Two checks with the same refusal: it is given exactly where one of their tests holds.
either_check : {A P Q : Type 0} (t : Bool) (r : Refusal) (next : Answer A) → (t ≡ true) ↔ P → (next ≡ Err r) ↔ Q →
    (refuse_if t r next ≡ Err r) ↔ (P ⊎ Q)
either_check {P = P} {Q} t r next law behind = (
  λ e. ⊎_elim (λ k. inl (law.0 k.0)) (λ k. inr (behind.0 k.1)) ((check_law t r next r).0 e),
  ⊎_elim (λ p. (check_law t r next r).1 (inl (law.1 p, refl))) (λ q. back t refl q),
)
  where
    back : (b : Bool) → t ≡ b → Q → refuse_if t r next ≡ Err r
    back true e q = (check_law t r next r).1 (inl (e, refl))
    back false e q = (check_law t r next r).1 (inr (e, behind.1 q))

module _ (n : ℕ) (first second : Model) (room : ℕ) where
  both_pass : {K : Type 0} →
      K ↔ (InRange n × (IsModel places n first × (IsModel places n second × (longest_counterexample ≤ room)))) → K ↔ PassesBoth n first second room
  both_pass h = (
    λ k. let ((a, b), (c, (d, e))) = h.0 k in record { some = a; few = b; first_model = c; second_model = d; enough = e },
    λ p. h.1 ((p.some, p.few), (p.first_model, (p.second_model, p.enough))),
  )

  within_only : (f : Refusal) → comparison_of n first second room ≡ Err f → (number_of f ≡ 3) ⊎ ((number_of f ≡ 10) ⊎ (number_of f ≡ 12))
  unfolding comparison_of
  within_only f e =
      ⊎_elim (λ z. inl (ap number_of (sym z)))
      (λ h. inr (⊎_elim (λ z. inl (ap number_of (sym z)))
      (λ k. ⊎_elim (λ z. inl (ap number_of (sym z))) (λ l. inr (ap number_of (sym (own (ltb room longest_counterexample) BufferTooShort _ f l))))
      (own_or_next (not (is_model places n second)) NotAModel _ f k)) (own_or_next (not (is_model places n first)) NotAModel _ f h)))
      (own_or_next (not (good_count n)) BadNameCount _ f e)

  pub within_conditions : WithinConditions n first second room (answer_number (comparison_of n first second room))
  unfolding comparison_of
  within_conditions =
      let t₁ = not (good_count n) in
      let t₂ = not (is_model places n first) in
      let t₃ = not (is_model places n second) in
      let t₄ = ltb room longest_counterexample in
      let a₄ = Ok (within n first.chain second.chain) in
      let a₃ = refuse_if t₄ BufferTooShort a₄ in
      let a₂ = refuse_if t₃ NotAModel a₃ in
      let a₁ = refuse_if t₂ NotAModel a₂ in
      let a = refuse_if t₁ BadNameCount a₁ in
      let count = turned_back (good_count n) (count_law n) in
      record {
        three =
            row a BadNameCount
            (own_check t₁ BadNameCount a₁ (turned (good_count n) (count_bad n))
            (avoids t₂ NotAModel a₂ BadNameCount (other NotAModel BadNameCount refl)
            (avoids t₃ NotAModel a₃ BadNameCount (other NotAModel BadNameCount refl)
            (avoids t₄ BufferTooShort a₄ BadNameCount (other BufferTooShort BadNameCount refl) (given_refused _ _)))));
        ten =
            row a NotAModel
            (next_check t₁ BadNameCount a₁ NotAModel (other BadNameCount NotAModel refl) count
            (either_check t₂ NotAModel a₂ (no_model n first)
            (own_check t₃ NotAModel a₃ (no_model n second)
            (avoids t₄ BufferTooShort a₄ NotAModel (other BufferTooShort NotAModel refl) (given_refused _ _)))));
        twelve =
            row a BufferTooShort
            (next_check t₁ BadNameCount a₁ BufferTooShort (other BadNameCount BufferTooShort refl) count
            (next_check t₂ NotAModel a₂ BufferTooShort (other NotAModel BufferTooShort refl) (is_model_lem n first)
            (next_check t₃ NotAModel a₃ BufferTooShort (other NotAModel BufferTooShort refl) (is_model_lem n second)
            (own_check t₄ BufferTooShort a₄ (below_law room longest_counterexample) (given_refused _ _)))));
        none =
            both_pass (row_0 a
            (pass_check t₁ BadNameCount a₁ count
            (pass_check t₂ NotAModel a₂ (is_model_lem n first)
            (pass_check t₃ NotAModel a₃ (is_model_lem n second)
            (last_check t₄ BufferTooShort _ (at_most_law room longest_counterexample))))));
        no_other = number_only (λ k. (k ≡ 0) ⊎ ((k ≡ 3) ⊎ ((k ≡ 10) ⊎ (k ≡ 12)))) a (inl refl) (λ f e. inr (within_only f e));
      }

-- ---- a call that takes a book

-- a refusal of a book, or one of what is done with it
no_other : {A : Type 0} (P : ℕ → Type 0) (bytes : List ℕ) (next : Book → Answer A) → ((b : Book) (f : Refusal) → next b ≡ Err f → P (number_of f)) →
    (answer_number (onward (taken_book bytes) next) ≡ 0) ⊎ (OfBook (answer_number (onward (taken_book bytes) next)) ⊎ P (answer_number (onward (taken_book bytes) next)))
no_other P bytes next each =
    number_only (λ k. (k ≡ 0) ⊎ (OfBook k ⊎ P k)) (onward (taken_book bytes) next) (inl refl)
    (λ f e. inr (⊎_elim (λ l. inl (f, l, refl)) (λ (b, k, q). inr (each b f q)) (book_or_later bytes next f e)))

-- ---- the model of a parent

module _ (bytes : List ℕ) (parent : ℕ) where
  -- its second test, and what is behind the first
  abbrev t₂ : Book → Bool
  t₂ b = no_word (sample_of b parent)

  abbrev a₁ : Book → Answer Model
  a₁ b = refuse_if (t₂ b) NoBlock (Ok (parent_model b parent))

  -- its two refusals, each with what P says of it
  model_each : (P : Refusal → Type 0) → P BadParent → P NoBlock → (b : Book) (f : Refusal) → model_in b parent ≡ Err f → P f
  unfolding model_in
  model_each P p₁ p₂ b f e = ⊎_elim (λ z. subst P z p₁) (λ h. subst P (own (t₂ b) NoBlock _ f h) p₂) (own_or_next (bad_parent b parent) BadParent _ f e)

  pub model_conditions : ModelConditions bytes parent (answer_number (model_answer bytes parent))
  unfolding model_answer model_in
  model_conditions =
      let a = model_answer bytes parent in
      let next : Book → Answer Model = λ b. model_in b parent in
      record {
        book = book_rows bytes a (λ f l. book_first bytes next f l (λ b k. model_each (λ r. of_book r ≡ false) refl refl b f));
        eight =
            row a BadParent (in_book bytes next (λ b. length b.names ≤ parent) BadParent refl
            (λ b. own_check (bad_parent b parent) BadParent (a₁ b) (bad_parent_lem b parent) (avoids (t₂ b) NoBlock _ BadParent (other NoBlock BadParent refl) (given_refused _ _))));
        nine =
            row a NoBlock (in_book bytes next (λ b. (parent < length b.names) × (sample_of b parent ≡ [])) NoBlock refl
            (λ b. next_check (bad_parent b parent) BadParent (a₁ b) NoBlock (other BadParent NoBlock refl) (good_parent b parent) (own_check (t₂ b) NoBlock _ (no_word_lem (sample_of b parent)) (given_refused _ _))));
        none =
            row_0 a (in_given bytes next (λ b. (parent < length b.names) × (¬ (sample_of b parent ≡ [])))
            (λ b q. pass_check (bad_parent b parent) BadParent (a₁ b) (good_parent b parent) (last_check (t₂ b) NoBlock _ (some_word_lem (sample_of b parent)))));
        no_other = no_other (λ k. (k ≡ 8) ⊎ (k ≡ 9)) bytes next (model_each (λ f. (number_of f ≡ 8) ⊎ (number_of f ≡ 9)) (inl refl) (inr refl));
      }

-- ---- a declaration written

-- the last check of both ways to write, and what is behind it
short_law : (room : ℕ) (text : List ℕ) → (fitted room text ≡ Err BufferTooShort) ↔ (room < length text)
unfolding fitted
short_law room text = own_check (ltb room (length text)) BufferTooShort _ (below_law room (length text)) (given_refused _ _)

fits_law : (room : ℕ) (text : List ℕ) → ((x : List ℕ) × (fitted room text ≡ Ok x)) ↔ (length text ≤ room)
unfolding fitted
fits_law room text = last_check (ltb room (length text)) BufferTooShort text (at_most_law room (length text))

fitted_only : (room : ℕ) (text : List ℕ) (f : Refusal) → fitted room text ≡ Err f → BufferTooShort ≡ f
unfolding fitted
fitted_only room text f e = own (ltb room (length text)) BufferTooShort text f e

-- Both ways to write: 8, then the number of r where P holds and not Q, then 12 for the text, else the text.
record WritingRows (bytes : List ℕ) (parent room : ℕ) (r : Refusal) (P Q : Book → Type 0) (text : Book → List ℕ) (k : ℕ) : Type 0 where
  book : BookConditions bytes k
  eight : (k ≡ 8) ↔ ((b : Book) × TakenAs bytes b × (length b.names ≤ parent))
  middle : (k ≡ number_of r) ↔ ((b : Book) × TakenAs bytes b × ((parent < length b.names) × P b))
  twelve : (k ≡ 12) ↔ ((b : Book) × TakenAs bytes b × ((parent < length b.names) × (Q b × (room < length (text b)))))
  none : (k ≡ 0) ↔ ((b : Book) × TakenAs bytes b × ((parent < length b.names) × (Q b × (length (text b) ≤ room))))
  no_other : (k ≡ 0) ⊎ (OfBook k ⊎ ((k ≡ 8) ⊎ ((k ≡ number_of r) ⊎ (k ≡ 12))))

module _ (bytes : List ℕ) (parent room : ℕ) (r : Refusal) (late : of_book r ≡ false) (not-8 : ¬ (r ≡ BadParent)) (not-12 : ¬ (BufferTooShort ≡ r))
    (t : Book → Bool) (P Q : Book → Type 0) (holds : (b : Book) → (t b ≡ true) ↔ P b) (fails : (b : Book) → (t b ≡ false) ↔ Q b) (text : Book → List ℕ) where
  -- what is behind the first check, and the checks in a row
  abbrev behind : Book → Answer (List ℕ)
  behind b = refuse_if (t b) r (fitted room (text b))

  abbrev checks : Book → Answer (List ℕ)
  checks b = refuse_if (bad_parent b parent) BadParent (behind b)

  module _ (next : Book → Answer (List ℕ)) (is : (b : Book) → next b ≡ checks b) where
    -- a law of the checks is one of what the call does with the book
    by_row : {C : Type 0} (b : Book) (x : Answer (List ℕ)) → (checks b ≡ x) ↔ C → (next b ≡ x) ↔ C
    by_row b x law = (λ e. law.0 (sym (is b) ∙ e), λ c. is b ∙ law.1 c)

    by_given : {C : Type 0} (b : Book) → ((x : List ℕ) × (checks b ≡ Ok x)) ↔ C → ((x : List ℕ) × (next b ≡ Ok x)) ↔ C
    by_given b law = (λ (x, e). law.0 (x, sym (is b) ∙ e), λ c. let (x, e) = law.1 c in (x, is b ∙ e))

    -- its three refusals, each with what R says of it
    each : (R : Refusal → Type 0) → R BadParent → R r → R BufferTooShort → (b : Book) (f : Refusal) → next b ≡ Err f → R f
    each R p₁ p₂ p₃ b f e =
        ⊎_elim (λ z. subst R z p₁)
        (λ h. ⊎_elim (λ z. subst R z p₂) (λ k. subst R (fitted_only room (text b) f k) p₃) (own_or_next (t b) r _ f h))
        (own_or_next (bad_parent b parent) BadParent _ f (sym (is b) ∙ e))

    writing_rows : WritingRows bytes parent room r P Q text (answer_number (onward (taken_book bytes) next))
    writing_rows =
        let a = onward (taken_book bytes) next in
        record {
          book = book_rows bytes a (λ f l. book_first bytes next f l (λ b k. each (λ q. of_book q ≡ false) refl late refl b f));
          eight =
              row a BadParent (in_book bytes next (λ b. length b.names ≤ parent) BadParent refl
              (λ b. by_row b (Err BadParent) (own_check (bad_parent b parent) BadParent (behind b) (bad_parent_lem b parent)
              (avoids (t b) r _ BadParent not-8 (λ e. other BufferTooShort BadParent refl (fitted_only room (text b) BadParent e))))));
          middle =
              row a r (in_book bytes next (λ b. (parent < length b.names) × P b) r late
              (λ b. by_row b (Err r) (next_check (bad_parent b parent) BadParent (behind b) r (λ e. not-8 (sym e)) (good_parent b parent)
              (own_check (t b) r _ (holds b) (λ e. not-12 (fitted_only room (text b) r e))))));
          twelve =
              row a BufferTooShort (in_book bytes next (λ b. (parent < length b.names) × (Q b × (room < length (text b)))) BufferTooShort refl
              (λ b. by_row b (Err BufferTooShort) (next_check (bad_parent b parent) BadParent (behind b) BufferTooShort (other BadParent BufferTooShort refl) (good_parent b parent)
              (next_check (t b) r _ BufferTooShort (λ e. not-12 (sym e)) (fails b) (short_law room (text b))))));
          none =
              row_0 a (in_given bytes next (λ b. (parent < length b.names) × (Q b × (length (text b) ≤ room)))
              (λ b q. by_given b (pass_check (bad_parent b parent) BadParent (behind b) (good_parent b parent) (pass_check (t b) r _ (fails b) (fits_law room (text b))))));
          no_other =
              no_other (λ k. (k ≡ 8) ⊎ ((k ≡ number_of r) ⊎ (k ≡ 12))) bytes next
              (each (λ f. (number_of f ≡ 8) ⊎ ((number_of f ≡ number_of r) ⊎ (number_of f ≡ 12))) (inl refl) (inr (inl refl)) (inr (inr refl)));
        }

pub write_conditions : (bytes : List ℕ) (parent : ℕ) (m : Model) (room : ℕ) → WriteConditions bytes parent m room (answer_number (write_answer bytes parent m room))
unfolding write_answer write_in
write_conditions bytes parent m room =
    let h =
    writing_rows bytes parent room NotAModel refl (other NotAModel BadParent refl) (other BufferTooShort NotAModel refl) (λ b. not (is_model places (length b.names) m))
    (λ b. ¬ IsModel places (length b.names) m) (λ b. IsModel places (length b.names) m) (λ b. no_model (length b.names) m) (λ b. is_model_lem (length b.names) m)
    (λ b. declaration b.names parent m) (λ b. write_in b parent m room) (λ b. refl) in
    record { book = h.book; eight = h.eight; ten = h.middle; twelve = h.twelve; none = h.none; no_other = h.no_other }

-- ---- a declaration written from the sample

-- the model's two checks and the buffer's, in one row
in_row : {A B : Type 0} (r₁ r₂ : Refusal) (a : A) (f : A → Answer B) (t₁ t₂ : Bool) → onward (refuse_if t₁ r₁ (refuse_if t₂ r₂ (Ok a))) f ≡ refuse_if t₁ r₁ (refuse_if t₂ r₂ (f a))
in_row r₁ r₂ a f true t₂ = refl
in_row r₁ r₂ a f false true = refl
in_row r₁ r₂ a f false false = refl

pub sample_conditions : (bytes : List ℕ) (parent room : ℕ) → SampleConditions bytes parent room (answer_number (sample_text bytes parent room))
unfolding sample_text model_in parent_model
sample_conditions bytes parent room =
    let h =
    writing_rows bytes parent room NoBlock refl (other NoBlock BadParent refl) (other BufferTooShort NoBlock refl) (λ b. no_word (sample_of b parent))
    (λ b. sample_of b parent ≡ []) (λ b. ¬ (sample_of b parent ≡ [])) (λ b. no_word_lem (sample_of b parent)) (λ b. some_word_lem (sample_of b parent))
    (λ b. sample_declaration b parent) (λ b. onward (model_in b parent) (λ m. fitted room (declaration b.names parent m)))
    (λ b. in_row BadParent NoBlock (parent_model b parent) (λ m. fitted room (declaration b.names parent m)) (bad_parent b parent) (no_word (sample_of b parent))) in
    record { book = h.book; eight = h.eight; nine = h.middle; twelve = h.twelve; none = h.none; no_other = h.no_other }

-- ---- the whole DTD written

-- the conditions of a call that writes one text for a whole book
record FittedRows (bytes : List ℕ) (room : ℕ) (text : Book → List ℕ) (k : ℕ) : Type 0 where
  book : BookConditions bytes k
  twelve : (k ≡ 12) ↔ ((b : Book) × TakenAs bytes b × (room < length (text b)))
  none : (k ≡ 0) ↔ ((b : Book) × TakenAs bytes b × (length (text b) ≤ room))
  no_other : (k ≡ 0) ⊎ (OfBook k ⊎ (k ≡ 12))

fitted_rows : (bytes : List ℕ) (room : ℕ) (text : Book → List ℕ) → FittedRows bytes room text (answer_number (onward (taken_book bytes) (λ b. fitted room (text b))))
fitted_rows bytes room text =
    let next : Book → Answer (List ℕ) = λ b. fitted room (text b) in
    let a = onward (taken_book bytes) next in
    record {
      book = book_rows bytes a (λ f l. book_first bytes next f l (λ b k e. subst (λ (r : Refusal). of_book r ≡ false) (fitted_only room (text b) f e) refl));
      twelve = row a BufferTooShort (in_book bytes next (λ b. room < length (text b)) BufferTooShort refl (λ b. short_law room (text b)));
      none = row_0 a (in_given bytes next (λ b. length (text b) ≤ room) (λ b q. fits_law room (text b)));
      no_other = no_other (λ k. k ≡ 12) bytes next (λ b f e. ap number_of (sym (fitted_only room (text b) f e)));
    }

pub dtd_conditions : (bytes : List ℕ) (room : ℕ) → DtdConditions bytes room (answer_number (dtd_answer bytes room))
unfolding dtd_answer
dtd_conditions bytes room =
    let h = fitted_rows bytes room dtd_of in
    record { book = h.book; twelve = h.twelve; none = h.none; no_other = h.no_other }

-- ---- a table of models filled

pub fill_conditions : (bytes : List ℕ) (room : ℕ) → FillConditions bytes room (answer_number (models_answer bytes room))
unfolding models_answer
fill_conditions bytes room =
    let h = fitted_rows bytes room models_of in
    record {
      book = h.book;
      twelve = (
        λ k. let (b, t, l) = h.twelve.0 k in (b, t, subst (λ (size : ℕ). room < size) (rows_length_lem bytes b t) l),
        λ (b, t, l). h.twelve.1 (b, t, subst (λ (size : ℕ). room < size) (sym (rows_length_lem bytes b t)) l),
      );
      none = (
        λ k. let (b, t, l) = h.none.0 k in (b, t, subst (λ (size : ℕ). size ≤ room) (rows_length_lem bytes b t) l),
        λ (b, t, l). h.none.1 (b, t, subst (λ (size : ℕ). size ≤ room) (sym (rows_length_lem bytes b t)) l),
      );
      no_other = h.no_other;
    }

-- ---- a model put into a table of models

module _ (n parent : ℕ) (m : Model) (table : List ℕ) where
  put_only : (f : Refusal) → put_answer n parent m table ≡ Err f → (number_of f ≡ 3) ⊎ ((number_of f ≡ 8) ⊎ ((number_of f ≡ 10) ⊎ (number_of f ≡ 12)))
  unfolding put_answer
  put_only f e =
      ⊎_elim (λ z. inl (ap number_of (sym z))) (λ h. inr (
      ⊎_elim (λ z. inl (ap number_of (sym z))) (λ k. inr (
      ⊎_elim (λ z. inl (ap number_of (sym z)))
      (λ l. inr (ap number_of (sym (own (ltb (length table) (parent * row_size + row_size)) BufferTooShort _ f l))))
      (own_or_next (not (is_model places n m)) NotAModel _ f k)))
      (own_or_next (leb n parent) BadParent _ f h)))
      (own_or_next (not (good_count n)) BadNameCount _ f e)

  pub put_conditions : PutConditions n parent m (length table) (answer_number (put_answer n parent m table))
  unfolding put_answer
  put_conditions =
      let t₁ = not (good_count n) in
      let t₂ = leb n parent in
      let t₃ = not (is_model places n m) in
      let t₄ = ltb (length table) (parent * row_size + row_size) in
      let a₄ = Ok (wrote table (parent * row_size) (model_row m)) in
      let a₃ = refuse_if t₄ BufferTooShort a₄ in
      let a₂ = refuse_if t₃ NotAModel a₃ in
      let a₁ = refuse_if t₂ BadParent a₂ in
      let a = refuse_if t₁ BadNameCount a₁ in
      let count = turned_back (good_count n) (count_law n) in
      let named : (leb n parent ≡ false) ↔ (parent < n) = (leb-false n parent, lt-leb n parent) in
      record {
        three =
            row a BadNameCount
            (own_check t₁ BadNameCount a₁ (turned (good_count n) (count_bad n))
            (avoids t₂ BadParent a₂ BadNameCount (other BadParent BadNameCount refl)
            (avoids t₃ NotAModel a₃ BadNameCount (other NotAModel BadNameCount refl)
            (avoids t₄ BufferTooShort a₄ BadNameCount (other BufferTooShort BadNameCount refl) (given_refused _ _)))));
        eight =
            row a BadParent
            (next_check t₁ BadNameCount a₁ BadParent (other BadNameCount BadParent refl) count
            (own_check t₂ BadParent a₂ (leb-true n parent, le-leb n parent)
            (avoids t₃ NotAModel a₃ BadParent (other NotAModel BadParent refl)
            (avoids t₄ BufferTooShort a₄ BadParent (other BufferTooShort BadParent refl) (given_refused _ _)))));
        ten =
            row a NotAModel
            (next_check t₁ BadNameCount a₁ NotAModel (other BadNameCount NotAModel refl) count
            (next_check t₂ BadParent a₂ NotAModel (other BadParent NotAModel refl) named
            (own_check t₃ NotAModel a₃ (no_model n m)
            (avoids t₄ BufferTooShort a₄ NotAModel (other BufferTooShort NotAModel refl) (given_refused _ _)))));
        twelve =
            row a BufferTooShort
            (next_check t₁ BadNameCount a₁ BufferTooShort (other BadNameCount BufferTooShort refl) count
            (next_check t₂ BadParent a₂ BufferTooShort (other BadParent BufferTooShort refl) named
            (next_check t₃ NotAModel a₃ BufferTooShort (other NotAModel BufferTooShort refl) (is_model_lem n m)
            (own_check t₄ BufferTooShort a₄ (below_law (length table) (parent * row_size + row_size)) (given_refused _ _)))));
        none =
            row_0 a
            (pass_check t₁ BadNameCount a₁ count
            (pass_check t₂ BadParent a₂ named
            (pass_check t₃ NotAModel a₃ (is_model_lem n m)
            (last_check t₄ BufferTooShort _ (at_most_law (length table) (parent * row_size + row_size))))));
        no_other = number_only (λ k. (k ≡ 0) ⊎ ((k ≡ 3) ⊎ ((k ≡ 8) ⊎ ((k ≡ 10) ⊎ (k ≡ 12))))) a (inl refl) (λ f e. inr (put_only f e));
      }

-- ---- the verdict on a document

-- a yes, and a no of a call that was not refused
yes_due_lem : (a : Answer Bool) → (yes_due a ≡ true) ↔ (a ≡ Ok true)
yes_due_lem (Ok b) = (λ e. ap Ok e, λ e. given_same b true e)
yes_due_lem (Err f) = (λ e. absurd (false≢true e), λ e. absurd (given_refused true f (sym e)))

no_due : (a : Answer Bool) → ((answer_number a ≡ 0) × (yes_due a ≡ false)) ↔ (a ≡ Ok false)
no_due a = (
  λ (z, e). let (b, q) = (number_given a).0 z in q ∙ ap Ok (sym (ap yes_due q) ∙ e),
  λ e. ((number_given a).1 (false, e), ap yes_due e),
)

joined : {A B C : Type 0} → A ↔ B → B ↔ C → A ↔ C
joined f g = (λ a. g.0 (f.0 a), λ c. f.1 (g.1 c))

pub document_conditions : (n : ℕ) (table w : List ℕ) → DocumentConditions n table w (answer_number (document_answer n table w)) (yes_due (document_answer n table w))
document_conditions n table w =
    let a = document_answer n table w in
    record {
      one = row a BookTooLong (Document.answer_long n table w);
      three = row a BadNameCount (Document.answer_count n table w);
      ten = row a NotAModel (Document.answer_model n table w);
      eighteen = row a BadDocument (Document.answer_bad n table w);
      nineteen = row a TooDeep (Document.answer_deep n table w);
      yes = joined (yes_due_lem a) (Document.answer_yes n table w);
      no = joined (no_due a) (Document.answer_no n table w);
      none = row_0 a (Document.answer_given n table w);
      no_other =
          number_only (λ k. (k ≡ 0) ⊎ ((k ≡ 1) ⊎ ((k ≡ 3) ⊎ ((k ≡ 10) ⊎ ((k ≡ 18) ⊎ (k ≡ 19)))))) a (inl refl)
          (λ f e. inr (numbers f (Document.answer_only n table w f e)));
    }
  where
    numbers : (f : Refusal) → (f ≡ BookTooLong) ⊎ ((f ≡ BadNameCount) ⊎ ((f ≡ NotAModel) ⊎ ((f ≡ BadDocument) ⊎ (f ≡ TooDeep)))) →
        (number_of f ≡ 1) ⊎ ((number_of f ≡ 3) ⊎ ((number_of f ≡ 10) ⊎ ((number_of f ≡ 18) ⊎ (number_of f ≡ 19))))
    numbers f (inl e) = inl (ap number_of e)
    numbers f (inr (inl e)) = inr (inl (ap number_of e))
    numbers f (inr (inr (inl e))) = inr (inr (inl (ap number_of e)))
    numbers f (inr (inr (inr (inl e)))) = inr (inr (inr (inl (ap number_of e))))
    numbers f (inr (inr (inr (inr e)))) = inr (inr (inr (inr (ap number_of e))))

-- ---- a declaration read

module _ (bytes text : List ℕ) where
  read_given : ((x : Declared) × (read_answer bytes text ≡ Ok x)) ↔ ((b : Book) × TakenAs bytes b × ((p : ℕ) × (m : Model) × Spelled places b.names text p m))
  unfolding read_answer
  read_given = in_given bytes (λ b. text_answer places b.names text) (λ b. (p : ℕ) × (m : Model) × Spelled places b.names text p m) spelled
    where
      spelled : (b : Book) → TakenAs bytes b → ((x : Declared) × (text_answer places b.names text ≡ Ok x)) ↔ ((p : ℕ) × (m : Model) × Spelled places b.names text p m)
      spelled b q =
          let good = good_names bytes b (is_book bytes b q) in (
            λ (x, g). (x.parent, x.model, (Spelling.read_exactly places b.names good text x.parent x.model).0 g),
            λ (p, m, S). (declared p m, (Spelling.read_exactly places b.names good text p m).1 S),
          )

  read_only : (f : Refusal) → read_answer bytes text ≡ Err f → OfBook (number_of f) ⊎ ((number_of f ≡ 13) ⊎ ((number_of f ≡ 14) ⊎ (number_of f ≡ 15)))
  read_only f e =
      ⊎_elim (λ l. inl (f, l, refl))
      (λ h. inr (⊎_elim (λ z. inl (ap number_of (sym z))) (λ k. inr (⊎_elim (λ z. inl (ap number_of (sym z))) (λ z. inr (ap number_of (sym z))) k)) h))
      (Reading.refused_only bytes text f e)

  pub read_conditions : ReadConditions bytes text (answer_number (read_answer bytes text))
  read_conditions =
      let a = read_answer bytes text in
      record {
        book = book_rows bytes a (Reading.text_book_refused bytes text);
        thirteen = row a NotADeclaration (Reading.refused_13 bytes text);
        fourteen = row a UnknownName (Reading.refused_14 bytes text);
        fifteen = row a NameTwice (Reading.refused_15 bytes text);
        none = row_0 a read_given;
        no_other = number_only (λ k. (k ≡ 0) ⊎ (OfBook k ⊎ ((k ≡ 13) ⊎ ((k ≡ 14) ⊎ (k ≡ 15))))) a (inl refl) (λ f e. inr (read_only f e));
      }

-- ---- the program

pub program_conditions : (bytes : List ℕ) → ProgramConditions bytes (output_of (taken_book bytes))
unfolding output_of
program_conditions bytes =
    let a = taken_book bytes in
    record {
      number = answer_number a;
      book = book_rows bytes a (λ f l. (λ e. e, λ e. e));
      printed = λ f. let p = printed_refused a f in let n = number_refused a f in (λ e. n.1 (p.0 e), λ e. p.1 (n.0 e));
      none = row_0 a (λ (b, e). (b, e, ap output_of e), λ (b, e, q). (b, e));
      no_other = number_only (λ k. (k ≡ 0) ⊎ OfBook k) a (inl refl) (λ f e. inr (f, taken_stops bytes f e, refl));
    }
