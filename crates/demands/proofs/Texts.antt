-- The calls that write: what a refused call leaves, what is in the buffer after one that was not, and that a
-- declaration reads back.
-- Assumes nothing.
use Rattle.std.specs.Prelude.{Ok, Err}
use Prim.Native.Nat.{ℕ, ◌≤◌, ◌<◌}
use mathlib.Core.Path.{◌≡◌, refl, sym, ◌∙◌, ap, subst}
use mathlib.Core.Bool.{true, false, false≢true}
use mathlib.Core.List.{List, ◌++◌}
use mathlib.Core.Logic.{◌↔◌}
use native.Mathlib.Omega.{arith}
use lib.Dec.{ltb}
use lib.ListN.{length, take, drop}
use lib.Seq.{drop-append_seam}
use borrow.Author.Tests.{ltb-false}
use Rattle.refusal.specs.declared.Refusal.TheVariants.{BufferTooShort}
use Rattle.refusal.specs.Table.{number_of}
use Rattle.refusal.specs.declared.Acceptance.{Acceptance}
use Rattle.refusal.specs.declared.Acceptance.TheVariants.{Yes, No, Refused as Stopped}
use Rattle.refusal.specs.Answer.{Answer, onward, answer_number, acceptance_number, acceptance_yes}
use Rattle.refusal.proofs.Laws.{number_positive}
use Rattle.refusal.proofs.Answers.{onward_given, check_given, given_same, refused_by, given_by}
use Rattle.nameset.specs.Places.{places}
use Rattle.book.specs.Book.{Book}
use Rattle.book.specs.Taken.{taken_book, TakenAs}
use Rattle.book.proofs.Taken.{good_parent}
use Rattle.model.specs.declared.Model.{Model}
use Rattle.model.specs.Record.{IsModel}
use Rattle.model.specs.Accept.{Names}
use Rattle.model.proofs.ModelLaw.{model_law}
use Rattle.model_language.proofs.Theorem.{accepts_names}
use Rattle.declaration_spelling.specs.House.{declaration}
use Rattle.declaration_spelling.specs.Length.{longest_declaration}
use Rattle.declaration_spelling.specs.Spelled.{Spelled}
use Rattle.declaration_spelling.specs.declared.Declared.{Declared}
use Rattle.declaration_spelling.specs.Read.{declared}
use Rattle.declaration_writing.specs.Write.{fitted, write_in, write_answer, length_due, written, buffer_after, Writes, WritesDeclaration}
use Rattle.byte_buffer.specs.Put.{wrote}
use Rattle.byte_buffer.proofs.Puts.{wrote_start, wrote_back}
use Rattle.declaration_writing.proofs.Back.{Given, text_given, buffer_given, buffer_kept, written_refused, written_given}
use Rattle.declaration_record.specs.Answered.{parent_due, model_due}
use Rattle.declaration_reading.specs.Read.{Reads, ReadsDeclaration}
use Rattle.declaration_reading.proofs.Theorem as Reading
use Rattle.model_inclusion.specs.Inclusion.{Counterexample, longest_counterexample}
use Rattle.intake_within.specs.declared.Inclusion.{Inclusion}
use Rattle.intake_within.specs.Comparison.{inclusion_number, inclusion_yes, inclusion_length, ComparesModels}
use Rattle.intake_within.proofs.Theorem as Compare
use Rattle.intake_sample.specs.Inference.{model_in, model_answer, InfersModel, answer_model}
use Rattle.intake_sample.specs.Writing.{sample_text, WritesSample}
use Rattle.intake_sample.proofs.Writing.{model_given}
use Rattle.intake_sample.proofs.NoBetterModel as Model3
use Rattle.intake_dtd.specs.Dtd.{dtd_of, dtd_answer, WritesDtd}
use Rattle.intake_models.specs.Filling.{models_of, models_answer, WritesModels}
use Rattle.demands.specs.Results.{Wrote}

-- ---- a yes or no

pub refused_no : (r : Acceptance) → 0 < acceptance_number r → acceptance_yes r ≡ false
unfolding acceptance_number acceptance_yes
refused_no Yes l = absurd (omega arith)
refused_no No l = refl
refused_no (Stopped f) l = refl

pub yes_by : (r : Acceptance) → acceptance_yes r ≡ true → r ≡ Yes
unfolding acceptance_yes
yes_by Yes e = refl
yes_by No e = absurd (false≢true e)
yes_by (Stopped f) e = absurd (false≢true e)

pub by_yes : (r : Acceptance) → r ≡ Yes → acceptance_yes r ≡ true
unfolding acceptance_yes
by_yes r e = ap acceptance_yes e

-- ---- both ways to write

written_number : (a : Answer (List ℕ)) → answer_number (written a) ≡ answer_number a
unfolding written
written_number (Ok t) = refl
written_number (Err f) = refl

module _ (a : Answer (List ℕ)) (w : Answer ℕ) (before after : List ℕ) (call : Writes a w before after) where
  -- its number is that of the answer that is due
  pub writes_number : answer_number w ≡ answer_number a
  writes_number = ap answer_number call.0 ∙ written_number a

  -- a refused call
  pub writes_kept : 0 < answer_number w → (length_due w ≡ 0) × (after ≡ before)
  writes_kept l =
      let (f, o) = refused_by w l in
      let e = written_refused a f (sym call.0 ∙ o) in
      (ap length_due o, call.1 ∙ ap (buffer_after before) e ∙ buffer_kept before f)

  -- a call that was not refused
  pub writes_given : answer_number w ≡ 0 → (t : List ℕ) × (a ≡ Ok t)
  writes_given z = let (n, o) = given_by w z in written_given a n (sym call.0 ∙ o)

  pub writes_size : (t : List ℕ) → a ≡ Ok t → length_due w ≡ length t
  unfolding written
  writes_size t e = ap length_due (call.0 ∙ ap written e)

  pub writes_front : (t : List ℕ) → a ≡ Ok t → length t ≤ length before → take (length_due w) after ≡ t
  unfolding buffer_after
  writes_front t e fits =
      ap (λ (n : ℕ). take n after) (writes_size t e) ∙ ap (take (length t)) (call.1 ∙ ap (buffer_after before) e) ∙ wrote_back before t fits

  pub writes_past : (t : List ℕ) → a ≡ Ok t → length t ≤ length before → drop (length_due w) after ≡ drop (length_due w) before
  writes_past t e fits =
      let b : after ≡ t ++ drop (length t) before = call.1 ∙ ap (buffer_after before) e ∙ buffer_given before t fits in
      rw (writes_size t e, b) (drop-append_seam t (drop (length t) before))

-- ---- a declaration written with a record

module _ (bytes : List ℕ) (parent : ℕ) (m : Model) (w : Answer ℕ) (before after : List ℕ) (call : WritesDeclaration bytes parent m w before after) where
  pub write_done : answer_number w ≡ 0 → (b : Book) × TakenAs bytes b × Wrote (declaration b.names parent m) (length_due w) before after
  write_done z =
      let (t, e) = writes_given _ w before after call z in
      let g : Given bytes parent m (length before) t = text_given bytes parent m (length before) t e in (
        g.book,
        g.read,
        record {
          size = writes_size _ w before after call t e ∙ ap length g.same;
          front = writes_front _ w before after call t e g.fits ∙ g.same;
          past = writes_past _ w before after call t e g.fits;
        },
      )

  pub written_reads_back : answer_number w ≡ 0 → (r : Answer Declared) → ReadsDeclaration bytes (take (length_due w) after) r → Reads r parent m
  written_reads_back z r reads =
      let (t, e) = writes_given _ w before after call z in
      let text : take (length_due w) after ≡ t = writes_front _ w before after call t e (text_given bytes parent m (length before) t e).fits in
      Reading.read_written bytes parent m (length before) t e r (subst (λ (s : List ℕ). ReadsDeclaration bytes s r) text reads)

-- ---- the whole DTD written

-- a call that writes one text for a whole book
fitted_done : (bytes : List ℕ) (text : Book → List ℕ) (w : Answer ℕ) (before after : List ℕ) →
    Writes (onward (taken_book bytes) (λ b. fitted (length before) (text b))) w before after → answer_number w ≡ 0 →
    (b : Book) × TakenAs bytes b × Wrote (text b) (length_due w) before after
unfolding fitted
fitted_done bytes text w before after call z =
    let (t, e) = writes_given _ w before after call z in
    let (b, taken, g) = onward_given (taken_book bytes) _ t e in
    let (short, same) = check_given (ltb (length before) (length (text b))) BufferTooShort (Ok (text b)) t g in
    let own : t ≡ text b = sym (given_same (text b) t same) in
    let fits : length t ≤ length before = rw own (ltb-false (length before) (length (text b)) short) in (
      b,
      taken,
      record {
        size = writes_size _ w before after call t e ∙ ap length own;
        front = writes_front _ w before after call t e fits ∙ own;
        past = writes_past _ w before after call t e fits;
      },
    )

pub dtd_done : (bytes : List ℕ) (w : Answer ℕ) (before after : List ℕ) → WritesDtd bytes w before after → answer_number w ≡ 0 →
    (b : Book) × TakenAs bytes b × Wrote (dtd_of b) (length_due w) before after
unfolding dtd_answer
dtd_done bytes = fitted_done bytes dtd_of

pub fill_done : (bytes : List ℕ) (w : Answer ℕ) (before after : List ℕ) → WritesModels bytes w before after → answer_number w ≡ 0 →
    (b : Book) × TakenAs bytes b × Wrote (models_of b) (length_due w) before after
unfolding models_answer
fill_done bytes = fitted_done bytes models_of

-- ---- a declaration written from the sample

-- The call that writes from the sample writes what the other writes with the model that the call for it gives.
sample_as_written : (bytes : List ℕ) (parent room : ℕ) (m : Model) → model_answer bytes parent ≡ Ok m → sample_text bytes parent room ≡ write_answer bytes parent m room
unfolding sample_text write_answer write_in
sample_as_written bytes parent room m e =
    let g = model_given bytes parent m e in
    let n = length g.book.names in
    let c : IsModel places n m = subst (IsModel places n) (ap answer_model e) (Model3.is_model_lem bytes parent (model_answer bytes parent) refl g.book g.read g.some) in
    rw (g.read, g.due, (good_parent g.book parent).1 g.below, (model_law places n m).1 c)

sample_model : (bytes : List ℕ) (parent room : ℕ) (t : List ℕ) → sample_text bytes parent room ≡ Ok t → (m : Model) × (model_answer bytes parent ≡ Ok m)
unfolding sample_text model_answer
sample_model bytes parent room t e =
    let b = onward_given (taken_book bytes) _ t e in
    let m = onward_given (model_in b.0 parent) _ t b.2 in
    (m.0, ap (λ (a : Answer Book). onward a (λ b. model_in b parent)) b.1 ∙ m.1)

-- A call that was not refused is one that writes with the model that the call for it answers.
pub as_written : (bytes : List ℕ) (parent : ℕ) (w : Answer ℕ) (before after : List ℕ) → WritesSample bytes parent w before after → answer_number w ≡ 0 →
    (x : Answer Model) → InfersModel bytes parent x → WritesDeclaration bytes parent (answer_model x) w before after
as_written bytes parent w before after call z x asked =
    let a = sample_text bytes parent (length before) in
    let (t, e) = writes_given a w before after call z in
    let (m, k) = sample_model bytes parent (length before) t e in
    let same : answer_model x ≡ m = ap answer_model (asked ∙ k) in
    let q : a ≡ write_answer bytes parent (answer_model x) (length before) = sample_as_written bytes parent (length before) m k ∙ ap (λ (n : Model). write_answer bytes parent n (length before)) (sym same) in
    (call.0 ∙ ap written q, call.1 ∙ ap (buffer_after before) q)

-- ---- read, then written

pub read_writes : (bytes text : List ℕ) (r : Answer Declared) → ReadsDeclaration bytes text r → answer_number r ≡ 0 →
    (w : Answer ℕ) (before after : List ℕ) → WritesDeclaration bytes (parent_due r) (model_due r) w before after → longest_declaration ≤ length before →
    (b : Book) × TakenAs bytes b × ((answer_number w ≡ 0) × Wrote (declaration b.names (parent_due r) (model_due r)) (length_due w) before after)
unfolding written parent_due model_due
read_writes bytes text (Ok d) reads z w before after call room =
    let e = (Reading.read_writes bytes text (Ok d) reads (length before) room d refl).2 in
    let o : answer_number w ≡ 0 = ap answer_number (call.0 ∙ ap written e) in
    let (b, q, done) = write_done bytes d.parent d.model w before after call o in
    (b, q, (o, done))
read_writes bytes text (Err f) reads z w before after call room = absurd (let p : 0 < number_of f = number_positive f in omega arith)

-- read as the parent p and the record m, by the number
answers_by : (r : Answer Declared) (p : ℕ) (m : Model) → ((answer_number r ≡ 0) × (parent_due r ≡ p) × (model_due r ≡ m)) ↔ Reads r p m
unfolding parent_due model_due
answers_by (Ok d) p m = (λ (z, a, b). λ i. Ok (declared (a i) (b i)), λ e. (refl, ap parent_due e, ap model_due e))
answers_by (Err f) p m = (λ (z, a, b). absurd (let q : 0 < number_of f = number_positive f in omega arith), λ e. (ap answer_number e, ap parent_due e, ap model_due e))

pub read_number : (bytes text : List ℕ) (r : Answer Declared) → ReadsDeclaration bytes text r → (p : ℕ) (m : Model) →
    ((answer_number r ≡ 0) × (parent_due r ≡ p) × (model_due r ≡ m)) ↔ ((b : Book) × TakenAs bytes b × Spelled places b.names text p m)
read_number bytes text r call p m =
    let h = Reading.read_exactly bytes text r call p m in
    let k = answers_by r p m in
    (λ x. h.0 (k.0 x), λ s. k.1 (h.1 s))

-- ---- the word that tells two models apart

wrote_word : (w before after : List ℕ) (l : ℕ) → length w ≤ length before → l ≡ length w → after ≡ wrote before 0 w → Wrote w l before after
wrote_word w before after l fits size held =
    let seam : after ≡ w ++ drop (length w) before = held ∙ wrote_start before w fits in
    record {
      size = size;
      front = ap (λ (k : ℕ). take k after) size ∙ ap (take (length w)) held ∙ wrote_back before w fits;
      past = rw (size, seam) (drop-append_seam w (drop (length w) before));
    }

pub word_written : (n : ℕ) (first second : Model) (r : Inclusion) (before after : List ℕ) → ComparesModels n first second r before after →
    inclusion_number r ≡ 0 → inclusion_yes r ≡ false →
    (w : List ℕ) × Counterexample first.chain second.chain w × Names n w × (length w ≤ longest_counterexample) ×
    Wrote w (inclusion_length r) before after
word_written n first second r before after call z e =
    let h = Compare.no_writes n first second r before after call z e in
    let p = ((Compare.no_exactly n first second r before after call).0 (z, e)).0 in (
      h.word,
      h.example,
      accepts_names places n first.chain p.first_model.chain (omega arith) h.word h.example.accepted,
      h.short,
      wrote_word h.word before after (inclusion_length r) (omega (arith, h.short, p.enough)) h.size h.buffer,
    )
