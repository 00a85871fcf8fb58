-- The answer of each way through the call that writes from the sample.
-- Assumes nothing.
use Rattle.std.specs.Prelude.{Ok, Err}
use Prim.Native.Nat.{ℕ, ◌<◌}
use mathlib.Core.Path.{◌≡◌, sym, ◌∙◌, ap, subst}
use mathlib.Core.List.{List, []}
use lib.ListN.{length}
use Rattle.refusal.specs.declared.Refusal.{Refusal}
use Rattle.refusal.specs.declared.Refusal.TheVariants.{BadParent, NoBlock}
use Rattle.refusal.specs.Answer.{Answer, onward}
use Rattle.refusal.proofs.Answers.{onward_given, check_given, given_same}
use Rattle.nameset.specs.Places.{places}
use Rattle.book.specs.declared.Layout.{Layout}
use Rattle.book.specs.Book.{Book, names_in}
use Rattle.book.specs.Layout.{layout_of}
use Rattle.book.specs.Access.{LaidOut}
use Rattle.book.specs.Taken.{taken_book, TakenAs, bad_parent}
use Rattle.book.proofs.Taken.{is_book, good_parent}
use Rattle.book.proofs.Laws.{names_in_lem}
use Rattle.model.specs.declared.Model.{Model}
use Rattle.model.specs.Record.{IsModel}
use Rattle.declaration_spelling.specs.House.{declaration}
use Rattle.declaration_writing.specs.Write.{fitted, Writes}
use Rattle.declaration_writing.proofs.Calls.{stopped}
use Rattle.intake_sample.specs.declared.InferredIn.{InferredIn}
use Rattle.intake_sample.specs.Inference.{sample_of, no_word, parent_model, model_in, model_answer, found_in}
use Rattle.intake_sample.specs.Writing.{sample_text}
use Rattle.intake_sample.proofs.Inferring.{Found, found_given, alone, refused_first}
use Rattle.intake_sample.proofs.Samples.{some_word_lem, sample_model}

-- what a model that is given tells of the book and the parent
pub record Given (s : List ℕ) (p : ℕ) (m : Model) : Type 0 where
  pub book : Book
  pub read : TakenAs s book
  pub below : p < length book.names
  pub some : ¬ (sample_of book p ≡ [])
  pub due : model_in book p ≡ Ok m
  pub is : parent_model book p ≡ m

pub model_given : (s : List ℕ) (p : ℕ) (m : Model) → model_answer s p ≡ Ok m → Given s p m
unfolding model_answer model_in
model_given s p m e =
    let b = onward_given (taken_book s) (λ b. model_in b p) m e in
    let x = check_given (bad_parent b.0 p) BadParent _ m b.2 in
    let y = check_given (no_word (sample_of b.0 p)) NoBlock _ m x.1 in
    record {
      book = b.0;
      read = b.1;
      below = (good_parent b.0 p).0 x.0;
      some = (some_word_lem (sample_of b.0 p)).0 y.0;
      due = b.2;
      is = given_same (parent_model b.0 p) m y.1;
    }

-- a refusal of the model is one of the text
pub stopped_model : (s : List ℕ) (p : ℕ) (d : List ℕ) (f : Refusal) → Err f ≡ found_in s p → Writes (sample_text s p (length d)) (Err f) d d
unfolding sample_text found_in
stopped_model s p d f e =
    stopped d f (sample_text s p (length d)) (refused_first (taken_book s) (λ b. model_in b p) (λ b m. record { layout = layout_of b; model = m }) _ f e)

module _ (s : List ℕ) (p : ℕ) (x : InferredIn) (call : Ok x ≡ found_in s p) where
  found : Found s p x
  found = found_given s p x call

  told : Given s p x.model
  told = model_given s p x.model (sym (alone s p x call))

  laid : LaidOut s x.layout
  laid = record { book = found.book; read = is_book s found.book found.read; same = found.placed }

  -- both books are the one that was taken
  same_book : told.book ≡ found.book
  same_book = given_same told.book found.book (sym told.read ∙ found.read)

  layout_is : x.layout ≡ layout_of told.book
  layout_is = found.placed ∙ ap layout_of (sym same_book)

  names_are : x.layout.names ≡ length told.book.names
  unfolding layout_of
  names_are = ap (λ (y : Layout). y.names) layout_is

  model : IsModel places (length told.book.names) x.model
  model = subst (IsModel places (length told.book.names)) told.is (sample_model s told.book (is_book s told.book told.read) p told.some)

  pub model_writable : LaidOut s x.layout × (p < x.layout.names) × IsModel places x.layout.names x.model
  model_writable = (laid, rw names_are told.below, rw names_are model)

  text_is : (room : ℕ) → sample_text s p room ≡ fitted room (declaration (names_in s) p x.model)
  unfolding sample_text laid
  text_is room =
      ap (λ (a : Answer Book). onward a (λ b. onward (model_in b p) (λ m. fitted room (declaration b.names p m)))) told.read
      ∙ ap (λ (a : Answer Model). onward a (λ m. fitted room (declaration told.book.names p m))) told.due
      ∙ ap (λ (b : Book). fitted room (declaration b.names p x.model)) same_book
      ∙ ap (λ (names : List (List ℕ)). fitted room (declaration names p x.model)) (sym (names_in_lem s x.layout laid))

  pub text_written : (d : List ℕ) (w : Answer ℕ) (f : List ℕ) → Writes (fitted (length d) (declaration (names_in s) p x.model)) w d f → Writes (sample_text s p (length d)) w d f
  text_written d w f h = rw (text_is (length d)) h
