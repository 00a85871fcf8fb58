-- What callers may rely on, in the words of paper 01: demand 2 for declarations, and when exactly a text is refused.
-- Assumes nothing.
use Rattle.std.specs.Prelude.{Ok, Err}
use Prim.Native.Nat.{ℕ, ◌≤◌, ◌<◌}
use mathlib.Core.Path.{◌≡◌, refl, sym, ◌∙◌, ap}
use mathlib.Core.Bool.{true, false}
use mathlib.Core.List.{List, Memᴰ}
use mathlib.Core.Logic.{◌↔◌, ◌⊎◌, inl, inr, ⊎_elim}
use native.Mathlib.Omega.{arith}
use lib.ListN.{length}
use borrow.Author.Tests.{le-ltb}
use Rattle.refusal.specs.declared.Refusal.{Refusal}
use Rattle.refusal.specs.declared.Refusal.TheVariants.{NotADeclaration, UnknownName, NameTwice}
use Rattle.refusal.specs.Table.{of_book}
use Rattle.refusal.specs.Answer.{Answer}
use Rattle.nameset.specs.Places.{places}
use Rattle.book.specs.Book.{Book}
use Rattle.book.specs.Taken.{taken_book, TakenAs}
use Rattle.book.proofs.Taken.{is_book, good_parent}
use Rattle.book.proofs.Onward.{book_given, book_later, book_first, book_or_later}
use Rattle.model.specs.declared.Model.{Model}
use Rattle.model.specs.Record.{IsModel, empty_model}
use Rattle.model.proofs.ModelLaw.{model_law}
use Rattle.declaration_spelling.specs.House.{declaration}
use Rattle.declaration_spelling.specs.Length.{longest_declaration}
use Rattle.declaration_spelling.specs.Spelled.{Spelled}
use Rattle.declaration_spelling.specs.Stops.{Form, model_names, form_names, Twice, HasForm}
use Rattle.declaration_spelling.specs.declared.Declared.{Declared}
use Rattle.declaration_spelling.specs.Read.{declared}
use Rattle.declaration_spelling.proofs.Names.{GoodNames}
use Rattle.declaration_spelling.proofs.Books.{good_names, declaration_short}
use Rattle.declaration_walk.specs.Gather.{text_answer}
use Rattle.declaration_walk.proofs.Refusals as Text
use Rattle.declaration_walk.proofs.Theorem as Spelling
use Rattle.declaration_writing.specs.Write.{fitted, write_in, write_answer}
use Rattle.declaration_writing.proofs.Back.{text_given}
use Rattle.declaration_record.specs.Answered.{parent_due, model_due}
use Rattle.declaration_reading.specs.Read.{read_answer, Reads, ReadsDeclaration}

-- ---- when exactly a text is refused

-- the refusals of a text are 13, 14 and 15
abbrev OfText : Refusal → Type 0
OfText f = (NotADeclaration ≡ f) ⊎ ((UnknownName ≡ f) ⊎ (NameTwice ≡ f))

text_late : (f : Refusal) → OfText f → of_book f ≡ false
text_late f (inl z) = ap of_book (sym z)
text_late f (inr (inl z)) = ap of_book (sym z)
text_late f (inr (inr z)) = ap of_book (sym z)

module _ (s text : List ℕ) where
  next : Book → Answer Declared
  next b = text_answer places b.names text

  -- The bytes are taken as a book, and the condition C of its names and the text holds.
  abbrev Of : (List (List ℕ) → Type 0) → Type 0
  Of C = (b : Book) × TakenAs s b × C b.names

  good : (b : Book) → TakenAs s b → GoodNames places b.names
  good b q = good_names s b (is_book s b q)

  by_book : (f : Refusal) → of_book f ≡ false → (C : List (List ℕ) → Type 0) → ((names : List (List ℕ)) → GoodNames places names → (text_answer places names text ≡ Err f) ↔ C names)
      → (read_answer s text ≡ Err f) ↔ Of C
  unfolding read_answer next
  by_book f l C law =
      let h = book_later s next f l in
      (λ e. let (b, q, g) = h.0 e in (b, q, (law b.names (good b q)).0 g), λ (b, q, c). h.1 (b, q, (law b.names (good b q)).1 c))

  -- 1 to 7, 16, 17: the bytes are not taken, for this reason.
  pub text_book_refused : (f : Refusal) → of_book f ≡ true → (read_answer s text ≡ Err f) ↔ (taken_book s ≡ Err f)
  unfolding read_answer next
  text_book_refused f l = book_first s next f l (λ b q e. text_late f (Text.refused_only places b.names (good b q) text f e))

  -- 13: the bytes are taken as a book, and the text does not have the form of a declaration.
  pub refused_13 : (read_answer s text ≡ Err NotADeclaration) ↔ ((b : Book) × TakenAs s b × ((d : Form) → HasForm text d → ⊥))
  unfolding next
  refused_13 = by_book NotADeclaration refl (λ names. (d : Form) → HasForm text d → ⊥) (λ names G. Text.refused_13 places names G text)

  -- 14: it has the form, and a name in it, the parent's included, is not in the book.
  pub refused_14 : (read_answer s text ≡ Err UnknownName)
      ↔ ((b : Book) × TakenAs s b × ((d : Form) × HasForm text d × ((x : List ℕ) × Memᴰ x (form_names d) × (¬ Memᴰ x b.names))))
  unfolding next
  refused_14 =
      by_book UnknownName refl (λ names. (d : Form) × HasForm text d × ((x : List ℕ) × Memᴰ x (form_names d) × (¬ Memᴰ x names))) (λ names G. Text.refused_14 places names G text)

  -- 15: it has the form, all its names are in the book, and one comes twice in the model.
  pub refused_15 : (read_answer s text ≡ Err NameTwice)
      ↔ ((b : Book) × TakenAs s b × ((d : Form) × HasForm text d × ((x : List ℕ) → Memᴰ x (form_names d) → Memᴰ x b.names) × Twice (model_names d.factors)))
  unfolding next
  refused_15 =
      by_book NameTwice refl (λ names. (d : Form) × HasForm text d × ((x : List ℕ) → Memᴰ x (form_names d) → Memᴰ x names) × Twice (model_names d.factors))
      (λ names G. Text.refused_15 places names G text)

  -- No refusal but 1 to 7, 16, 17, 13, 14 and 15 is given.
  pub refused_only : (f : Refusal) → read_answer s text ≡ Err f → (of_book f ≡ true) ⊎ OfText f
  unfolding read_answer next
  refused_only f e = ⊎_elim inl (λ (b, q, h). inr (Text.refused_only places b.names (good b q) text f h)) (book_or_later s next f e)

-- ---- demand 2, declarations

-- a model of a parent that the book has is written
written_for : (s : List ℕ) (b : Book) → TakenAs s b → (p : ℕ) (m : Model) (room : ℕ) → p < length b.names → IsModel places (length b.names) m → longest_declaration ≤ room →
    write_answer s p m room ≡ Ok (declaration b.names p m)
unfolding write_answer write_in fitted
written_for s b q p m room l c h =
    let k = declaration_short s b (is_book s b q) p m l c in
    rw (q, (good_parent b p).1 l, (model_law places (length b.names) m).1 c, le-ltb room (length (declaration b.names p m)) (omega arith))

module _ (s text : List ℕ) (r : Answer Declared) (call : ReadsDeclaration s text r) where
  -- A text is read exactly when it is a spelling of the declaration that is then written for what was read.
  pub read_exactly : (p : ℕ) (m : Model) → Reads r p m ↔ ((b : Book) × TakenAs s b × Spelled places b.names text p m)
  unfolding read_answer next
  read_exactly p m =
      let h = book_given s (next s text) (declared p m) in (
        λ k. let (b, q, e) = h.0 (sym call ∙ k) in (b, q, (Spelling.read_exactly places b.names (good s text b q) text p m).0 e),
        λ (b, q, S). call ∙ h.1 (b, q, (Spelling.read_exactly places b.names (good s text b q) text p m).1 S),
      )

  -- What was read may be written: a buffer of 2,253 bytes always has room for it.
  pub read_writes : (room : ℕ) → longest_declaration ≤ room → (d : Declared) → r ≡ Ok d →
      (b : Book) × TakenAs s b × (write_answer s d.parent d.model room ≡ Ok (declaration b.names d.parent d.model))
  read_writes room l d o =
      let (b, q, S) = (read_exactly d.parent d.model).0 o in
      (b, q, written_for s b q d.parent d.model room S.parent S.model l)

  -- A refused call answers parent 0 and the empty model.
  pub refused_due : (f : Refusal) → r ≡ Err f → (parent_due r ≡ 0) × (model_due r ≡ empty_model places)
  unfolding parent_due model_due
  refused_due f o = (ap parent_due o, ap model_due o)

-- What was written reads back as the same parent and record.
pub read_written : (s : List ℕ) (p : ℕ) (m : Model) (room : ℕ) (text : List ℕ) → write_answer s p m room ≡ Ok text → (r : Answer Declared) → ReadsDeclaration s text r → Reads r p m
unfolding read_answer next
read_written s p m room text e r call =
    let g = text_given s p m room text e in
    let b = g.book in
    let back : text_answer places b.names text ≡ Ok (declared p m) =
    ap (text_answer places b.names) g.same ∙ Spelling.read_written places b.names (good s text b g.read) p m g.below g.model in
    call ∙ (book_given s (next s text) (declared p m)).1 (b, g.read, back)

-- Reading, writing and reading again changes nothing.
pub read_again : (s text : List ℕ) (d : Declared) → ReadsDeclaration s text (Ok d) → (room : ℕ) (again : List ℕ) → write_answer s d.parent d.model room ≡ Ok again →
    (q : Answer Declared) → ReadsDeclaration s again q → q ≡ Ok d
read_again s text d call room again e q second = read_written s d.parent d.model room again e q second
