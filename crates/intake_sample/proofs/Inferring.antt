-- The answer of each way through the call for a model.
-- Assumes nothing.
use Rattle.std.specs.Prelude.{Ok, Err}
use Prim.Native.Nat.{ℕ, ◌≤◌, ◌<◌}
use mathlib.Core.Path.{◌≡◌, sym, ◌∙◌, ap}
use mathlib.Core.Bool.{true, false}
use mathlib.Core.List.{List}
use Rattle.refusal.specs.declared.Refusal.{Refusal}
use Rattle.refusal.specs.declared.Refusal.TheVariants.{BadParent, NoBlock}
use Rattle.nameset.specs.Places.{places}
use Rattle.refusal.specs.Answer.{Answer, onward}
use Rattle.refusal.proofs.Answers.{onward_given, given_same, given_refused, refused_same}
use Rattle.book.specs.declared.Layout.{Layout}
use Rattle.book.specs.Book.{Book}
use Rattle.book.specs.Layout.{reading_of, layout_of}
use Rattle.book.specs.Taken.{taken_book, TakenAs}
use Rattle.book.proofs.Taken as Taken
use Rattle.book_reading.specs.Opening.{blocks_read}
use Rattle.model.specs.declared.Model.{Model}
use Rattle.follow.specs.View.{view_of}
use Rattle.follow_row.specs.Row.{facts_in, text_in, RowKeeps}
use Rattle.chain_mixed.specs.Mixed.{model_of}
use Rattle.chain_sample.specs.Sample.{show_word}
use Rattle.intake_sample.specs.declared.InferredIn.{InferredIn}
use Rattle.intake_sample.specs.Inference.{model_in, model_answer, found_in}
use Rattle.intake_sample.proofs.Samples.{none_shown, some_shown, model_shown}

module _ (s : List ℕ) (p : ℕ) where
  pub stopped_book : (f : Refusal) → Err f ≡ reading_of (taken_book s) → Err f ≡ found_in s p
  unfolding found_in
  stopped_book f e = sym (Taken.take_refused s _ f e)

  module _ (l : Layout) (read : Ok l ≡ reading_of (taken_book s)) where
    pub stopped_parent : l.names ≤ p → Err BadParent ≡ found_in s p
    unfolding found_in model_in
    stopped_parent h = rw (Taken.taken s l read, Taken.parent_refused s l read p h)

    module _ (below : p < l.names) (row : List ℕ) (kept : RowKeeps p (blocks_read s) row) where
      pub stopped_none : show_word places (view_of l.names (facts_in row)) ≡ false → Err NoBlock ≡ found_in s p
      unfolding found_in model_in
      stopped_none z = rw (Taken.taken s l read, Taken.parent_passed s l read p below, none_shown s l read p row kept z)

      pub model_made : (m : Model) → show_word places (view_of l.names (facts_in row)) ≡ true → m ≡ model_of places (view_of l.names (facts_in row)) (text_in row) →
          Ok (record { layout = l; model = m }) ≡ found_in s p
      unfolding found_in model_in
      model_made m z e =
          let same : l ≡ layout_of (Taken.book s l read) = Taken.layout_is s l read in
          rw (Taken.taken s l read, Taken.parent_passed s l read p below, some_shown s l read p row kept z)
          (λ i. Ok (record { layout = same i; model = (e ∙ model_shown s l read p row kept) i }))

-- ---- what a model that was found tells

pub record Found (s : List ℕ) (p : ℕ) (x : InferredIn) : Type 0 where
  pub book : Book
  pub read : TakenAs s book
  pub due : model_in book p ≡ Ok x.model
  pub placed : x.layout ≡ layout_of book

pub found_given : (s : List ℕ) (p : ℕ) (x : InferredIn) → Ok x ≡ found_in s p → Found s p x
unfolding found_in
found_given s p x e =
    let (b, q, h) = onward_given (taken_book s) _ x (sym e) in
    let (m, due, k) = onward_given (model_in b p) _ x h in
    let same = given_same _ x k in
    record {
      book = b;
      read = q;
      due = due ∙ ap Ok (ap (λ (y : InferredIn). y.model) same);
      placed = sym (ap (λ (y : InferredIn). y.layout) same);
    }

-- ---- the layout left out

pub alone : (s : List ℕ) (p : ℕ) (x : InferredIn) → Ok x ≡ found_in s p → Ok x.model ≡ model_answer s p
unfolding model_answer
alone s p x e = let f = found_given s p x e in rw f.read (sym f.due)

-- the first refusal does not depend on what is made of the values
pub refused_first : {A B C D : Type 0} (a : Answer A) (n : A → Answer B) (x : A → B → C) (y : A → B → Answer D) (f : Refusal) →
    Err f ≡ onward a (λ b. onward (n b) (λ m. Ok (x b m))) → onward a (λ b. onward (n b) (y b)) ≡ Err f
refused_first {A} {B} {C} (Err g) n x y f e = ap Err (sym (refused_same {A = C} f g e))
refused_first {A} {B} {C} {D} (Ok b) n x y f e = go (n b) e
  where
    go : (o : Answer B) → Err f ≡ onward o (λ m. Ok (x b m)) → onward o (y b) ≡ Err f
    go (Err g) e = ap Err (sym (refused_same {A = C} f g e))
    go (Ok m) e = absurd (given_refused (x b m) f (sym e))

pub alone_refused : (s : List ℕ) (p : ℕ) (f : Refusal) → Err f ≡ found_in s p → Err f ≡ model_answer s p
unfolding found_in model_answer
alone_refused s p f e = go (taken_book s) e
  where
    go : (a : Answer Book) → ◌≡◌ {A = Answer InferredIn} (Err f) (onward a (λ b. onward (model_in b p) (λ m. Ok (record { layout = layout_of b; model = m })))) → Err f ≡ onward a (λ b. model_in b p)
    go (Err g) e = ap Err (refused_same {A = InferredIn} f g e)
    go (Ok b) e = in_book (model_in b p) e
      where
        in_book : (o : Answer Model) → ◌≡◌ {A = Answer InferredIn} (Err f) (onward o (λ m. Ok (record { layout = layout_of b; model = m }))) → Err f ≡ o
        in_book (Err g) e = ap Err (refused_same {A = InferredIn} f g e)
        in_book (Ok m) e = absurd (given_refused _ f (sym e))
