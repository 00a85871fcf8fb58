-- Calls that take a book and go on from it: which part of the call refused.
-- Assumes nothing.
use Rattle.std.specs.Prelude.{Ok, Err}
use mathlib.Core.Path.{◌≡◌, sym, ◌∙◌}
use mathlib.Core.Bool.{true, false, false≢true}
use mathlib.Core.List.{List}
use mathlib.Core.Logic.{◌↔◌, ◌⊎◌, inl, inr, ⊎_elim}
use Prim.Native.Nat.{ℕ}
use Rattle.refusal.specs.declared.Refusal.{Refusal}
use Rattle.refusal.specs.Table.{of_book}
use Rattle.refusal.specs.Answer.{Answer, onward}
use Rattle.refusal.proofs.Answers.{onward_given, onward_refused}
use Rattle.book.specs.Book.{Book}
use Rattle.book.specs.Taken.{taken_book, TakenAs}
use Rattle.book.proofs.Taken.{taken_stops}

module _ {A : Type 0} (s : List ℕ) (next : Book → Answer A) where
  -- a value is given exactly where the bytes are taken as a book from which it is given
  pub book_given : (a : A) → (onward (taken_book s) next ≡ Ok a) ↔ ((b : Book) × TakenAs s b × (next b ≡ Ok a))
  book_given a = (onward_given (taken_book s) next a, λ (b, q, h). rw q h)

  -- a refusal that is not a book's is given exactly where the bytes are taken as a book that is refused so
  pub book_later : (f : Refusal) → of_book f ≡ false → (onward (taken_book s) next ≡ Err f) ↔ ((b : Book) × TakenAs s b × (next b ≡ Err f))
  book_later f l = (λ e. ⊎_elim (λ q. absurd (false≢true (sym l ∙ taken_stops s f q))) (λ h. h) (onward_refused (taken_book s) next f e), λ (b, q, h). rw q h)

  -- a book's refusal is given exactly where the bytes are not taken, for that reason
  pub book_first : (f : Refusal) → of_book f ≡ true → ((b : Book) → TakenAs s b → next b ≡ Err f → of_book f ≡ false) → (onward (taken_book s) next ≡ Err f) ↔ (taken_book s ≡ Err f)
  book_first f l above = (
    λ e. ⊎_elim (λ q. q) (λ h. absurd (false≢true (sym (above h.0 h.1 h.2) ∙ l))) (onward_refused (taken_book s) next f e),
    λ q. rw q,
  )

  -- every refusal is a book's, or one of what is done with it
  pub book_or_later : (f : Refusal) → onward (taken_book s) next ≡ Err f → (of_book f ≡ true) ⊎ ((b : Book) × TakenAs s b × (next b ≡ Err f))
  book_or_later f e = ⊎_elim (λ q. inl (taken_stops s f q)) inr (onward_refused (taken_book s) next f e)

  -- the same by a condition C of the book: of a refusal that is not a book's, and of what is given
  module _ (C : Book → Type 0) where
    pub in_book : (f : Refusal) → of_book f ≡ false → ((b : Book) → (next b ≡ Err f) ↔ C b) → (onward (taken_book s) next ≡ Err f) ↔ ((b : Book) × TakenAs s b × C b)
    in_book f l law =
        let h = book_later f l in
        (λ e. let (b, q, g) = h.0 e in (b, q, (law b).0 g), λ (b, q, c). h.1 (b, q, (law b).1 c))

    pub in_given : ((b : Book) → TakenAs s b → ((x : A) × (next b ≡ Ok x)) ↔ C b) → ((x : A) × (onward (taken_book s) next ≡ Ok x)) ↔ ((b : Book) × TakenAs s b × C b)
    in_given law = (
      λ (x, e). let (b, q, g) = (book_given x).0 e in (b, q, (law b q).0 (x, g)),
      λ (b, q, c). let (x, g) = (law b q).1 c in (x, (book_given x).1 (b, q, g)),
    )
