-- What a call that writes leaves in the buffer.
-- Assumes nothing.
use Rattle.std.specs.Prelude.{Ok, Err}
use Prim.Native.Nat.{ℕ, ◌≤◌, ◌<◌}
use mathlib.Core.Path.{◌≡◌, refl, sym, ap, subst}
use mathlib.Core.Bool.{not}
use mathlib.Core.List.{List, ◌++◌}
use lib.Dec.{ltb}
use lib.ListN.{length, drop}
use borrow.Author.Tests.{ltb-false, not-false}
use Rattle.refusal.specs.declared.Refusal.{Refusal}
use Rattle.refusal.specs.declared.Refusal.TheVariants.{BadParent, NotAModel, BufferTooShort}
use Rattle.refusal.specs.Answer.{Answer}
use Rattle.refusal.proofs.Answers.{onward_given, check_given, given_same, given_refused, refused_same}
use Rattle.nameset.specs.Places.{places}
use Rattle.book.specs.Book.{Book}
use Rattle.book.specs.Taken.{taken_book, TakenAs, bad_parent}
use Rattle.book.proofs.Taken.{good_parent}
use Rattle.model.specs.declared.Model.{Model}
use Rattle.model.specs.Record.{IsModel}
use Rattle.model.specs.Check.{is_model}
use Rattle.model.proofs.ModelLaw.{model_law}
use Rattle.declaration_spelling.specs.House.{declaration}
use Rattle.declaration_writing.specs.Write.{fitted, write_in, write_answer, written, buffer_after}
use Rattle.byte_buffer.proofs.Puts.{wrote_none, wrote_start}

-- A text that is given is the declaration of the record for a parent of the book, and fits the buffer.
pub record Given (s : List ℕ) (p : ℕ) (m : Model) (room : ℕ) (text : List ℕ) : Type 0 where
  pub book : Book
  pub read : TakenAs s book
  pub below : p < length book.names
  pub model : IsModel places (length book.names) m
  pub same : text ≡ declaration book.names p m
  pub fits : length text ≤ room

pub text_given : (s : List ℕ) (p : ℕ) (m : Model) (room : ℕ) (text : List ℕ) → write_answer s p m room ≡ Ok text → Given s p m room text
unfolding write_answer write_in fitted
text_given s p m room text e =
    let b = onward_given (taken_book s) _ text e in
    let n = length b.0.names in
    let x = check_given (bad_parent b.0 p) BadParent _ text b.2 in
    let y = check_given (not (is_model places n m)) NotAModel _ text x.1 in
    let z = check_given (ltb room (length (declaration b.0.names p m))) BufferTooShort _ text y.1 in
    let same : declaration b.0.names p m ≡ text = given_same _ _ z.1 in
    record {
      book = b.0;
      read = b.1;
      below = (good_parent b.0 p).0 x.0;
      model = (model_law places n m).0 (not-false (is_model places n m) y.0);
      same = sym same;
      fits = subst (λ (t : List ℕ). length t ≤ room) same (ltb-false room _ z.0);
    }

-- the text is at the buffer's start, and all other bytes keep their values
pub buffer_given : (d text : List ℕ) → length text ≤ length d → buffer_after d (Ok text) ≡ text ++ drop (length text) d
unfolding buffer_after
buffer_given d text h = wrote_start d text h

-- a refused call leaves every byte
pub buffer_kept : (d : List ℕ) (r : Refusal) → buffer_after d (Err r) ≡ d
unfolding buffer_after
buffer_kept d r = wrote_none d 0

-- the call ends as the text that is due
pub written_refused : (a : Answer (List ℕ)) (f : Refusal) → written a ≡ Err f → a ≡ Err f
unfolding written
written_refused (Ok t) f e = absurd (given_refused (length t) f e)
written_refused (Err g) f e = ap Err (refused_same {A = ℕ} g f e)

pub written_given : (a : Answer (List ℕ)) (n : ℕ) → written a ≡ Ok n → (t : List ℕ) × (a ≡ Ok t)
unfolding written
written_given (Ok t) n e = (t, refl)
written_given (Err g) n e = absurd (given_refused n g (sym e))
