-- No DTD is longer than the longest: a buffer of that length is never too short.
-- Assumes nothing.
use Rattle.std.specs.Prelude.{Ok, Err}
use Prim.Native.Nat.{ℕ, ◌+◌, ◌≤◌, ◌<◌}
use mathlib.Core.Path.{◌≡◌, refl, sym, ◌∙◌, ap, subst}
use mathlib.Core.Bool.{Bool, true, false, cond}
use mathlib.Core.List.{List, [], ◌∷◌, ◌++◌}
use native.Mathlib.Omega.{arith}
use lib.ListN.{length, length-append}
use borrow.Author.Tests.{le-ltb}
use Rattle.refusal.specs.declared.Refusal.{Refusal}
use Rattle.refusal.specs.Answer.{Answer, onward}
use Rattle.refusal.proofs.Answers.{given_same, refused_same, given_refused}
use Rattle.nameset.specs.Places.{places}
use Rattle.book.specs.Book.{Book, IsBook}
use Rattle.book.specs.Layout.{layout_of}
use Rattle.book.specs.Access.{LaidOut}
use Rattle.book.specs.Taken.{taken_book, TakenAs}
use Rattle.book.proofs.Taken.{is_book}
use Rattle.book.proofs.Laws.{names_in_lem}
use Rattle.declaration_spelling.specs.House.{declaration}
use Rattle.declaration_spelling.specs.Length.{longest_declaration}
use Rattle.declaration_text.proofs.Whole.{declaration_short}
use Rattle.declaration_writing.specs.Write.{fitted}
use Rattle.intake_sample.specs.Inference.{sample_of, no_word, parent_model}
use Rattle.intake_sample.proofs.Samples.{some_word_lem, few, sample_words, sample_model}
use Rattle.dtd_lines.specs.Lines.{fact_line, longest_line}
use Rattle.dtd_lines.proofs.Lines.{lines_bound}
use Rattle.intake_dtd.specs.Dtd.{line_of, dtd_of, facts_of, dtd_answer, longest_dtd}
use Rattle.intake_dtd.proofs.Agree.{line_by_facts, dtd_by_facts}

module _ (s : List ℕ) (b : Book) (taken : TakenAs s b) where
  laid : LaidOut s (layout_of b)
  laid = record { book = b; read = is_book s b taken; same = refl }

  text_short : (p : ℕ) → p < length b.names → ¬ (sample_of b p ≡ []) → length (declaration b.names p (parent_model b p)) ≤ longest_declaration
  unfolding layout_of laid
  text_short p below some =
      subst (λ (names : List (List ℕ)). length (declaration names p (parent_model b p)) ≤ longest_declaration) (names_in_lem s (layout_of b) laid)
      (declaration_short s (layout_of b) laid p below (parent_model b p) (sample_model s b (is_book s b taken) p some))

  line_short : (p : ℕ) → p < length b.names → length (line_of b p) ≤ longest_line
  unfolding line_of
  line_short p below = go (no_word (sample_of b p)) refl
    where
      go : (none : Bool) → no_word (sample_of b p) ≡ none → length (cond none [] (declaration b.names p (parent_model b p) ++ (10 ∷ []))) ≤ longest_line
      go true e = omega arith
      go false e =
          let h : length (declaration b.names p (parent_model b p)) ≤ longest_declaration = text_short p below ((some_word_lem (sample_of b p)).0 e) in
          let k : length (declaration b.names p (parent_model b p) ++ (10 ∷ [])) ≡ length (declaration b.names p (parent_model b p)) + 1 = length-append (declaration b.names p (parent_model b p)) (10 ∷ []) in
          omega arith

  read : IsBook s b
  read = is_book s b taken

  pub dtd_short : length (dtd_of b) ≤ longest_dtd
  dtd_short =
      let n : length b.names ≤ places = few s b read in
      let line : (p : ℕ) → p < length b.names → length (fact_line b.names p (facts_of b p)) ≤ longest_line = λ p below. subst (λ (text : List ℕ). length text ≤ longest_line) (sym (line_by_facts b n (facts_of b) p (sample_words s b read p) refl)) (line_short p below) in
      let h = lines_bound b.names (facts_of b) (length b.names) line (length b.names) 0 (omega arith) in
      omega (arith, h, ap length (dtd_by_facts s b read))

-- so with such a buffer the answer is the book's DTD, or the book's refusal
module _ (s : List ℕ) (room : ℕ) where
  with_room : longest_dtd ≤ room → (a : Answer Book) → taken_book s ≡ a → onward a (λ b. fitted room (dtd_of b)) ≡ onward a (λ b. Ok (dtd_of b))
  unfolding fitted
  with_room long (Ok b) e = rw (le-ltb room (length (dtd_of b)) (omega (arith, dtd_short s b e)))
  with_room long (Err f) e = refl

  pub room_given : (text : List ℕ) → longest_dtd ≤ room → dtd_answer s room ≡ Ok text → (b : Book) × (taken_book s ≡ Ok b) × (dtd_of b ≡ text)
  unfolding dtd_answer
  room_given text long e = go (taken_book s) refl (sym (with_room long (taken_book s) refl) ∙ e)
    where
      go : (a : Answer Book) → taken_book s ≡ a → onward a (λ b. Ok (dtd_of b)) ≡ Ok text → (b : Book) × (taken_book s ≡ Ok b) × (dtd_of b ≡ text)
      go (Ok b) q h = (b, q, given_same (dtd_of b) text h)
      go (Err f) q h = absurd (given_refused text f (sym h))

  pub room_refused : (f : Refusal) → longest_dtd ≤ room → dtd_answer s room ≡ Err f → taken_book s ≡ Err f
  unfolding dtd_answer
  room_refused f long e = go (taken_book s) refl (sym (with_room long (taken_book s) refl) ∙ e)
    where
      go : (a : Answer Book) → taken_book s ≡ a → onward a (λ b. Ok (dtd_of b)) ≡ Err f → taken_book s ≡ Err f
      go (Ok b) q h = absurd (given_refused (dtd_of b) f h)
      go (Err g) q h = q ∙ ap Err (refused_same {A = List ℕ} g f h)
