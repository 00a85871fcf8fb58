-- All output: the whole DTD, or the text for a refused book.
-- Assumes nothing.
use Rattle.std.specs.Prelude.{Ok, Err}
use Prim.Native.Nat.{ℕ, ◌+◌, ◌/◌, ◌≤◌}
use mathlib.Core.Path.{◌≡◌, refl, sym, ◌∙◌, ap, subst}
use mathlib.Core.Bool.{cond}
use mathlib.Core.List.{List}
use native.Mathlib.Omega.{arith}
use lib.Dec.{ltb}
use lib.ListN.{length}
use lib.Seq.{length-sets}
use Rattle.refusal.specs.declared.Refusal.{Refusal}
use Rattle.refusal.specs.Table.{number_of}
use Rattle.refusal.proofs.Answers.{given_same}
use Rattle.book.specs.Taken.{taken_book}
use Rattle.declaration_writing.specs.Write.{written, buffer_after}
use Rattle.declaration_writing.proofs.Back.{written_refused, written_given}
use Rattle.byte_buffer.specs.Put.{wrote, Put}
use Rattle.byte_buffer.proofs.Puts.{wrote_none, put_is}
use Rattle.intake_dtd.specs.Dtd.{dtd_answer, WritesDtd, longest_dtd}
use Rattle.intake_dtd.proofs.Short.{dtd_short, room_given, room_refused}
use Rattle.dtd_output.specs.Output.{refused_text, output_of}
use Rattle.dtd_output.proofs.Refused.{room}

module _ (s d e : List ℕ) (long : longest_dtd ≤ length d) where
  -- a refused book: nothing was written, and the refusal is the book's
  module _ (f : Refusal) (call : WritesDtd s (Err f) d e) where
    answer_is : dtd_answer s (length d) ≡ Err f
    answer_is = written_refused (dtd_answer s (length d)) f (sym call.0)

    pub kept : e ≡ d
    unfolding buffer_after
    kept = call.1 ∙ rw answer_is (wrote_none d 0)

    pub still_long : longest_dtd ≤ length e
    still_long = rw kept long

    pub refused_out : (to : ℕ) (g : List ℕ) → Put e 0 (refused_text f) to g → Put d 0 (output_of (taken_book s)) to g × (to ≤ length g)
    unfolding output_of
    refused_out to g q =
        let fits = room f (number_of f) (cond (ltb (number_of f) 10) 0 (48 + number_of f / 10)) refl refl e still_long in
        let p : Put d 0 (refused_text f) to g = subst (λ (x : List ℕ). Put x 0 (refused_text f) to g) kept q in
        (put_is d 0 (refused_text f) (output_of (taken_book s)) to g (sym (ap output_of (room_refused s (length d) f long answer_is))) p, omega (arith, q.place, q.same))

  pub done_out : (n : ℕ) → WritesDtd s (Ok n) d e → Put d 0 (output_of (taken_book s)) n e × (n ≤ length e)
  unfolding output_of written buffer_after wrote
  done_out n call =
      let (text, g) = written_given (dtd_answer s (length d)) n (sym call.0) in
      let (b, taken, same) = room_given s (length d) text long g in
      let short : length text ≤ longest_dtd = subst (λ (t : List ℕ). length t ≤ longest_dtd) same (dtd_short s b taken) in
      let size : n ≡ length text = given_same n (length text) (call.0 ∙ ap written g) in
      let holds : e ≡ wrote d 0 text = call.1 ∙ ap (buffer_after d) g in
      let kept : length e ≡ length d = ap length holds ∙ length-sets d 0 text in
      (put_is d 0 text (output_of (taken_book s)) n e (sym same ∙ sym (ap output_of taken)) (record { place = omega arith; holds = holds; same = kept }), omega arith)
