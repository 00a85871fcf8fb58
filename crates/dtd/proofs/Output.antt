-- What was put into the buffer of the output; and that bytes past the longest book change nothing of its output.
-- Assumes nothing.
use Rattle.std.proofs.Common.{ℕ, ◌≡◌, ◌≤◌, ◌<◌, List, [], ◌++◌, Bool, true, false, None, Some, Option, IfSome, length, take, refl, sym, ap, ◌∙◌, subst, arith, append-nil, length-append, ltb, Err}
use Rattle.std.specs.Io.KnownBytes.{Appends, Consumes, IsAtEnd}
use borrow.Author.Tests.{lt-ltb, ltb-true, ltb-false}
use Rattle.refusal.specs.declared.Refusal.TheVariants.{BookTooLong}
use Rattle.book.specs.Book.{longest_book, book_of}
use Rattle.book.specs.Taken.{taken_book}
use Rattle.byte_buffer.specs.Put.{Put}
use Rattle.byte_buffer.proofs.Puts.{wrote_back}
use Rattle.dtd_output.specs.Output.{output_of}

-- the text that was put is the front of the buffer
pub put_taken : (d text e : List ℕ) (n : ℕ) → Put d 0 text n e → n ≤ length e → take n e ≡ text
put_taken d text e n put within =
    let all : n ≡ length text = omega (arith, put.place) in
    rw (put.holds, all) (wrote_back d text (omega (arith, put.same)))

too_long : (s : List ℕ) → longest_book < length s → taken_book s ≡ Err BookTooLong
unfolding taken_book book_of
too_long s h = rw (lt-ltb longest_book (length s) h) refl

-- bytes that follow more than the longest book change nothing
same_book : (s t rest : List ℕ) → s ≡ t ++ rest → (length t ≤ longest_book → rest ≡ []) → taken_book t ≡ taken_book s
same_book s t rest e ends = go (ltb longest_book (length t)) refl
  where
    go : (b : Bool) → ltb longest_book (length t) ≡ b → taken_book t ≡ taken_book s
    go true h =
        let long = ltb-true longest_book (length t) h in
        too_long t long ∙ sym (too_long s (omega (arith, ap length e, length-append t rest, long)))
    go false h = ap taken_book (sym (e ∙ ap (λ l. t ++ l) (ends (ltb-false longest_book (length t) h)) ∙ append-nil t))

-- what is due for the bytes that were read is what is due for all bytes
pub answered : (given left before after : Option (List ℕ)) (t : List ℕ) → Consumes given left t → (length t ≤ longest_book → IsAtEnd left) →
    Appends before after (output_of (taken_book t)) → IfSome given (λ bytes. Appends before after (output_of (taken_book bytes)))
answered None left before after t read ends wrote = tt
answered (Some s) None before after t read ends wrote = absurd read
answered (Some s) (Some rest) before after t read ends wrote = subst (λ x. Appends before after (output_of x)) (same_book s t rest read ends) wrote
