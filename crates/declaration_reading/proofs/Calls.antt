-- The call that reads: the book, 13, and what stands behind `<!ELEMENT`.
-- Assumes nothing.
use Rattle.std.specs.Prelude.{Ok, Err}
use Prim.Native.Nat.{ℕ, ◌≤◌}
use mathlib.Core.Path.{◌≡◌, refl, sym, ◌∙◌, ap}
use mathlib.Core.Bool.{Bool, true, false, false≢true}
use mathlib.Core.List.{List, ◌++◌}
use mathlib.Core.Option.{Option, none, some}
use native.Mathlib.Omega.{arith}
use lib.ListN.{length}
use Rattle.refusal.specs.declared.Refusal.{Refusal}
use Rattle.refusal.specs.declared.Refusal.TheVariants.{NotADeclaration}
use Rattle.nameset.specs.Places.{places}
use Rattle.book.specs.declared.Layout.{Layout}
use Rattle.book.specs.Book.{names_in}
use Rattle.book.specs.Layout.{reading_of}
use Rattle.book.specs.Taken.{taken_book}
use Rattle.book.proofs.Taken as Taken
use Rattle.declaration_spelling.specs.House.{opening}
use Rattle.declaration_spelling.specs.Cut.{strip}
use Rattle.declaration_spelling.proofs.Tests.{strip_is}
use Rattle.declaration_walk.specs.Walk.{accepts_rest, has_form}
use Rattle.declaration_walk.specs.Gather.{tokens_answer, text_answer}
use Rattle.declaration_rows.specs.Place.{tokens_at}
use Rattle.declaration_reading.specs.Read.{read_answer, ReadsDeclaration}

-- a text that has the form has the nine bytes of `<!ELEMENT`
opened : (s t : List ℕ) → s ≡ opening ++ t → 9 ≤ length s
unfolding opening
opened s t e = let q : length s ≡ length (opening ++ t) = ap length e in omega arith

pub form_opens : (s : List ℕ) → has_form s ≡ true → 9 ≤ length s
unfolding has_form accepts_rest
form_opens s e = go (strip opening s) refl e
  where
    go : (o : Option (List ℕ)) → strip opening s ≡ o → accepts_rest o ≡ true → 9 ≤ length s
    go none q f = absurd (false≢true f)
    go (some t) q f = opened s t (strip_is opening s t q)

module _ (s text : List ℕ) where
  pub stopped_book : (f : Refusal) → Err f ≡ reading_of (taken_book s) → ReadsDeclaration s text (Err f)
  unfolding read_answer
  stopped_book f e = sym (Taken.take_refused s _ f e)

  module _ (l : Layout) (read : Ok l ≡ reading_of (taken_book s)) where
    answer_is : read_answer s text ≡ text_answer places (names_in s) text
    unfolding read_answer
    answer_is = rw (Taken.taken s l read, ← Taken.names_taken s l read)

    pub stopped_form : (t : Bool) → t ≡ has_form text → t ≡ false → ReadsDeclaration s text (Err NotADeclaration)
    unfolding text_answer
    stopped_form t h q = sym (answer_is ∙ rw (← h, q))

    pub all_read : (t : Bool) → t ≡ has_form text → t ≡ true → ReadsDeclaration s text (tokens_answer places (names_in s) (tokens_at text 9))
    unfolding text_answer tokens_at
    all_read t h q = sym (answer_is ∙ rw (← h, q))
