-- What is put together for a model is its declaration, and is no longer than the longest.
-- Assumes nothing.
use Prim.Native.Nat.{ℕ, ◌+◌, ◌≤◌, ◌<◌}
use mathlib.Core.Path.{◌≡◌, ◌∙◌, ap, subst}
use mathlib.Core.List.{List}
use native.Mathlib.Omega.{arith}
use lib.ListN.{length}
use Rattle.nameset.specs.Places.{places}
use Rattle.book.specs.declared.Layout.{Layout}
use Rattle.book.specs.Book.{names_in}
use Rattle.book.specs.Access.{LaidOut}
use Rattle.book.proofs.Laws.{name_count}
use Rattle.model.specs.declared.Model.{Model}
use Rattle.model.specs.Record.{IsModel}
use Rattle.declaration_spelling.specs.House.{declaration}
use Rattle.declaration_spelling.specs.Length.{longest_declaration}
use Rattle.declaration_spelling.proofs.Books.{book_longest}
use Rattle.byte_buffer.specs.Put.{Put}
use Rattle.byte_buffer.proofs.Puts.{put_is}
use Rattle.declaration_factor.specs.Parts.{text_of}
use Rattle.declaration_text.proofs.Text.{text_is}

module _ (s : List ℕ) (l : Layout) (laid : LaidOut s l) (p : ℕ) (below : p < l.names) (m : Model) (is : IsModel places l.names m) where
  model : IsModel places (length (names_in s)) m
  model = subst (λ (n : ℕ). IsModel places n m) (name_count s l laid) is

  -- what is put together is the declaration
  whole_is : text_of (names_in s) l.names p m ≡ declaration (names_in s) p m
  whole_is = ap (λ (n : ℕ). text_of (names_in s) n p m) (name_count s l laid) ∙ text_is (names_in s) p m model

  pub text_room : (at z : ℕ) → at + length (declaration (names_in s) p m) ≤ z → at + length (text_of (names_in s) l.names p m) ≤ z
  text_room at z h = rw whole_is h

  pub declaration_put : (d : List ℕ) (at to : ℕ) (e : List ℕ) → Put d at (text_of (names_in s) l.names p m) to e → Put d at (declaration (names_in s) p m) to e
  declaration_put d at to e = put_is d at (text_of (names_in s) l.names p m) (declaration (names_in s) p m) to e whole_is

  pub declaration_short : length (declaration (names_in s) p m) ≤ longest_declaration
  declaration_short = let q : p < length (names_in s) = omega (arith, name_count s l laid) in book_longest s l laid p m q model
