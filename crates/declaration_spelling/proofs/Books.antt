-- The theorems for the names of a book that was read: paper 01, demand 2, for declarations.
-- Assumes nothing.
use Prim.Native.Nat.{ℕ, ◌≤◌, ◌<◌}
use mathlib.Core.Path.{◌≡◌, refl, subst}
use mathlib.Core.List.{List, []}
use native.Mathlib.Omega.{arith}
use lib.ListN.{length}
use Rattle.nameset.specs.Places.{places}
use Rattle.book.specs.declared.Layout.{Layout}
use Rattle.book.specs.Book.{Book, IsBook, names_in}
use Rattle.book.specs.Layout.{layout_of}
use Rattle.book.specs.Access.{LaidOut}
use Rattle.book.proofs.Laws.{name_count, few_names, names_rising, name_good, one_number}
use Rattle.model.specs.declared.Model.{Model}
use Rattle.model.specs.Record.{IsModel}
use Rattle.declaration_spelling.specs.House.{name_at, declaration}
use Rattle.declaration_spelling.specs.Length.{longest_declaration}
use Rattle.declaration_spelling.proofs.Names.{GoodNames}
use Rattle.declaration_spelling.proofs.Length.{longest_declaration_lem}

module _ (s : List ℕ) (l : Layout) (laid : LaidOut s l) where
  pub few : length (names_in s) ≤ places
  few = omega (arith, few_names s l laid, name_count s l laid)

  pub book_names : GoodNames places (names_in s)
  unfolding name_at
  book_names = record {
    place = omega arith;
    small = omega arith;
    few = few;
    good = λ x h. name_good [] (names_in s) (names_rising s l laid) x h;
    distinct = λ x y h k e. one_number [] (names_in s) (names_rising s l laid) x y h k e;
  }

  -- a declaration has at most 2,253 bytes
  pub book_longest : (p : ℕ) (m : Model) → p < length (names_in s) → IsModel places (length (names_in s)) m → length (declaration (names_in s) p m) ≤ longest_declaration
  book_longest p m h c = longest_declaration_lem (names_in s) p m few book_names.good h c

-- The same by the book's own names.
module _ (s : List ℕ) (b : Book) (is : IsBook s b) where
  laid : LaidOut s (layout_of b)
  laid = record { book = b; read = is; same = refl }

  pub names_are : names_in s ≡ b.names
  unfolding names_in
  names_are = rw is

  pub good_names : GoodNames places b.names
  good_names = subst (GoodNames places) names_are (book_names s (layout_of b) laid)

  -- a declaration has at most 2,253 bytes
  pub declaration_short : (p : ℕ) (m : Model) → p < length b.names → IsModel places (length b.names) m → length (declaration b.names p m) ≤ longest_declaration
  declaration_short p m h c = longest_declaration_lem b.names p m good_names.few good_names.good h c
