-- The laws of a book that the calls take. What is checked of a whole book is opened in the first part alone.
-- Assumes nothing.
use Rattle.std.specs.Prelude.{Ok, Err}
use Prim.Native.Nat.{ℕ, ◌≤◌, ◌<◌}
use mathlib.Core.Path.{◌≡◌, refl, ◌∙◌, ap, subst}
use mathlib.Core.Bool.{true, false, not}
use mathlib.Core.List.{List}
use mathlib.Core.Logic.{◌↔◌, ⊎_elim}
use native.Mathlib.Omega.{arith}
use lib.Dec.{ltb}
use lib.ListN.{length}
use borrow.Author.Tests.{lt-ltb, le-ltb, ltb-true, ltb-false, not-true, not-false}
use Rattle.refusal.specs.declared.Refusal.{Refusal}
use Rattle.refusal.specs.declared.Refusal.TheVariants.{UnusedName}
use Rattle.refusal.specs.Table.{of_book}
use Rattle.refusal.specs.Answer.{Answer, onward}
use Rattle.refusal.proofs.Answers.{given_same, given_refused, onward_given, onward_refused, check_given, check_refused}
use Rattle.book.specs.declared.Layout.{Layout}
use Rattle.book.specs.Book.{Book, book_of, IsBook, names_in, blocks_in}
use Rattle.book.specs.Layout.{layout_of, reading_of}
use Rattle.book.specs.Access.{LaidOut}
use Rattle.book.specs.Stops.{Stops}
use Rattle.book.specs.Used.{AllUsed, Unused, has_unused}
use Rattle.book.specs.Taken.{checked_book, taken_book, TakenAs, bad_parent}
use Rattle.book.proofs.Laws.{reading_done, reading_refused, names_in_lem, blocks_in_lem}
use Rattle.book.proofs.Stops.{book_refused, book_stops}
use Rattle.book.proofs.Used.{unused_law, all_used_law}

-- ---- which bytes are taken, and which are refused

-- what the check of a whole book gives
pub checked_given : (b c : Book) → checked_book b ≡ Ok c → (has_unused b ≡ false) × (b ≡ c)
unfolding checked_book
checked_given b c e = let h = check_given (has_unused b) UnusedName (Ok b) c e in (h.0, given_same b c h.1)

checked_refused : (b : Book) (f : Refusal) → checked_book b ≡ Err f → (has_unused b ≡ true) × (UnusedName ≡ f)
unfolding checked_book
checked_refused b f e = ⊎_elim (λ h. h) (λ h. absurd (given_refused b f h.1)) (check_refused (has_unused b) UnusedName (Ok b) f e)

module _ (s : List ℕ) where
  -- Bytes are taken as b exactly where they are the book b and each name of it is used.
  pub taken_law : (b : Book) → TakenAs s b ↔ (IsBook s b × AllUsed b)
  unfolding taken_book checked_book
  taken_law b = (λ e. to (onward_given (book_of s) checked_book b e), λ (q, u). rw (q, (all_used_law b).1 u))
    where
      to : ((x : Book) × (book_of s ≡ Ok x) × (checked_book x ≡ Ok b)) → IsBook s b × AllUsed b
      to (x, q, h) = let k = checked_given x b h in (q ∙ ap Ok k.1, subst AllUsed k.1 ((all_used_law x).0 k.0))

  pub is_book : (b : Book) → TakenAs s b → IsBook s b
  is_book b e = ((taken_law b).0 e).0

  -- They are refused by a number that comes while a book is read exactly where its condition holds,
  pub taken_refused : (f : Refusal) → ¬ (UnusedName ≡ f) → (taken_book s ≡ Err f) ↔ Stops s f
  unfolding taken_book
  taken_refused f d = (
    λ e. (book_refused s f).0 (⊎_elim (λ q. q) (λ (b, q, h). absurd (d (checked_refused b f h).1)) (onward_refused (book_of s) checked_book f e)),
    λ h. let q = (book_refused s f).1 h in rw q,
  )

  -- and by 17 exactly where they are a book with an unused name;
  pub taken_unused : (taken_book s ≡ Err UnusedName) ↔ ((b : Book) × IsBook s b × ((i : ℕ) × Unused b i))
  unfolding taken_book checked_book
  taken_unused = (λ e. ⊎_elim never to (onward_refused (book_of s) checked_book UnusedName e), λ (b, q, u). rw (q, (unused_law b).1 u))
    where
      never : book_of s ≡ Err UnusedName → (b : Book) × IsBook s b × ((i : ℕ) × Unused b i)
      never q = absurd ((book_stops s UnusedName q).1 refl)

      to : ((b : Book) × (book_of s ≡ Ok b) × (checked_book b ≡ Err UnusedName)) → (b : Book) × IsBook s b × ((i : ℕ) × Unused b i)
      to (b, q, h) = (b, q, (unused_law b).0 (checked_refused b UnusedName h).0)

  -- so by the numbers of a book and by no other.
  pub taken_stops : (f : Refusal) → taken_book s ≡ Err f → of_book f ≡ true
  unfolding taken_book
  taken_stops f e =
      ⊎_elim (λ q. (book_stops s f q).0) (λ (b, q, h). subst (λ (r : Refusal). of_book r ≡ true) (checked_refused b f h).1 refl)
      (onward_refused (book_of s) checked_book f e)

-- ---- the parent asked for

pub bad_parent_lem : (b : Book) (p : ℕ) → (bad_parent b p ≡ true) ↔ (length b.names ≤ p)
unfolding bad_parent
bad_parent_lem b p = let n = length b.names in (λ e. ltb-false p n (not-true (ltb p n) e), λ l. ap not (le-ltb p n l))

pub good_parent : (b : Book) (p : ℕ) → (bad_parent b p ≡ false) ↔ (p < length b.names)
unfolding bad_parent
good_parent b p = let n = length b.names in (λ e. ltb-true p n (not-false (ltb p n) e), λ l. ap not (lt-ltb p n l))

-- ---- a call that took a book: it is refused so, or it goes on from a book that is laid out

module _ (s : List ℕ) where
  pub take_refused : {A : Type 0} (next : Book → Answer A) (f : Refusal) → Err f ≡ reading_of (taken_book s) → onward (taken_book s) next ≡ Err f
  take_refused next f e = rw (reading_refused (taken_book s) f e)

  module _ (l : Layout) (read : Ok l ≡ reading_of (taken_book s)) where
    pub book : Book
    book = (reading_done (taken_book s) l read).0

    pub taken : TakenAs s book
    unfolding book
    taken = (reading_done (taken_book s) l read).1

    pub laid : LaidOut s l
    unfolding book
    laid = record { book = book; read = is_book s book taken; same = (reading_done (taken_book s) l read).2 }

    pub layout_is : l ≡ layout_of book
    unfolding book
    layout_is = (reading_done (taken_book s) l read).2

    -- the layout's count is that of the names
    pub names_are : l.names ≡ length book.names
    unfolding laid layout_of
    names_are = ap (λ (x : Layout). x.names) laid.same

    pub names_taken : names_in s ≡ book.names
    unfolding laid
    names_taken = names_in_lem s l laid

    pub blocks_taken : blocks_in s ≡ book.blocks
    unfolding laid
    blocks_taken = blocks_in_lem s l laid

    -- the parent asked for, by the layout's count
    pub parent_refused : (p : ℕ) → l.names ≤ p → bad_parent book p ≡ true
    parent_refused p h = (bad_parent_lem book p).1 (omega (arith, names_are))

    pub parent_passed : (p : ℕ) → p < l.names → bad_parent book p ≡ false
    parent_passed p h = (good_parent book p).1 (omega (arith, names_are))
