-- To be believed: the number of each refusal, and what a refused call answers (paper 01, "Where a call stops";
-- paper 02 from 16 on).
-- Assumes nothing.
use Rattle.std.specs.Prelude.{ℕ, Bool, false, ◌||◌, List, [], ◌∷◌, eqb}
use Rattle.refusal.specs.declared.Refusal.{Refusal}
use Rattle.refusal.specs.declared.Refusal.TheVariants.{BookTooLong, BytesMissing, BadNameCount, BadName, NameNotAbove, NumberNotBelow, BytesLeftOver, BadParent, NoBlock, NotAModel, BadWord, BufferTooShort, NotADeclaration, UnknownName, NameTwice, BadText, UnusedName, BadDocument, TooDeep}

-- The number that the papers give it.
abbrev pub number_of : Refusal → ℕ
number_of BookTooLong = 1
number_of BytesMissing = 2
number_of BadNameCount = 3
number_of BadName = 4
number_of NameNotAbove = 5
number_of NumberNotBelow = 6
number_of BytesLeftOver = 7
number_of BadParent = 8
number_of NoBlock = 9
number_of NotAModel = 10
number_of BadWord = 11
number_of BufferTooShort = 12
number_of NotADeclaration = 13
number_of UnknownName = 14
number_of NameTwice = 15
number_of BadText = 16
number_of UnusedName = 17
number_of BadDocument = 18
number_of TooDeep = 19

-- The numbers of the refusals that concern the book: 1 to 7, 16, 17.
abbrev pub book_numbers : List ℕ
book_numbers = 1 ∷ 2 ∷ 3 ∷ 4 ∷ 5 ∷ 6 ∷ 7 ∷ 16 ∷ 17 ∷ []

-- Whether a number is in a list.
abbrev pub listed : ℕ → List ℕ → Bool
listed n [] = false
listed n (k ∷ ks) = eqb n k || listed n ks

-- Whether a refusal is one that concerns the book.
abbrev pub of_book : Refusal → Bool
of_book r = listed (number_of r) book_numbers

-- What a refused call answers: its number, and "a yes or no due is no, a length or parent number due is 0".
-- The model due, the empty model, is `due_model` in crates/model/specs/Record.antt, with the record.
pub record Stopped : Type 0 where
  pub number : ℕ
  pub yes : Bool
  pub length : ℕ
  pub parent : ℕ

abbrev pub stopped_by : Refusal → Stopped
stopped_by r = record { number = number_of r; yes = false; length = 0; parent = 0 }
