-- Each refusal has a number of its own: no two have the same, and none has 0, which tells that a call was not refused.
-- Assumes nothing.
use Prim.Native.Nat.{ℕ, zero, suc, ◌<◌}
use mathlib.Core.Path.{◌≡◌, refl, sym, ◌∙◌, ap}
use mathlib.Core.Bool.{false≢true}
use mathlib.Core.List.{List, [], ◌∷◌, map}
use mathlib.Core.Option.{Option, none, some}
use native.Mathlib.Omega.{arith}
use lib.ListN.{get_or}
use Rattle.refusal.specs.declared.Refusal.{Refusal}
use Rattle.refusal.specs.declared.Refusal.TheVariants.{BookTooLong, BytesMissing, BadNameCount, BadName, NameNotAbove, NumberNotBelow, BytesLeftOver, BadParent, NoBlock, NotAModel, BadWord, BufferTooShort, NotADeclaration, UnknownName, NameTwice, BadText, UnusedName, BadDocument, TooDeep}
use Rattle.refusal.specs.Table.{number_of}

-- the table's rows, from number 1 on
rows : List Refusal
rows =
    BookTooLong
    ∷ BytesMissing
    ∷ BadNameCount
    ∷ BadName
    ∷ NameNotAbove
    ∷ NumberNotBelow
    ∷ BytesLeftOver
    ∷ BadParent
    ∷ NoBlock
    ∷ NotAModel
    ∷ BadWord
    ∷ BufferTooShort
    ∷ NotADeclaration
    ∷ UnknownName
    ∷ NameTwice
    ∷ BadText
    ∷ UnusedName
    ∷ BadDocument
    ∷ TooDeep
    ∷ []

-- the refusal that a number tells, if any
told : ℕ → Option Refusal
told n = get_or (none ∷ map some rows) n none

-- a refusal is in the row of its number
row_of : (r : Refusal) → told (number_of r) ≡ some r
unfolding rows told
row_of BookTooLong = refl
row_of BytesMissing = refl
row_of BadNameCount = refl
row_of BadName = refl
row_of NameNotAbove = refl
row_of NumberNotBelow = refl
row_of BytesLeftOver = refl
row_of BadParent = refl
row_of NoBlock = refl
row_of NotAModel = refl
row_of BadWord = refl
row_of BufferTooShort = refl
row_of NotADeclaration = refl
row_of UnknownName = refl
row_of NameTwice = refl
row_of BadText = refl
row_of UnusedName = refl
row_of BadDocument = refl
row_of TooDeep = refl

told_alike : (r q : Refusal) → ◌≡◌ {A = Option Refusal} (some r) (some q) → r ≡ q
told_alike r q e = cc

pub number_injective : (r q : Refusal) → number_of r ≡ number_of q → r ≡ q
number_injective r q e = told_alike r q (sym (row_of r) ∙ ap told e ∙ row_of q)

pub number_positive : (r : Refusal) → 0 < number_of r
unfolding rows told
number_positive r = go (number_of r) (row_of r)
  where
    go : (n : ℕ) → told n ≡ some r → 0 < n
    go zero e = absurd (false≢true cc)
    go (suc n) e = omega arith
