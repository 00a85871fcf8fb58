-- `number` meets its contract. For each variant, in the order of the enum: that it is the variant, then its number.
-- Assumes nothing.
use mathlib.Core.Path.{sym, ap}
use borrow.Author.Rules.{rules}
use Rattle.refusal.specs.Table.{number_of}
use Rattle.refusal.proofs.number.Statement.{statement}
use Rattle.refusal.proofs.number.Tie as tie

pub number_spec : {M : Type 1} → statement M
number_spec =
    tie.close
    (tie.spec (λ c. search rules) (λ c. search rules) (λ c. search rules) (λ c. search rules)
    (λ c. search rules) (λ c. search rules) (λ c. search rules) (λ c. search rules) (λ c. search rules)
    (λ c. search rules) (λ c. search rules) (λ c. search rules) (λ c. search rules) (λ c. search rules)
    (λ c. search rules) (λ c. search rules) (λ c. search rules) (λ c. search rules) (λ c. search rules)
    (λ c. ap number_of (sym c.in-BookTooLong.is))
    (λ c. ap number_of (sym c.in-BytesMissing.is))
    (λ c. ap number_of (sym c.in-BadNameCount.is))
    (λ c. ap number_of (sym c.in-BadName.is))
    (λ c. ap number_of (sym c.in-NameNotAbove.is))
    (λ c. ap number_of (sym c.in-NumberNotBelow.is))
    (λ c. ap number_of (sym c.in-BytesLeftOver.is))
    (λ c. ap number_of (sym c.in-BadParent.is))
    (λ c. ap number_of (sym c.in-NoBlock.is))
    (λ c. ap number_of (sym c.in-NotAModel.is))
    (λ c. ap number_of (sym c.in-BadWord.is))
    (λ c. ap number_of (sym c.in-BufferTooShort.is))
    (λ c. ap number_of (sym c.in-NotADeclaration.is))
    (λ c. ap number_of (sym c.in-UnknownName.is))
    (λ c. ap number_of (sym c.in-NameTwice.is))
    (λ c. ap number_of (sym c.in-BadText.is))
    (λ c. ap number_of (sym c.in-UnusedName.is))
    (λ c. ap number_of (sym c.in-BadDocument.is))
    (λ c. ap number_of (sym c.in-TooDeep.is)))
