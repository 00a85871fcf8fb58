-- `answer` meets its contract: the book that was read is all that there was, or too long as that is.
-- Assumes nothing.
use Rattle.std.proofs.Common.{arith, length-take-le}
use Rattle.dtd.proofs.Output.{answered}
use Rattle.dtd.proofs.answer.Goals as goal

pub returns-in-Ok : goal.returns-in-Ok
returns-in-Ok g c =
    let read = c.in-Book.ensures in
    answered _ _ _ _ _ read.taken (λ short. read.whole (omega (arith, short, read.same_length, length-take-le c.in-Book.size _ read.within))) c.in-Ok.ensures
