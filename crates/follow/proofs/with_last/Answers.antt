-- `with_last` meets its contract.
-- Assumes nothing.
use Rattle.std.proofs.Common.{◌∙◌, ◌-◌, length, arith}
use Rattle.book.proofs.Laws.{child_below}
use Rattle.follow.proofs.Words.{last_none, last_some}
use Rattle.follow.proofs.with_last.Goals as goal

pub with-requires : goal.with-requires
with-requires c = let i = rw c.in-Some.is at c.last.ensures.item in omega (arith, child_below _ _ c.requires (length c.args.word.now - 1) (omega (arith, i.3.0)), i.4 (omega arith) 0)

pub returns-in-Some : goal.returns-in-Some
returns-in-Some c =
    let i = rw c.in-Some.is at c.last.ensures.item in
    let some = i.3.0 in
    last_some _ _ _ _ (λ z. omega arith) (c.from.ensures ∙ i.4 (omega arith) 0) c.with.ensures.same

pub returns-in-None : goal.returns-in-None
returns-in-None c =
    let i = rw c.in-None.is at c.last.ensures.item in
    let none = i.3 in
    last_none _ _ (omega arith)
