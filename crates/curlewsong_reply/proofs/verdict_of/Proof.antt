-- `verdict_of` meets its contract: one verdict for each case.
-- Assumes nothing.
use borrow.Author.Rules.{rules}
use Rattle.curlewsong_reply.proofs.Replies.{verdict_yes, verdict_no, verdict_refused}
use Rattle.curlewsong_reply.proofs.verdict_of.Statement.{statement}
use Rattle.curlewsong_reply.proofs.verdict_of.Tie as tie

enum_told : tie.Need-enum_told-1
enum_told c = search rules

returns : tie.Need-returns-in-Yes
returns c = verdict_yes _ c.in-Yes.is

returns-2 : tie.Need-returns-in-No
returns-2 c = verdict_no _ c.in-No.is

returns-3 : tie.Need-returns-in-Refused
returns-3 c = verdict_refused _ _ _ c.in-Refused.is c.number.ensures

pub verdict_of_spec : {M : Type 1} → statement M
verdict_of_spec =
    tie.close
    (tie.spec enum_told (λ c. search rules) (λ c. search rules) (λ c κs. search rules) returns returns-2 returns-3)
