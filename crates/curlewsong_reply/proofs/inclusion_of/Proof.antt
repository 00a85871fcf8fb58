-- `inclusion_of` meets its contract: one reply for each case.
-- Assumes nothing.
use mathlib.Core.Path.{◌∙◌}
use borrow.Author.Rules.{rules}
use Rattle.curlewsong_reply.proofs.Replies.{included_yes, included_no, included_refused}
use Rattle.curlewsong_reply.proofs.inclusion_of.Statement.{statement}
use Rattle.curlewsong_reply.proofs.inclusion_of.Tie as tie

returns : tie.Need-returns-in-Yes
returns c = c.replied.ensures ∙ included_yes _ c.in-Yes.is

returns-2 : tie.Need-returns-in-No
returns-2 c = c.replied-in-No.ensures ∙ included_no _ _ c.in-No.is

returns-3 : tie.Need-returns-in-Refused
returns-3 c = c.replied-in-Refused.ensures ∙ included_refused _ _ _ c.in-Refused.is c.number.ensures

pub inclusion_of_spec : {M : Type 1} → statement M
inclusion_of_spec =
    tie.close
    (tie.spec (λ c. search rules) (λ c κs. search rules) (λ c. search rules) (λ c κs. search rules) (λ c. search rules)
    (λ c κs. search rules) (λ c κs. search rules) returns returns-2 returns-3)
