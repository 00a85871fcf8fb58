-- `text_of` meets its contract: what was read, or what is due of a refused call.
-- Assumes nothing.
use Rattle.std.proofs.Common.{rules}
use Rattle.declaration_record.specs.Answered.{parent_due, model_due}
use Rattle.curlewsong_reply.specs.Reply.{text_reply}
use Rattle.curlewsong_reply.proofs.text_of.Goals as goal

pub returns-in-Ok : goal.returns-in-Ok
unfolding text_reply parent_due model_due
returns-in-Ok c = search rules

pub returns-in-Err : goal.returns-in-Err
unfolding text_reply parent_due model_due
returns-in-Err c = search rules
