-- The names before the point, and its own.
-- Assumes nothing.
use Rattle.model_counterexample.proofs.Words.{lead_put}
use Rattle.model_counterexample.proofs.put_lead.Goals as goal

pub returns-in-Name : goal.returns-in-Name
returns-in-Name c =
    lead_put c.args.m c.args.u c.in-Name.x c.entry-own.result c.in-Name.is c.entry-own.ensures c.requires.0 c.args.names.now _ _ _
    c.put_needed-at.ensures
