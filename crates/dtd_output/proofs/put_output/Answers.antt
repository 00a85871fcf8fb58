-- `put_output` meets its contract: the DTD is written, or the refusal is put.
-- Assumes nothing.
use Rattle.dtd_output.proofs.Output.{still_long, refused_out, done_out}
use Rattle.dtd_output.proofs.put_output.Goals as goal

pub returns-in-Ok : goal.returns-in-Ok
returns-in-Ok c = done_out _ _ _ c.requires _ c.in-Ok.ensures

pub put_refused-requires : goal.put_refused-requires
put_refused-requires c = still_long _ _ _ c.requires _ c.in-Err.ensures

pub returns-in-Err : goal.returns-in-Err
returns-in-Err c = refused_out _ _ _ c.requires _ c.in-Err.ensures _ _ c.put_refused.ensures
