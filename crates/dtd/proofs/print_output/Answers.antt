-- `print_output` meets its contract: what is printed of the buffer is the output that was put into it.
-- Assumes nothing.
use Rattle.std.proofs.Common.{OnOk, subst}
use Rattle.std.specs.Io.KnownBytes.{Appends}
use Rattle.dtd.proofs.Output.{put_taken}
use Rattle.dtd.proofs.print_output.Goals as goal

pub returns : goal.returns
returns g c =
    let put = c.put_output-length.ensures in
    subst (λ text. OnOk c.print.result (Appends (g.W.Write.contents c.args.to.now) (g.W.Write.contents c.print.new.to) text))
    (put_taken _ _ _ _ put.0 put.1) c.print.ensures
