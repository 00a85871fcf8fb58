-- The name of the point, and those behind it.
-- Assumes nothing.
use Rattle.std.proofs.Common.{arith, length-set}
use Rattle.model_counterexample.proofs.Words.{low, tail_room, tail_put}
use Rattle.model_counterexample.proofs.put_tail.Goals as goal

pub put_needed-requires : goal.put_needed-requires
put_needed-requires c =
    let own = low c.args.m c.args.v c.in-Name.y c.entry-own.result c.in-Name.is c.entry-own.ensures c.requires.0 in
    let room = tail_room c.args.m c.args.v c.in-Name.y c.entry-own.result c.in-Name.is c.entry-own.ensures c.requires.0 c.args.at c.requires.2 in
    simp length-set (omega (arith, own, room, c.requires.1, c.requires.3))

pub returns-in-Name : goal.returns-in-Name
returns-in-Name c =
    tail_put c.args.m c.args.v c.in-Name.y c.entry-own.result c.in-Name.is c.entry-own.ensures c.requires.0 c.args.names.now _ _ _ _
    c.put_needed.ensures
