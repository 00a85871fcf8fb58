-- `EMPTY`, or the factors and a bracket.
-- Assumes nothing.
use Rattle.declaration_text.proofs.Steps.{empty_room, empty_put, factors_room, bracket_room, body_put}
use Rattle.declaration_text.proofs.put_body.Goals as goal

pub put_all-requires : goal.put_all-requires
put_all-requires c = empty_room _ _ _ c.if-m-eq0.true _ _ c.requires.1

pub returns-then-m-eq0 : goal.returns-then-m-eq0
returns-then-m-eq0 c = empty_put _ _ _ c.if-m-eq0.true _ _ _ _ c.put_all.ensures

pub put_factors-to-requires : goal.put_factors-to-requires
put_factors-to-requires c = (c.requires.0, factors_room _ _ _ c.if-m-eq0.false c.args.buffer.now _ c.requires.1, c.requires.2)

pub put_some-requires : goal.put_some-requires
put_some-requires c = bracket_room _ _ _ c.if-m-eq0.false _ _ c.requires.1 _ _ c.put_factors-to.ensures

pub returns : goal.returns
returns c = body_put _ _ _ c.if-m-eq0.false _ _ c.requires.1 _ _ c.put_factors-to.ensures _ _ c.put_some.ensures
