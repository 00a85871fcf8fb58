-- `(#PCDATA)`, or the names of factor 0, in row 0, behind `(#PCDATA`, and `)*`.
-- Assumes nothing.
use Rattle.std.proofs.Common.{arith}
use Rattle.book.proofs.Laws.{few_names}
use Rattle.model_factors.specs.Names.{NamesOf}
use Rattle.declaration_factor.proofs.Rising.{names_within}
use Rattle.declaration_text.proofs.Steps.{word_room, alone_room, alone_put, names_room, star_room, mixed_put}
use Rattle.declaration_text.proofs.put_mixed.Goals as goal

pub put_all-opened-requires : goal.put_all-opened-requires
put_all-opened-requires c = word_room _ _ _ c.args.buffer.now _ c.requires.1

pub put_some-requires : goal.put_some-requires
put_some-requires c = alone_room _ _ _ _ _ c.requires.1 _ _ c.put_all-opened.ensures c.if-m-eq0.true

pub returns-then-m-eq0 : goal.returns-then-m-eq0
returns-then-m-eq0 c = alone_put _ _ _ _ _ c.requires.1 _ _ c.put_all-opened.ensures c.if-m-eq0.true _ _ c.put_some.ensures

pub factor_rows-rows-requires : goal.factor_rows-rows-requires
factor_rows-rows-requires c = few_names _ _ c.requires.0

pub put_names-named-requires : goal.put_names-named-requires
put_names-named-requires c =
    let row : NamesOf c.args.m c.args.layout.names 0 c.row_at.result = rw c.row_at.ensures (c.factor_rows-rows.ensures.row 0 (omega arith)) in
    (c.requires.0, names_room _ _ _ _ _ c.requires.1 _ _ c.put_all-opened.ensures c.if-m-eq0.false _ row, names_within _ _ _ _ row)

pub put_all-requires : goal.put_all-requires
put_all-requires c =
    let row : NamesOf c.args.m c.args.layout.names 0 c.row_at.result = rw c.row_at.ensures (c.factor_rows-rows.ensures.row 0 (omega arith)) in
    let room = star_room _ _ _ _ _ c.requires.1 _ _ c.put_all-opened.ensures c.if-m-eq0.false _ row _ _ c.put_names-named.ensures in
    omega arith

pub returns : goal.returns
returns c =
    let row : NamesOf c.args.m c.args.layout.names 0 c.row_at.result = rw c.row_at.ensures (c.factor_rows-rows.ensures.row 0 (omega arith)) in
    mixed_put _ _ _ _ _ c.requires.1 _ _ c.put_all-opened.ensures c.if-m-eq0.false _ row _ _ c.put_names-named.ensures _ _ c.put_all.ensures
