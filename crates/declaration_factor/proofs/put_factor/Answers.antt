-- Names, bracket, mark: `many` says whether the factor has more than one name.
-- Assumes nothing.
use Rattle.std.proofs.Common.{rules}
use Rattle.nameset.specs.Set.{Sized}
use Rattle.declaration_factor.proofs.Rising.{names_within, many_is}
use Rattle.declaration_factor.proofs.Steps.{inner_room, close_room, mark_room, factor_put}
use Rattle.declaration_factor.proofs.put_factor.Goals as goal

pub put_names-named-requires : goal.put_names-named-requires
put_names-named-requires c =
    let pre = c.requires in
    let sized : Sized c.args.names = search rules in
    let many = many_is _ _ _ _ pre.2 sized _ _ c.rest.ensures.same c.is_empty-many.ensures.same in
    (pre.0, inner_room _ _ _ _ _ pre.2 _ many c.args.buffer.now _ pre.1, names_within _ _ _ _ pre.2)

pub put_some-closed-requires : goal.put_some-closed-requires
put_some-closed-requires c =
    let pre = c.requires in
    let sized : Sized c.args.names = search rules in
    let many = many_is _ _ _ _ pre.2 sized _ _ c.rest.ensures.same c.is_empty-many.ensures.same in
    close_room _ _ _ _ _ pre.2 _ many _ _ pre.1 _ _ c.put_names-named.ensures _ c.closing.ensures

pub put_some-requires : goal.put_some-requires
put_some-requires c =
    let pre = c.requires in
    let sized : Sized c.args.names = search rules in
    let many = many_is _ _ _ _ pre.2 sized _ _ c.rest.ensures.same c.is_empty-many.ensures.same in
    mark_room _ _ _ _ _ pre.2 _ many _ _ pre.1 _ _ c.put_names-named.ensures _ c.closing.ensures _ _ c.put_some-closed.ensures _ _ c.mark.ensures c.mode_of.ensures

pub returns : goal.returns
returns c =
    let pre = c.requires in
    let sized : Sized c.args.names = search rules in
    let many = many_is _ _ _ _ pre.2 sized _ _ c.rest.ensures.same c.is_empty-many.ensures.same in
    factor_put _ _ _ _ _ pre.2 _ many _ _ pre.1 _ _ c.put_names-named.ensures _ c.closing.ensures _ _ c.put_some-closed.ensures _ _ c.mark.ensures c.mode_of.ensures _ _ c.put_some.ensures
