-- The parts, one after the other, are the canonical form.
-- Assumes nothing.
use Rattle.declaration_text.proofs.Steps.{opening_room, parent_room, space_room, content_room, end_room, text_put}
use Rattle.declaration_text.proofs.Whole.{text_room, declaration_put}
use Rattle.declaration_text.proofs.put_declaration.Goals as goal

pub put_all-opened-requires : goal.put_all-opened-requires
put_all-opened-requires c =
    let pre = c.requires in
    let room = text_room _ _ pre.0 _ pre.1 _ pre.2 _ _ pre.3 in
    opening_room _ _ _ _ c.args.buffer.now _ room

pub put_name-named-requires : goal.put_name-named-requires
put_name-named-requires c =
    let pre = c.requires in
    let room = text_room _ _ pre.0 _ pre.1 _ pre.2 _ _ pre.3 in
    (pre.0, pre.1, parent_room _ _ _ _ _ _ room _ _ c.put_all-opened.ensures)

pub put_some-spaced-requires : goal.put_some-spaced-requires
put_some-spaced-requires c =
    let pre = c.requires in
    let room = text_room _ _ pre.0 _ pre.1 _ pre.2 _ _ pre.3 in
    space_room _ _ _ _ _ _ room _ _ c.put_all-opened.ensures _ _ c.put_name-named.ensures

pub put_content-modelled-requires : goal.put_content-modelled-requires
put_content-modelled-requires c =
    let pre = c.requires in
    let room = text_room _ _ pre.0 _ pre.1 _ pre.2 _ _ pre.3 in (
      pre.0,
      content_room _ _ _ _ _ _ room _ _ c.put_all-opened.ensures _ _ c.put_name-named.ensures _ _ c.put_some-spaced.ensures,
      pre.2.chain.few,
    )

pub put_some-requires : goal.put_some-requires
put_some-requires c =
    let pre = c.requires in
    let room = text_room _ _ pre.0 _ pre.1 _ pre.2 _ _ pre.3 in
    end_room _ _ _ _ _ _ room _ _ c.put_all-opened.ensures _ _ c.put_name-named.ensures _ _ c.put_some-spaced.ensures _ _
    c.put_content-modelled.ensures

pub returns : goal.returns
returns c =
    let pre = c.requires in
    let room = text_room _ _ pre.0 _ pre.1 _ pre.2 _ _ pre.3 in
    declaration_put _ _ pre.0 _ pre.1 _ pre.2 _ _ _ _
    (text_put _ _ _ _ _ _ room _ _ c.put_all-opened.ensures _ _ c.put_name-named.ensures _ _ c.put_some-spaced.ensures _ _
    c.put_content-modelled.ensures _ _ c.put_some.ensures)
