-- A turn has a name left, and puts the smallest.
-- Assumes nothing.
use Rattle.nameset.proofs.Laws.{is_empty_none}
use Rattle.declaration_factor.proofs.Rising.{rising_given, within_rest}
use Rattle.declaration_factor.proofs.Steps.{lead_room, member_room, names_more, names_done}
use Rattle.declaration_factor.proofs.put_names.Goals as goal

pub put_some-to-requires : goal.put_some-to-requires
put_some-to-requires c =
    let i = c.loop-x.invariant in
    let turn = rising_given _ _ _ _ c.in-Some.ensures.steps i.below in
    lead_room _ _ _ _ _ _ _ turn c.lead.ensures _ _ _ _ _ i.put c.requires.1

pub put_name-to-requires : goal.put_name-to-requires
put_name-to-requires c =
    let i = c.loop-x.invariant in
    let given = c.in-Some.ensures.steps in
    let turn = rising_given _ _ _ _ given i.below in
    let pre = c.requires in (
      pre.0,
      i.below _ (given.least.found given.some).1,
      member_room _ _ _ _ _ _ _ turn c.lead.ensures _ _ _ _ _ i.put _ _ c.put_some-to.ensures pre.1,
    )

pub loop-x-preserved : goal.loop-x-preserved
loop-x-preserved c =
    let i = c.loop-x.invariant in
    let given = c.in-Some.ensures.steps in
    let turn = rising_given _ _ _ _ given i.below in
    let left = given.others.same in
    record {
      put = names_more _ _ _ _ _ _ _ turn c.lead.ensures _ _ _ _ _ i.put _ _ c.put_some-to.ensures _ _ c.put_name-to.ensures _ left;
      below = within_rest _ _ _ left i.below;
    }

pub returns : goal.returns
returns c = names_done _ _ _ _ _ (is_empty_none _ c.in-None.ensures.steps.none) _ _ _ _ _ c.loop-x.invariant.put
