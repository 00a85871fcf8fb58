-- `loop_groups` meets its contract: a name that is left is the smallest of its group.
-- Assumes nothing.
use Rattle.std.proofs.Common.{◌<◌, ◌≡◌, true, sym, ◌∙◌}
use Rattle.nameset.specs.Places.{places}
use Rattle.nameset.specs.Set.{member}
use Rattle.chain_groups.proofs.Groups.{taken_none, taken_fewer, taken_more, taken_all}
use Rattle.chain_groups.proofs.loop_groups.Goals as goal
use Rattle.chain_groups.proofs.loop_groups.Goals.{After-first-a}

found : (c : After-first-a) → (c.first-a.result < places) × (member c.loop-left.left c.first-a.result ≡ true)
found c = c.first-a.ensures.found (sym c.is_empty.ensures.same ∙ c.loop-left-test.true)

pub loop-left-init : goal.loop-left-init
loop-left-init c = taken_none _ c.requires.2 _ _ _ c.copied-behind.ensures c.empty-leaders.ensures.members c.looping-names.ensures

pub loop-left-smaller : goal.loop-left-smaller
loop-left-smaller c =
    taken_fewer _ c.requires.2 c.loop-left.invariant (found (goal.at.loop-left-smaller c).After-first-a) c.first-a.ensures.least _ c.group_of-group.ensures _ c.minus-left.ensures.members

pub loop-left-preserved : goal.loop-left-preserved
loop-left-preserved c =
    taken_more _ c.requires.2 c.loop-left.invariant (found (goal.at.loop-left-preserved c).After-first-a) c.first-a.ensures.least _ c.group_of-group.ensures _ c.minus-left.ensures.members
    _ _ c.row_at.ensures c.minus-others.ensures.members _ c.put_each.ensures _ c.with-leaders.ensures.members

pub returns : goal.returns
returns c = taken_all c.loop-left.invariant (c.is_empty.ensures.none c.loop-left-test.false) _ c.looping-names.ensures
