-- `chain` meets its contract.
-- Assumes nothing.
use Rattle.std.proofs.Common.{rules, ◌∙◌}
use Rattle.follow.specs.View.{facts_with}
use Rattle.chain_factors.proofs.Sets.{some_empty, some_full}
use Rattle.chain.proofs.Sets.{rows_names, rows_edges, occurs_law, stepped_none, stepped_more, stepped_over}
use Rattle.chain.proofs.Stage.{tables_made, reached_through, behind_through, stage_none, stage_last, fewer, stage_room, stage_more, skips_view}
use Rattle.chain.proofs.chain.Goals as goal

pub reach_rows-reach-requires : goal.reach_rows-reach-requires
reach_rows-reach-requires c = (search rules, rows_names _ _ c.requires.2 c.requires.1)

pub loop_groups-loops-requires : goal.loop_groups-loops-requires
loop_groups-loops-requires c =
    let reached = c.reach_rows-reach.ensures _ (rows_edges _ _ c.requires.2) in
    (search rules, reached.names, reached_through _ _ reached)

pub loop-ends-init : goal.loop-ends-init
loop-ends-init c =
    let shown = c.requires.2 in
    record {
      tables = tables_made _ _ _ _ _ (c.reach_rows-reach.ensures _ (rows_edges _ _ shown)) c.loop_groups-loops.ensures;
      stage = stage_none _ _ _ _ (search rules) (search rules) (λ x. c.with_rows-higher.ensures x ∙ occurs_law _ _ shown x);
      stepped = stepped_none _ _ _ (search rules);
    }

pub next_level-level-requires : goal.next_level-level-requires
next_level-level-requires c = let tables = c.loop-ends.invariant.tables in (tables.behind_size, behind_through tables)

pub with_level-m-requires : goal.with_level-m-requires
with_level-m-requires c =
    let inv = c.loop-ends.invariant in
    let args = c.args in
    let room =
    stage_room c.requires.2 c.requires.0 inv.stage inv.tables (some_full _ _ c.is_empty.ensures c.loop-ends-test.true)
    _ _ c.next_level-level.ensures c.minus-above.ensures.members
    c.steps_over-skipped.result (skips_view (facts_with args.starts args.ends args.follows.now args.empty) args.n _ _ _ (stepped_over _ _ _ _ _ _ _ _ inv.stepped c.steps_over-skipped.ensures))
    _ _ c.minus.ensures.members c.both.ensures.members in
    (room, inv.tables.reach_size, inv.tables.behind_size)

pub loop-ends-smaller : goal.loop-ends-smaller
loop-ends-smaller c =
    let inv = c.loop-ends.invariant in
    fewer c.requires.2 c.requires.0 inv.stage inv.tables (some_full _ _ c.is_empty.ensures c.loop-ends-test.true)
    _ _ c.next_level-level.ensures c.minus-above.ensures.members

pub loop-ends-preserved : goal.loop-ends-preserved
loop-ends-preserved c =
    let inv = c.loop-ends.invariant in
    let args = c.args in
    record {
      tables = inv.tables;
      stage = stage_more c.requires.2 c.requires.0 inv.stage inv.tables (some_full _ _ c.is_empty.ensures c.loop-ends-test.true)
          _ _ c.next_level-level.ensures c.minus-above.ensures.members
          c.steps_over-skipped.result (skips_view (facts_with args.starts args.ends args.follows.now args.empty) args.n _ _ _ (stepped_over _ _ _ _ _ _ _ _ inv.stepped c.steps_over-skipped.ensures))
          _ _ c.minus.ensures.members c.both.ensures.members
          _ _ c.with_level-m.ensures c.union-lower.ensures.members;
      stepped = stepped_more inv.stepped _ _ _ _ c.rows_of.ensures c.union-stepped.ensures.members c.union-lower.ensures.members;
    }

pub returns : goal.returns
returns c = stage_last c.requires.2 c.requires.0 c.loop-ends.invariant.stage (some_empty _ _ c.is_empty.ensures c.loop-ends-test.false)
