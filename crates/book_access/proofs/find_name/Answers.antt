-- `find_name` meets its contract.
-- Assumes nothing.
use Rattle.std.proofs.Common.{◌+◌, ◌-◌, ◌/◌, ◌<◌, arith}
use Rattle.book.proofs.Laws.{few_names}
use Rattle.book_access.proofs.Find.{stands, told, hit, miss, below, above}
use Rattle.book_access.proofs.find_name.Goals as goal

pub loop-low-init : goal.loop-low-init
loop-low-init c = record { high = omega arith; below = λ k h. absurd (omega arith); above = λ k h l. absurd (omega arith) }

pub offset_bounds-layout-middle : goal.offset_bounds-layout-middle
offset_bounds-layout-middle c = omega (arith, few_names _ _ c.requires)

pub bounds-layout-middle : goal.bounds-layout-middle
bounds-layout-middle c = omega (arith, few_names _ _ c.requires)

pub compare_at_place-requires : goal.compare_at_place-requires
compare_at_place-requires c = stands _ _ c.requires _ (omega arith) _ c.from.ensures

pub loop-low-preserved-in-Less : goal.loop-low-preserved-in-Less
loop-low-preserved-in-Less c =
    let i = c.loop-low.invariant in
    let middle : c.loop-low.low + (c.loop-low.high - c.loop-low.low) / 2 < c.args.layout.names = omega arith in
    record {
      high = i.high;
      below = below _ _ c.requires _ _ middle (told _ _ c.requires _ _ middle _ c.from.ensures _ _ c.compare_at_place.ensures c.in-Less.is);
      above = i.above;
    }

pub returns-in-Equal : goal.returns-in-Equal
returns-in-Equal c =
    let middle : c.loop-low.low + (c.loop-low.high - c.loop-low.low) / 2 < c.args.layout.names = omega arith in
    hit _ _ c.requires _ _ middle (told _ _ c.requires _ _ middle _ c.from.ensures _ _ c.compare_at_place.ensures c.in-Equal.is)

pub loop-low-preserved : goal.loop-low-preserved
loop-low-preserved c =
    let i = c.loop-low.invariant in
    let middle : c.loop-low.low + (c.loop-low.high - c.loop-low.low) / 2 < c.args.layout.names = omega arith in
    record {
      high = omega arith;
      below = i.below;
      above = above _ _ c.requires _ _ middle (told _ _ c.requires _ _ middle _ c.from.ensures _ _ c.compare_at_place.ensures c.in-Greater.is);
    }

pub returns : goal.returns
returns c = let i = c.loop-low.invariant in miss _ _ c.requires _ _ _ c.loop-low-test.false i.below i.above
