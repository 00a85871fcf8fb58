-- `gather_blocks` meets its contract: block after block, the buffer keeps what the blocks so far show, and the set has
-- the names that they do not use.
-- Assumes nothing.
use Rattle.std.proofs.Common.{◌+◌, ◌-◌, arith, rules}
use Rattle.nameset.specs.Set.{below}
use Rattle.book_blocks.proofs.Steps.{block_read, block_small}
use Rattle.book_blocks.proofs.Gathering.{gather_none, gather_done, gather_rest_lem, gather_stopped, gather_more}
use Rattle.book_blocks.proofs.gather_blocks.Goals as goal

pub loop-done-init : goal.loop-done-init
loop-done-init g c =
    let a = c.args in
    gather_none (g.G.Gather.keeps a.what.now) a.bytes.now a.n a.m a.from (below a.n) _ a.words.now _ c.requires.0 c.below-unused.ensures.same (omega arith)

pub returns-then-is_empty-clause-end : goal.returns-then-is_empty-clause-end
returns-then-is_empty-clause-end g c =
    let a = c.args in
    let l = c.loop-done in
    (gather_rest_lem (g.G.Gather.keeps a.what.now) a.bytes.now a.n a.m a.from (below a.n) a.words.now _ l.at l.unused l.words l.invariant
    _ c.is_empty.ensures.same c.if-is_empty.true _ c.gather_rest.new.words c.gather_rest.ensures.end c.gather_rest.ensures.gathers).0

pub returns-then-is_empty-clause-gathers : goal.returns-then-is_empty-clause-gathers
returns-then-is_empty-clause-gathers g c =
    let a = c.args in
    let l = c.loop-done in
    (gather_rest_lem (g.G.Gather.keeps a.what.now) a.bytes.now a.n a.m a.from (below a.n) a.words.now _ l.at l.unused l.words l.invariant
    _ c.is_empty.ensures.same c.if-is_empty.true _ c.gather_rest.new.words c.gather_rest.ensures.end c.gather_rest.ensures.gathers).1

pub gather_rest-requires : goal.gather_rest-requires
gather_rest-requires g c = (c.loop-done.invariant.walk.within, c.requires.1, c.requires.3, search rules)

pub returns-in_err-size-clause-end : goal.returns-in_err-size-clause-end
returns-in_err-size-clause-end g c =
    let a = c.args in
    let l = c.loop-done in
    let stop = gather_stopped (g.G.Gather.keeps a.what.now) a.bytes.now a.n a.m a.from (below a.n) a.words.now _ l.at l.unused l.words l.invariant
    (a.m - (l.done + 1)) (omega arith) _ c.gather_block.ensures.step _ c.in_err-size.was c.gather_block.new.words c.gather_block.ensures.gathers in
    search (rules, stop.0)

pub returns-in_err-size-clause-gathers : goal.returns-in_err-size-clause-gathers
returns-in_err-size-clause-gathers g c =
    let a = c.args in
    let l = c.loop-done in
    (gather_stopped (g.G.Gather.keeps a.what.now) a.bytes.now a.n a.m a.from (below a.n) a.words.now _ l.at l.unused l.words l.invariant
    (a.m - (l.done + 1)) (omega arith) _ c.gather_block.ensures.step _ c.in_err-size.was c.gather_block.new.words c.gather_block.ensures.gathers).1

pub without_block-unused-requires : goal.without_block-unused-requires
without_block-unused-requires g c =
    let a = c.args in
    let b = block_read a.n a.bytes.now c.loop-done.at c.in_ok-size.size c.in_ok-size.ensures.step in
    block_small a.n a.bytes.now c.loop-done.at c.in_ok-size.size b c.requires.1 c.requires.3

pub overflow_add-at : goal.overflow_add-at
overflow_add-at g c =
    let a = c.args in
    let b = block_read a.n a.bytes.now c.loop-done.at c.in_ok-size.size c.in_ok-size.ensures.step in
    omega (arith, b.fits, c.requires.1)

pub overflow_add-at-in-loop-done : goal.overflow_add-at-in-loop-done
overflow_add-at-in-loop-done g c =
    let a = c.args in
    let b = block_read a.n a.bytes.now c.loop-done.at c.in_ok-size.size c.in_ok-size.ensures.step in
    omega (arith, b.fits, c.requires.1)

pub loop-done-preserved : goal.loop-done-preserved
loop-done-preserved g c =
    let a = c.args in
    let l = c.loop-done in
    let b = block_read a.n a.bytes.now l.at c.in_ok-size.size c.in_ok-size.ensures.step in
    gather_more (g.G.Gather.keeps a.what.now) a.bytes.now a.n a.m a.from (below a.n) a.words.now _ l.at l.unused l.words l.invariant
    (a.m - (l.done + 1)) (omega arith) c.in_ok-size.size b _ c.without_block-unused.ensures
    c.gather_block.new.words c.gather_block.ensures.gathers

pub returns-clause-end : goal.returns-clause-end
returns-clause-end g c =
    let a = c.args in
    let l = c.loop-done in
    (gather_done (g.G.Gather.keeps a.what.now) a.bytes.now a.n a.m a.from (below a.n) a.words.now _ l.at l.unused l.words l.invariant (omega arith)).0

pub returns-clause-gathers : goal.returns-clause-gathers
returns-clause-gathers g c =
    let a = c.args in
    let l = c.loop-done in
    (gather_done (g.G.Gather.keeps a.what.now) a.bytes.now a.n a.m a.from (below a.n) a.words.now _ l.at l.unused l.words l.invariant (omega arith)).1
