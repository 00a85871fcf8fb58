-- `gather_rest` meets its contract: block after block, the buffer keeps what the blocks so far show, and nothing is left
-- of the empty set.
-- Assumes nothing.
use Rattle.std.proofs.Common.{◌+◌, ◌-◌, arith, rules, refl, sym}
use Rattle.nameset.specs.Set.{empty}
use Rattle.book_unused.proofs.Laws.{block_empty}
use Rattle.book_blocks.proofs.Steps.{block_read}
use Rattle.book_blocks.proofs.Gathering.{gather_none, gather_done, gather_stopped, gather_more}
use Rattle.book_blocks.proofs.gather_rest.Goals as goal

pub loop-init : goal.loop-init
loop-init g c =
    let a = c.args in
    gather_none (g.G.Gather.keeps a.what.now) a.bytes.now a.n a.m a.from empty _ a.words.now _ c.requires.0 refl (omega arith)

pub returns-in_err-size-clause-end : goal.returns-in_err-size-clause-end
returns-in_err-size-clause-end g c =
    let a = c.args in
    let l = c.loop in
    let stop = gather_stopped (g.G.Gather.keeps a.what.now) a.bytes.now a.n a.m a.from empty a.words.now _ l.at empty l.words l.invariant
    (a.m - (l.counter + 1)) (omega arith) _ c.gather_block.ensures.step _ c.in_err-size.was c.gather_block.new.words c.gather_block.ensures.gathers in
    search (rules, stop.0)

pub returns-in_err-size-clause-gathers : goal.returns-in_err-size-clause-gathers
returns-in_err-size-clause-gathers g c =
    let a = c.args in
    let l = c.loop in
    (gather_stopped (g.G.Gather.keeps a.what.now) a.bytes.now a.n a.m a.from empty a.words.now _ l.at empty l.words l.invariant
    (a.m - (l.counter + 1)) (omega arith) _ c.gather_block.ensures.step _ c.in_err-size.was c.gather_block.new.words c.gather_block.ensures.gathers).1

pub overflow_add-at : goal.overflow_add-at
overflow_add-at g c =
    let a = c.args in
    let b = block_read a.n a.bytes.now c.loop.at c.in_ok-size.size c.in_ok-size.ensures.step in
    omega (arith, b.fits, c.requires.1)

pub overflow_add-at-in-loop : goal.overflow_add-at-in-loop
overflow_add-at-in-loop g c =
    let a = c.args in
    let b = block_read a.n a.bytes.now c.loop.at c.in_ok-size.size c.in_ok-size.ensures.step in
    omega (arith, b.fits, c.requires.1)

pub loop-preserved : goal.loop-preserved
loop-preserved g c =
    let a = c.args in
    let l = c.loop in
    let b = block_read a.n a.bytes.now l.at c.in_ok-size.size c.in_ok-size.ensures.step in
    gather_more (g.G.Gather.keeps a.what.now) a.bytes.now a.n a.m a.from empty a.words.now _ l.at empty l.words l.invariant
    (a.m - (l.counter + 1)) (omega arith) c.in_ok-size.size b empty (sym (block_empty _)) c.gather_block.new.words c.gather_block.ensures.gathers

pub returns-clause-end : goal.returns-clause-end
returns-clause-end g c =
    let a = c.args in
    let l = c.loop in
    rw c.empty.ensures.same (gather_done (g.G.Gather.keeps a.what.now) a.bytes.now a.n a.m a.from empty a.words.now _ l.at empty l.words l.invariant (omega arith)).0

pub returns-clause-gathers : goal.returns-clause-gathers
returns-clause-gathers g c =
    let a = c.args in
    let l = c.loop in
    (gather_done (g.G.Gather.keeps a.what.now) a.bytes.now a.n a.m a.from empty a.words.now _ l.at empty l.words l.invariant (omega arith)).1
