-- `gather_block` meets its contract: a block that was read is added, and one that is refused changes nothing.
-- Assumes nothing.
use Rattle.std.proofs.Common.{drop, arith, refl}
use Rattle.book.specs.Book.{block_of}
use Rattle.book_blocks.proofs.Steps.{block_read, block_stopped, same_parts, parent_small, word_small}
use Rattle.book_blocks.proofs.Gathering.{gathers_block, gathers_none}
use Rattle.book_blocks.proofs.gather_block.Goals as goal

pub returns-in_err-size-clause-gathers : goal.returns-in_err-size-clause-gathers
returns-in_err-size-clause-gathers g c =
    let a = c.args in
    gathers_none (g.G.Gather.keeps a.what.now) a.n a.bytes.now a.at a.words.now a.words.now c.in_err-size.field-0.0
    (block_stopped (block_of a.n (drop a.at a.bytes.now)) c.in_err-size.field-0.0 c.in_err-size.ensures) refl

pub overflow_add-from : goal.overflow_add-from
overflow_add-from g c =
    let a = c.args in
    let b = block_read a.n a.bytes.now a.at c.in_ok-size.size c.in_ok-size.ensures in
    omega (arith, b.fits, c.requires.0)

pub bounds-bytes-at : goal.bounds-bytes-at
bounds-bytes-at g c =
    let a = c.args in
    let b = block_read a.n a.bytes.now a.at c.in_ok-size.size c.in_ok-size.ensures in
    omega (arith, b.fits, c.requires.0)

pub overflow_add-at : goal.overflow_add-at
overflow_add-at g c =
    let a = c.args in
    let b = block_read a.n a.bytes.now a.at c.in_ok-size.size c.in_ok-size.ensures in
    omega (arith, b.fits, c.requires.0)

pub bounds-bytes-at-2 : goal.bounds-bytes-at-2
bounds-bytes-at-2 g c =
    let a = c.args in
    let b = block_read a.n a.bytes.now a.at c.in_ok-size.size c.in_ok-size.ensures in
    omega (arith, b.fits, c.requires.0)

pub overflow_add-from-2 : goal.overflow_add-from-2
overflow_add-from-2 g c =
    let a = c.args in
    let b = block_read a.n a.bytes.now a.at c.in_ok-size.size c.in_ok-size.ensures in
    omega (arith, b.fits, c.requires.0)

pub part-requires : goal.part-requires
part-requires g c = (omega arith, (block_read _ _ _ _ c.in_ok-size.ensures).fits)

pub add_block-requires : goal.add_block-requires
add_block-requires g c =
    let a = c.args in
    let b = block_read a.n a.bytes.now a.at c.in_ok-size.size c.in_ok-size.ensures in
    (c.requires.2, parent_small _ _ _ _ b _ c.wide.ensures.0 c.requires.1, word_small _ _ _ _ b _ c.part.ensures c.requires.1)

pub returns-clause-gathers : goal.returns-clause-gathers
returns-clause-gathers g c =
    let a = c.args in
    let K = g.G.Gather.keeps a.what.now in
    let b = block_read a.n a.bytes.now a.at c.in_ok-size.size c.in_ok-size.ensures in
    gathers_block K a.n a.bytes.now a.at a.words.now c.add_block.new.words _ b
    (rw (same_parts _ _ _ _ b _ c.wide.ensures.0 _ c.part.ensures) at c.add_block.ensures)
