-- `print_blocks` stays within the book: each block that it prints was read.
-- Assumes nothing.
use Rattle.std.proofs.Common.{arith}
use Rattle.book_blocks.proofs.Steps.{block_read}
use Rattle.test_book.proofs.print_blocks.Goals as goal

pub bounds-bytes-at : goal.bounds-bytes-at
bounds-bytes-at g c = omega (arith, (block_read c.args.layout.names c.args.bytes.now c.loop.at c.in-Ok.size c.in-Ok.ensures).fits)

pub overflow_add-at : goal.overflow_add-at
overflow_add-at g c = omega (arith, (block_read c.args.layout.names c.args.bytes.now c.loop.at c.in-Ok.size c.in-Ok.ensures).fits, c.requires)

pub bounds-bytes-at-in-Ok : goal.bounds-bytes-at-in-Ok
bounds-bytes-at-in-Ok g c = omega (arith, (block_read c.args.layout.names c.args.bytes.now c.loop.at c.in-Ok.size c.in-Ok.ensures).fits)

pub overflow_add-at-in-Ok : goal.overflow_add-at-in-Ok
overflow_add-at-in-Ok g c = omega (arith, (block_read c.args.layout.names c.args.bytes.now c.loop.at c.in-Ok.size c.in-Ok.ensures).fits, c.requires)

pub overflow_add-at-in-Ok-2 : goal.overflow_add-at-in-Ok-2
overflow_add-at-in-Ok-2 g c = omega (arith, (block_read c.args.layout.names c.args.bytes.now c.loop.at c.in-Ok.size c.in-Ok.ensures).fits, c.requires)
