-- `print_rest` meets what its callees ask: a book that was read is no longer than the longest.
-- Assumes nothing.
use Rattle.book.proofs.Laws.{book_told}
use Rattle.test_book.proofs.print_rest.Goals as goal

pub print_blocks-requires : goal.print_blocks-requires
print_blocks-requires g c = (book_told _ c.requires.book c.requires.read).short
