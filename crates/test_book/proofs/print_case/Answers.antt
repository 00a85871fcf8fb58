-- `print_case` meets what its callees ask: a book that was read is laid out as the answer says.
-- Assumes nothing.
use Rattle.book.proofs.Taken.{laid}
use Rattle.test_book.proofs.print_case.Goals as goal

pub print_rest-requires : goal.print_rest-requires
print_rest-requires g c = laid _ _ c.in-Ok.ensures
