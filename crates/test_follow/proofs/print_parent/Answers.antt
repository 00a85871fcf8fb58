-- `print_parent` meets what its callee asks: a row of zeros keeps nothing.
-- Assumes nothing.
use Rattle.std.proofs.Common.{refl}
use Rattle.follow_row.specs.Row.{row_size}
use Rattle.follow_row.proofs.Keeps.{row_none}
use Rattle.test_follow.proofs.print_parent.Goals as goal

pub take_parent-taken-requires : goal.take_parent-taken-requires
take_parent-taken-requires g c = row_none _ row_size refl
