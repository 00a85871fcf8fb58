-- `modes_in` meets its contract: the part goes to the end of the row.
-- Assumes nothing.
use Rattle.std.proofs.Common.{ℕ, arith, length-drop}
use Rattle.std.proofs.lemmas.List.{take_all}
use Rattle.model_table.proofs.modes_in.Goals as goal

pub returns : goal.returns
returns c = take_all _ _ (omega (arith, length-drop {A = ℕ}))
