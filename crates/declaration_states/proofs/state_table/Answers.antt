-- The table of the walk is computed, all of its 240 entries, and is the code's.
-- Assumes nothing.
use Rattle.std.proofs.Common.{refl}
use Rattle.declaration_walk.specs.Walk.{arrows, along, states, step, number_of}
use Rattle.declaration_states.specs.Table.{kinds, row_of, rows_of, table}
use Rattle.declaration_states.proofs.state_table.Goals as goal

pub returns : goal.returns
unfolding table rows_of row_of states kinds number_of step arrows along
returns c = refl
