-- The table's entry is the number of the state behind the token.
-- Assumes nothing.
use Rattle.declaration_states.proofs.Table.{entry}
use Rattle.declaration_states.proofs.next_state.Goals as goal

pub returns : goal.returns
returns c = entry _ _ _ c.requires.0 c.requires.1 c.requires.2
