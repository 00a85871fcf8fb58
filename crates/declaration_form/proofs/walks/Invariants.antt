-- What is left is the walk from the cursor on.
-- Assumes nothing.
use Rattle.std.proofs.Common.{◌≡◌, ◌≤◌, true}
use Rattle.name.specs.Class.{class_table}
use Rattle.declaration_walk.specs.Walk.{before_parent, last_state, state_of}
use Rattle.declaration_states.specs.Table.{table}
use Rattle.declaration_form.specs.Step.{accepts_from}
use Rattle.declaration_form.proofs.walks.Given as goal

abbrev pub invariant-loop-piece : goal.invariant-loop-piece
invariant-loop-piece l = record {
  text : l.piece-iterator.text.now ≡ l.text;
  low : l.state ≤ last_state;
  same : accepts_from l.text before_parent true l.at ≡ accepts_from l.text (state_of l.state) l.behind l.piece-iterator.at;
  classes : l.classes ≡ class_table;
  states : l.states ≡ table;
}
