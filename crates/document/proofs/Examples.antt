-- The examples have their answers.
-- Assumes nothing.
use mathlib.Core.Path.{◌≡◌, refl}
use mathlib.Core.List.{map}
use Rattle.model.specs.Record.{factor_of}
use Rattle.model.specs.Run.{either, turn_of, after, goes_from, goes_to, went_to, move, may_end}
use Rattle.model_table_step.specs.Run.{move_in, may_close, allows_text}
use Rattle.document.specs.Walk.{kept, goes_on, out_of, opened, closed, texted, by_kind, one_pair, ended, walk, start}
use Rattle.document.specs.Examples.{example_entries, repeated, examples}

pub answered : map (λ e. walk 4 example_entries start e.pairs) examples ≡ map (λ e. e.answer) examples
unfolding example_entries repeated examples walk ended one_pair by_kind opened closed texted out_of kept goes_on move_in may_close allows_text move may_end goes_to goes_from went_to turn_of either after factor_of
answered = refl
