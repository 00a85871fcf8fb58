-- A step that is told is shown by a word.
-- Assumes nothing.
use Rattle.model_within.proofs.Turns.{comparable}
use Rattle.intake_within.proofs.Answers.{stepping, says_no}
use Rattle.intake_within.proofs.compare_chains.Goals as goal

pub find_step-requires : goal.find_step-requires
find_step-requires c = comparable _ _ _ _ c.requires.1 c.requires.2 c.extreme_names-extremes.ensures

pub put_word-requires : goal.put_word-requires
put_word-requires c =
    let p = c.requires in
    (stepping _ _ _ p.1 p.2 c.in-Some.step c.in-Some.ensures _ c.extreme_names-extremes.ensures, p.3)

pub returns-in-Some : goal.returns-in-Some
returns-in-Some c =
    let p = c.requires in
    says_no _ _ _ p.1 p.2 c.in-Some.step c.in-Some.ensures _ _ _ c.put_word.ensures
