-- The state behind a token, test by test.
-- Assumes nothing.
use Rattle.std.proofs.Common.{ap, not, refl, sym, ◌∙◌, arith}
use Rattle.std.proofs.lemmas.Bool.{not-true, not-false}
use Rattle.declaration_walk.specs.Walk.{last_state}
use Rattle.declaration_walk.proofs.States.{nowhere_number}
use Rattle.declaration_form.proofs.Tokens.{here_kind, here_on}
use Rattle.declaration_form.proofs.Steps.{step_unfit, step_sign, step_bad, step_word}
use Rattle.declaration_form.proofs.step.Goals as goal

pub returns-then-not-fits : goal.returns-then-not-fits
returns-then-not-fits c =
    let p = c.requires.0 in
    let unfit = sym c.fits.ensures ∙ not-true _ (ap not c.if-not-fits.true) in
    (nowhere_number last_state refl ∙ step_unfit c.args.text.now _ _ _ p.0 p.1 p.3 _ _ _ unfit, omega arith)

pub next_state-requires : goal.next_state-requires
next_state-requires c =
    let p = c.requires.0 in
    (c.requires.3, c.requires.1, here_kind c.args.text.now _ _ _ p.0 p.1 p.3)

pub returns-then-piece-ne-WORD : goal.returns-then-piece-ne-WORD
returns-then-piece-ne-WORD c =
    let p = c.requires.0 in
    let fit = sym c.fits.ensures ∙ not-false _ (ap not c.if-not-fits.false) in
    (c.next_state.ensures.0 ∙ step_sign c.args.text.now _ _ _ p.0 p.1 p.3 _ _ _ fit c.if-piece-ne-WORD.true, c.next_state.ensures.1)

pub word_kind-kind-requires : goal.word_kind-kind-requires
word_kind-kind-requires c =
    let p = c.requires.0 in
    let h = here_on c.args.text.now _ _ _ p.0 p.1 p.3 in
    (omega arith, p.2)

pub may_stand-requires : goal.may_stand-requires
may_stand-requires c =
    let p = c.requires.0 in
    let h = here_on c.args.text.now _ _ _ p.0 p.1 p.3 in
    (c.requires.2, omega arith, p.2, c.word_kind-kind.ensures.0)

pub returns-then-not-may_stand : goal.returns-then-not-may_stand
returns-then-not-may_stand c =
    let p = c.requires.0 in
    let bad = sym c.may_stand.ensures ∙ not-true _ (ap not c.if-not-may_stand.true) in
    (nowhere_number last_state refl ∙ step_bad c.args.text.now _ _ _ p.0 p.1 p.3 _ _ _ c.if-piece-ne-WORD.false bad, omega arith)

pub returns : goal.returns
returns c =
    let p = c.requires.0 in
    let fit = sym c.fits.ensures ∙ not-false _ (ap not c.if-not-fits.false) in
    let good = sym c.may_stand.ensures ∙ not-false _ (ap not c.if-not-may_stand.false) in
    let word = c.word_kind-kind.ensures.0 in
    (c.next_state-2.ensures.0 ∙ step_word c.args.text.now _ _ _ p.0 p.1 p.3 _ _ _ fit _ word c.if-piece-ne-WORD.false good, c.next_state-2.ensures.1)
