-- What is left is the walk from the cursor on.
-- Assumes nothing.
use Rattle.std.proofs.Common.{◌∙◌, sym, ap, ℕ, true, length, arith, eqb}
use Rattle.declaration_cursor.proofs.Tokens.{begun, given_in, same_text}
use Rattle.declaration_walk.specs.Walk.{before_parent, states, state_of}
use Rattle.declaration_walk.proofs.States.{number_state, nowhere_number}
use Rattle.declaration_form.specs.Step.{accepts_from}
use Rattle.declaration_form.proofs.Places.{piece_told, walk_done, walk_over, walk_next, walk_lost}
use Rattle.declaration_form.proofs.walks.Goals as goal

pub loop-piece-init : goal.loop-piece-init
unfolding state_of states
loop-piece-init c =
    let b = begun _ _ _ _ c.into_iter-piece-iterator.ensures.into_iter_gives c.cursor_at-piece-items.ensures in
    record {
      text = b.0;
      low = omega arith;
      same = ap (λ (k : ℕ). accepts_from c.args.text.now before_parent true k) (sym b.1);
      classes = c.class_table-classes.ensures;
      states = c.state_table-states.ensures;
    }

pub returns-then-text-piece : goal.returns-then-text-piece
returns-then-text-piece c =
    let i = c.loop-piece.invariant in
    let g = given_in _ _ _ _ _ i.text c.in-Some.ensures.steps.0 in
    sym (i.same ∙ walk_over _ _ _ _ _ g.is g.here c.if-text-piece.true)

pub step-state-requires : goal.step-state-requires
step-state-requires c =
    let i = c.loop-piece.invariant in
    let g = given_in _ _ _ _ _ i.text c.in-Some.ensures.steps.0 in
    let t = piece_told c.args.text.now _ _ g.is in
    ((t.0, t.1, g.within, c.if-text-piece.false), i.low, i.classes, i.states)

pub returns-then-state-eq-NOWHERE : goal.returns-then-state-eq-NOWHERE
returns-then-state-eq-NOWHERE c =
    let i = c.loop-piece.invariant in
    let g = given_in _ _ _ _ _ i.text c.in-Some.ensures.steps.0 in
    let lost = walk_lost _ _ _ _ (nowhere_number _ c.if-state-eq-NOWHERE.true) in
    sym (i.same ∙ walk_next _ _ _ _ _ g.is c.if-text-piece.false _ c.step-state.ensures.0 ∙ lost)

pub loop-piece-preserved : goal.loop-piece-preserved
loop-piece-preserved c =
    let i = c.loop-piece.invariant in
    let g = given_in _ _ _ _ _ i.text c.in-Some.ensures.steps.0 in
    let next = walk_next _ _ _ _ _ g.is c.if-text-piece.false _ c.step-state.ensures.0 in
    record {
      text = same_text _ _ _ c.in-Some.ensures.steps.1 i.text;
      low = c.step-state.ensures.1;
      same = i.same ∙ next ∙ ap (λ (k : ℕ). accepts_from c.args.text.now (state_of c.step-state.result) (eqb c.in-Some.piece.kind 1) k) (sym g.next);
      classes = i.classes;
      states = i.states;
    }

pub returns : goal.returns
returns c =
    let i = c.loop-piece.invariant in
    let over = walk_done _ _ _ _ (omega (arith, ap length i.text, c.in-None.ensures.steps.0)) in
    sym (i.same ∙ over ∙ ap (λ (n : ℕ). eqb n 18) (number_state _ i.low))
