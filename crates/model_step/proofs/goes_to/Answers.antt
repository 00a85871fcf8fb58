-- `model_step::goes_to` meets its contract.
-- Assumes nothing.
use Rattle.std.proofs.Common.{ℕ, ◌+◌, ◌<◌, ◌≡◌, refl, sym, ◌∙◌, ap, Bool, true, false, nat_eq, arith, ◌≤◌}
use Rattle.model.specs.declared.Chain.{Chain}
use Rattle.model.specs.declared.State.{State}
use Rattle.model.specs.declared.Turn.{Turn}
use Rattle.model.specs.Record.{mode_of}
use Rattle.model.specs.Run.{turn_of, state, after, goes_to, went_to}
use Rattle.model.proofs.Turns.{goes_turn, goes_past}
use Rattle.model_step.proofs.goes_to.Goals as goal

-- What follows from the turn u of the factor i that the loop has come to.
turned : (m : Chain) (own : ℕ) (through : Bool) (from : State) {i n f : ℕ} (t : Bool) {u : Turn} → n ≡ m.count → i < n → f ≡ mode_of m i → u ≡ turn_of f t (nat_eq own i)
    → goes_to m.count m.mode own through (state i t) ≡ goes_to m.count m.mode own through from
    → after u true (goes_to m.count m.mode own through (state (i + 1) false)) ≡ goes_to m.count m.mode own through from
unfolding mode_of
turned m own through from {i} {n} {f} t e l g h k = sym (goes_turn m.mode m.count i t own through (omega arith) g h refl) ∙ k

pub returns-in-Take : goal.returns-in-Take
unfolding after
returns-in-Take c =
    let a = c.args in
    c.went_to.ensures
    ∙ ap (λ b. went_to b a.own)
    (turned a.rows.now a.own a.through a.from c.loop-factor.taken c.count-factor-end.ensures c.loop-factor-test.true c.mode_of.ensures c.in-Take.ensures c.loop-factor.invariant)

pub returns-in-Refuse : goal.returns-in-Refuse
unfolding after went_to
returns-in-Refuse c =
    let a = c.args in
    ap (λ b. went_to b a.own)
    (turned a.rows.now a.own a.through a.from c.loop-factor.taken c.count-factor-end.ensures c.loop-factor-test.true c.mode_of.ensures c.in-Refuse.ensures c.loop-factor.invariant)

pub loop-factor-preserved : goal.loop-factor-preserved
unfolding after
loop-factor-preserved c =
    let a = c.args in
    turned a.rows.now a.own a.through a.from c.loop-factor.taken c.count-factor-end.ensures c.loop-factor-test.true c.mode_of.ensures c.in-Leave.ensures c.loop-factor.invariant

pub returns : goal.returns
returns c =
    let a = c.args in
    let m = a.rows.now in
    let l = c.loop-factor in
    let past : m.count ≤ l.factor = omega (arith, c.count-factor-end.ensures) in
    c.went_to-2.ensures ∙ ap (λ b. went_to b a.own) (sym (goes_past m.mode m.count l.factor l.taken a.own a.through past) ∙ l.invariant)
