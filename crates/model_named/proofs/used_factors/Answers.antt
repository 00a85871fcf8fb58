-- `used_factors` meets its contract.
-- Assumes nothing.
use Rattle.std.proofs.Common.{ℕ, ◌+◌, ◌-◌, ◌/◌, ◌≡◌, sym, ◌∙◌, ap, ap₂, ◌||◌, arith}
use Rattle.std.proofs.lemmas.Grind.{get_or_default_zero}
use Rattle.nameset.specs.Set.{member}
use Rattle.model.specs.Record.{no_factor}
use Rattle.nameset.specs.Tests.{any_below}
use Rattle.nameset.proofs.Tests.{any_start}
use Rattle.model_named.proofs.Naming.{holds, named_beyond, any_joined, gather_more}
use Rattle.model_named.proofs.used_factors.Goals as goal

pub loop-x-init : goal.loop-x-init
loop-x-init c =
    ((λ count i l p h. c.empty-first.ensures.members i ∙ sym (any_start _)), λ count i l p h. c.empty-second.ensures.members i ∙ sym (any_start _))

pub loop-x-preserved : goal.loop-x-preserved
loop-x-preserved c =
    let l = c.loop-x in
    let f = c.args.factor.now in
    let here = sym (get_or_default_zero f l.x no_factor (omega (arith, c.min-end.ensures))) in
    let half = c.min-end.result - c.min-end.result / 2 in (
      gather_more c.args.n f (λ k. k) l.x (member l.first) (member c.with-first.result) c.in_set.result l.invariant.0 here c.in_set.ensures.1 c.with-first.ensures.members,
      gather_more c.args.n f (λ k. k + half) l.x (member l.second) (member c.with-second.result) c.in_set-in-loop-x.result l.invariant.1 c.entry.ensures c.in_set-in-loop-x.ensures.1 c.with-second.ensures.members,
    )

pub returns : goal.returns
returns c =
    let l = c.loop-x in
    let n = c.args.n in
    let f = c.args.factor.now in
    let end = c.min-end in
    let e : l.x ≡ end.result - end.result / 2 = omega arith in
    λ count i k p h.
    c.union.ensures.members i
    ∙ ap₂ ◌||◌ (l.invariant.0 count i k p h) (l.invariant.1 count i k p h ∙ ap (λ (z : ℕ). any_below l.x (λ y. holds f i (y + z))) (sym e))
    ∙ any_joined l.x l.x (holds f i)
    ∙ named_beyond n (l.x + l.x) count f i p (omega arith) (omega (arith, end.ensures))
