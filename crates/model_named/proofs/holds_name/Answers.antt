-- `holds_name` meets its contract.
-- Assumes nothing.
use Rattle.std.proofs.Common.{ℕ, ◌≡◌, min, length, sym, ◌∙◌, ap, ap₂, ◌||◌, arith}
use Rattle.std.proofs.lemmas.Grind.{get_or_default_zero}
use lib.Dec.{eqb}
use Rattle.model.specs.Record.{no_factor}
use Rattle.nameset.specs.Tests.{any_below}
use Rattle.nameset.proofs.Tests.{any_start, any_more}
use Rattle.model_named.proofs.Naming.{holds, named_within}
use Rattle.model_named.proofs.holds_name.Goals as goal

pub loop-x-init : goal.loop-x-init
loop-x-init c = sym (any_start _)

pub loop-x-preserved : goal.loop-x-preserved
loop-x-preserved c =
    let f = c.args.factor.now in
    let x = c.loop-x.x in
    let here = ap (λ (k : ℕ). eqb k c.args.v) (sym (get_or_default_zero f x no_factor (omega (arith, c.min-x-end.ensures)))) in
    ap₂ ◌||◌ c.loop-x.invariant here ∙ sym (any_more x (holds f c.args.v))

pub returns : goal.returns
returns c =
    let n = c.args.n in
    let f = c.args.factor.now in
    let e : c.loop-x.x ≡ min n (length f) = omega (arith, c.min-x-end.ensures) in
    c.loop-x.invariant ∙ ap (λ (k : ℕ). any_below k (holds f c.args.v)) e ∙ named_within n f c.args.v c.requires
