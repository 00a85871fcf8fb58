-- The places that the step leaves and leads to are compared.
-- Assumes nothing.
use Rattle.std.proofs.Common.{ap, subst, sym, ◌∙◌, arith}
use Rattle.std.proofs.lemmas.Bool.{leb-true, leb-false}
use Rattle.model.specs.declared.Chain.{Chain}
use Rattle.model_places.specs.Places.{point, FarRow}
use Rattle.model_places.proofs.Rows.{left_end, too_near, near_enough}
use Rattle.model_places.proofs.Places.has_step.Goals as goal
use Rattle.model_places.proofs.Places.has_step.Goals.{then-a-count, else-a-count}

pub returns-then-nearest-b : goal.returns-then-nearest-b
returns-then-nearest-b c =
    let count = ap (λ (m : Chain). m.count) c.self.view_is in
    elim c.if-a-count.branch [
      | then-a-count w ↦
          near_enough c.args.self.now (point c.args.u) (point c.args.v) c.place_of-a.ensures c.place_of-b.ensures (omega (arith, w.if-a-count.true, c.count.ensures, count))
          w.nearest.ensures (leb-true _ _ (sym w.value-is ∙ c.if-nearest-b.true))
          (subst (λ (m : Chain). FarRow m.count m.mode c.self.inside.far) c.self.view_is c.self.invariant.1) c.entry.ensures
      | else-a-count w ↦ absurd (omega (arith, w.if-a-count.false, leb-true _ _ (sym w.value-is ∙ c.if-nearest-b.true)))
    ]

pub returns-else-nearest-b : goal.returns-else-nearest-b
returns-else-nearest-b c =
    let count = ap (λ (m : Chain). m.count) c.self.view_is in
    elim c.if-a-count.branch [
      | then-a-count w ↦
          c.if-nearest-b.false ∙ too_near c.args.self.now (point c.args.u) (point c.args.v) c.place_of-a.ensures c.place_of-b.ensures (omega (arith, w.if-a-count.true, c.count.ensures, count))
          w.nearest.ensures (leb-false _ _ (sym w.value-is ∙ c.if-nearest-b.false))
      | else-a-count w ↦
          c.if-nearest-b.false ∙ left_end c.args.self.now (point c.args.u) (point c.args.v) c.place_of-a.ensures c.place_of-b.ensures (omega (arith, w.if-a-count.false, c.count.ensures, count))
    ]
