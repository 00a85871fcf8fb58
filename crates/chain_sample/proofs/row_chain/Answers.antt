-- `row_chain` meets its contract: the facts that the row keeps, handed to `chain`.
-- Assumes nothing.
use Rattle.std.proofs.Common.{refl, ◌∙◌, ap}
use Rattle.nameset.specs.Places.{places}
use Rattle.follow.specs.declared.Facts.{Facts}
use Rattle.follow.specs.View.{view_of}
use Rattle.chain_levels.specs.Chain.{chain_of}
use Rattle.chain_sample.proofs.Shown.{facts_taken, rows_taken, facts_shown_in}
use Rattle.chain_sample.proofs.row_chain.Goals as goal

pub chain-requires : goal.chain-requires
chain-requires c =
    let size = c.requires.1.size in (
      c.requires.0,
      rows_taken c.args.row.now size _ refl,
      facts_shown_in _ c.args.row.now c.requires.0 c.requires.1 _ (facts_taken c.args.row.now size _ _ _ c.row_at.ensures c.row_at-2.ensures refl),
    )

pub returns : goal.returns
returns c =
    c.chain.ensures
    ∙ ap (λ (x : Facts). chain_of places (view_of c.args.n x))
    (facts_taken c.args.row.now c.requires.1.size _ _ _ c.row_at.ensures c.row_at-2.ensures refl)
