-- `row_mixed` meets its contract: the facts that the row keeps, handed to `mixed_chain`.
-- Assumes nothing.
use Rattle.std.proofs.Common.{refl, ◌∙◌, ap, eqb, get_or}
use Rattle.nameset.specs.Places.{places}
use Rattle.nameset.specs.Rows.{row_at}
use Rattle.follow.specs.declared.Facts.{Facts}
use Rattle.follow.specs.View.{view_of}
use Rattle.chain_mixed.specs.Mixed.{mixed_chain}
use Rattle.chain_sample.proofs.Shown.{facts_taken, rows_taken, facts_shown_in}
use Rattle.chain_sample.proofs.row_mixed.Goals as goal

pub mixed_chain-requires : goal.mixed_chain-requires
mixed_chain-requires c = (c.requires.0, rows_taken c.args.row.now c.requires.1.size _ refl)

pub returns : goal.returns
returns c =
    let row = c.args.row.now in
    let facts = facts_taken row c.requires.1.size _ (row_at row 1) _ c.row_at.ensures refl refl in
    c.mixed_chain.ensures (row_at row 1) (eqb (get_or row 2 0) 1) (facts_shown_in _ row c.requires.0 c.requires.1 _ facts)
    ∙ ap (λ (x : Facts). mixed_chain places (view_of c.args.n x)) facts
