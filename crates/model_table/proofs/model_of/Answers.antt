-- `model_of` meets its contract: a row with a model is whole, and the model is made of its parts.
-- Assumes nothing.
use Rattle.std.proofs.Common.{sym}
use Rattle.model_table.proofs.Rows.{full, entry_lacks, entry_made}
use Rattle.model_table.proofs.model_of.Goals as goal

pub returns-then-is_absent : goal.returns-then-is_absent
returns-then-is_absent c = sym (entry_lacks _ _ c.row_of-row.ensures c.is_absent.ensures c.if-is_absent.true)

pub factors_in-requires : goal.factors_in-requires
factors_in-requires c = full _ _ c.row_of-row.ensures c.is_absent.ensures c.if-is_absent.false

pub modes_in-requires : goal.modes_in-requires
modes_in-requires c = full _ _ c.row_of-row.ensures c.is_absent.ensures c.if-is_absent.false

pub returns : goal.returns
returns c =
    entry_made _ _ c.row_of-row.ensures c.is_absent.ensures c.if-is_absent.false
    c.entry-count.ensures c.factors_in.ensures c.modes_in.ensures c.new-chain.ensures c.entry.ensures c.new.ensures
