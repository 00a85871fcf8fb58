-- `mixed_chain` meets its contract.
-- Assumes nothing.
use Rattle.chain_mixed.proofs.Built.{one_room, mixed_is}
use Rattle.chain_mixed.proofs.mixed_chain.Goals as goal

pub with_any-requires : goal.with_any-requires
with_any-requires c = one_room _ c.with_rows-names.result c.empty.ensures

pub returns : goal.returns
returns c ends empty shown = mixed_is _ _ _ _ _ shown c.with_rows-names.ensures c.empty.ensures c.with_any.ensures
