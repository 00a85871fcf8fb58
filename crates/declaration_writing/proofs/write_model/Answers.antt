-- `write_model` meets its contract: the text is put together aside, and put into the buffer where it fits.
-- Assumes nothing.
use Rattle.std.proofs.Common.{arith}
use Rattle.declaration_writing.proofs.Calls.{fits_aside, size_fits, part_fits, too_short, all_put}
use Rattle.declaration_writing.proofs.write_model.Goals as goal

pub put_declaration-size-requires : goal.put_declaration-size-requires
put_declaration-size-requires c =
    let p = c.requires in
    (p.0, p.1, p.2, fits_aside _ _ _ _ p)

pub returns-then-buffer-size : goal.returns-then-buffer-size
returns-then-buffer-size c =
    too_short _ _ _ _ c.put_declaration-size.ensures (fits_aside _ _ _ _ c.requires) _ c.if-buffer-size.true

pub part-requires : goal.part-requires
part-requires c = (omega arith, size_fits _ _ _ _ c.put_declaration-size.ensures (fits_aside _ _ _ _ c.requires))

pub put_all-requires : goal.put_all-requires
put_all-requires c =
    part_fits _ _ _ _ c.put_declaration-size.ensures (fits_aside _ _ _ _ c.requires) _ c.args.buffer.now c.part.ensures c.if-buffer-size.false

pub returns : goal.returns
returns c =
    all_put _ _ _ _ c.put_declaration-size.ensures (fits_aside _ _ _ _ c.requires) _ _ _ _ c.if-buffer-size.false
    c.part.ensures c.put_all.ensures
