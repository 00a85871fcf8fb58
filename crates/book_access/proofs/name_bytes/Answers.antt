-- `name_bytes` meets its contract: name i stands where the layout says.
-- Assumes nothing.
use Rattle.std.proofs.Common.{◌∙◌, arith}
use Rattle.book.proofs.Laws.{few_names}
use Rattle.book_access.proofs.Find.{stands, named}
use Rattle.book_access.proofs.name_bytes.Goals as goal

pub offset_bounds-layout-i : goal.offset_bounds-layout-i
offset_bounds-layout-i c = omega (arith, few_names _ _ c.requires.0, c.requires.1)

pub bounds-layout-i : goal.bounds-layout-i
bounds-layout-i c = omega (arith, few_names _ _ c.requires.0, c.requires.1)

pub name_at_place-requires : goal.name_at_place-requires
name_at_place-requires c = stands _ _ c.requires.0 _ c.requires.1 _ c.from.ensures

pub returns : goal.returns
returns c = c.name_at_place.ensures ∙ named _ _ c.requires.0 _ c.requires.1 _ c.from.ensures
