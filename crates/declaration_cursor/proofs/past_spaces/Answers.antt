-- The cursor moves to where the white space ends, by what `skip_spaces` answers.
use Rattle.std.proofs.Common.{refl}
use Rattle.declaration_scan.specs.Piece.{space_end}
use Rattle.declaration_cursor.proofs.past_spaces.Goals as goal

pub returns : goal.returns
unfolding space_end
returns c = (refl, c.skip_spaces-at.ensures.0, c.skip_spaces-at.ensures.1)
