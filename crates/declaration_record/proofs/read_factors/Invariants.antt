-- The words passed are known, and from the rows so far the tokens from i on give the answer.
-- Assumes nothing.
use Rattle.std.proofs.Common.{◌≡◌, ◌≤◌, ◌<◌, ◌-◌, length}
use Rattle.nameset.specs.Places.{places}
use Rattle.book.specs.Book.{names_in}
use Rattle.declaration_walk.specs.Gather.{known_tokens, start_rows, gather_from}
use Rattle.declaration_rows.specs.Place.{tokens_at}
use Rattle.declaration_record.proofs.Steps.{left}
use Rattle.declaration_record.proofs.read_factors.Given as goal

abbrev pub invariant-loop-i : goal.invariant-loop-i
invariant-loop-i l =
    record {
      in_range : l.i ≤ length l.text;
      inside : l.index < places;
      factors : length l.factor ≡ places;
      modes : length l.mode ≡ places;
      rows : gather_from places (names_in l.bytes) (tokens_at l.text l.at) (start_rows places) ≡ left (names_in l.bytes) l.text l.i l.index l.factor l.mode;
      known : known_tokens (names_in l.bytes) (tokens_at l.text l.at) ≡ known_tokens (names_in l.bytes) (tokens_at l.text l.i);
    }

abbrev pub decreases-loop-i : goal.decreases-loop-i
decreases-loop-i l = length l.text - l.i
