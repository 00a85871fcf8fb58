-- What was passed is known, so the words from the cursor on decide.
-- Assumes nothing.
use Rattle.std.proofs.Common.{◌≡◌}
use Rattle.book.specs.Book.{names_in}
use Rattle.declaration_walk.specs.Gather.{known_tokens}
use Rattle.declaration_rows.specs.Place.{tokens_at}
use Rattle.declaration_rows.proofs.lookup.all_known.Given as goal

abbrev pub invariant-loop-piece : goal.invariant-loop-piece
invariant-loop-piece l = record {
  text : l.piece-iterator.text.now ≡ l.text;
  same : known_tokens (names_in l.bytes) (tokens_at l.text l.at) ≡ known_tokens (names_in l.bytes) (tokens_at l.text l.piece-iterator.at);
}
