-- A means: what a loop over the tokens of a text is given at each turn.
-- Assumes nothing.
use Rattle.std.specs.Prelude.{◌≡◌, ℕ, ◌≤◌, ◌<◌, List, length, Option, Some, None}
use Rattle.declaration_scan.specs.declared.Piece.{Piece}
use Rattle.declaration_scan.specs.Piece.{piece_at}
use Rattle.declaration_cursor.specs.declared.Cursor.{Cursor}

-- The next token of the text from `at` on is given, and the text from `to` on is left.
pub record Given (text : List ℕ) (at : ℕ) (piece : Piece) (to : ℕ) : Type 0 where
  pub here : at < length text
  pub is : piece ≡ piece_at text at
  pub within : piece.to ≤ length text
  pub next : to ≡ piece.to

-- A turn: from the cursor s to the cursor t. At the end of the text nothing changes.
abbrev pub Steps : Cursor → Option Piece → Cursor → Type 0
Steps s (Some piece) t = Given s.text.now s.at piece t.at × (t.text ≡ s.text)
Steps s None t = (length s.text.now ≤ s.at) × (t ≡ s)
