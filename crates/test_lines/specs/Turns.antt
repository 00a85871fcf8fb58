-- A means: what a loop over the lines of a text is given at each turn, for the test programs alone.
-- Assumes nothing.
use Rattle.std.specs.Prelude.{◌≡◌, ℕ, ◌≤◌, ◌<◌, ◌+◌, List, length, drop, Option, Some, None}
use Rattle.std.specs.Borrow.{Bor}
use Rattle.test_lines.specs.declared.Lines.{Lines}
use Rattle.test_lines.specs.Lines.{first_line, line_end}

-- The line at the place is given, and the next one begins behind its line feed.
pub record Given (s : Lines) (line : Bor (List ℕ)) (t : Lines) : Type 0 where
  pub here : s.at < length s.text.now
  pub is : line.now ≡ first_line (drop s.at s.text.now)
  pub text : t.text ≡ s.text
  pub at : t.at ≡ line_end s.text.now s.at + 1

-- No byte is left, and nothing changes.
pub record Ended (s t : Lines) : Type 0 where
  pub none : length s.text.now ≤ s.at
  pub same : t ≡ s

-- A turn: from the lines s to the lines t that are left.
abbrev pub Steps : Lines → Option (Bor (List ℕ)) → Lines → Type 0
Steps s (Some line) t = Given s line t
Steps s None t = Ended s t
