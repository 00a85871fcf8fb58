-- A means: the lines of a text, for the test programs alone; their output is compared with stored files.
-- Assumes nothing.
use Rattle.std.specs.Prelude.{ℕ, ◌+◌, cond, List, [], ◌∷◌, eqb, length, drop}

-- The first line of a text: its bytes before the first line feed, which is the byte 10, or all of them.
unfoldable pub first_line : List ℕ → List ℕ
first_line [] = []
first_line (b ∷ bs) = cond (eqb b 10) [] (b ∷ first_line bs)

-- Where the line that begins at a place ends.
unfoldable pub line_end : List ℕ → ℕ → ℕ
line_end text at = at + length (first_line (drop at text))
