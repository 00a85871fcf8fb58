-- A means: the largest number of a row; `most_law` in proofs/Laws.antt says what it tells of each number.
-- Assumes nothing.
use Rattle.std.specs.Prelude.{ℕ, max, List, [], ◌∷◌}

-- the largest of the numbers, 0 where there is none
unfoldable pub largest : List ℕ → ℕ
largest [] = 0
largest (x ∷ xs) = max x (largest xs)
