-- A means: what is left of a text: its next byte, and the run of bytes at its start that pass a test; `cut_spaces`,
-- `cut_sign` and `cut_word` in proofs/Cuts.antt join it to the tokens of the text.
-- Assumes nothing.
use Rattle.std.specs.Prelude.{ℕ, suc, Bool, cond, List, [], ◌∷◌}

-- What stands for the next byte at the end of a text: no byte has this value.
abbrev pub end_of_text : ℕ
end_of_text = 256

unfoldable pub next_of : List ℕ → ℕ
next_of [] = end_of_text
next_of (b ∷ bs) = b

-- How many bytes from the start on pass the test, one after the other.
unfoldable pub run_of : (ℕ → Bool) → List ℕ → ℕ
run_of test [] = 0
run_of test (b ∷ bs) = cond (test b) (suc (run_of test bs)) 0
