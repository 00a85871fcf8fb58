-- To be believed: the rule for names (paper 01, "The book"): a length of 1 to 32, and bytes of the right classes.
-- Assumes nothing.
use Rattle.std.specs.Prelude.{ℕ, Bool, true, false, ◌&&◌, List, [], ◌∷◌, leb, length}
use Rattle.name.specs.Class.{start_byte, later_byte}

-- the most bytes that a name has
abbrev pub longest_name : ℕ
longest_name = 32

unfoldable pub good_length : ℕ → Bool
good_length n = leb 1 n && leb n longest_name

unfoldable pub all_later : List ℕ → Bool
all_later [] = true
all_later (b ∷ bs) = later_byte b && all_later bs

-- a byte that may start a name, then bytes that may stand later
unfoldable pub good_bytes : List ℕ → Bool
good_bytes [] = false
good_bytes (b ∷ bs) = start_byte b && all_later bs

-- The whole rule.
unfoldable pub is_name : List ℕ → Bool
is_name bytes = good_length (length bytes) && good_bytes bytes
