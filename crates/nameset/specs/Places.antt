-- To be believed: the number of places, and which counts of names are good. Every name has a number below `places`.
-- Assumes nothing.
use Rattle.std.specs.Prelude.{◌≡◌, ℕ, ◌<◌, Bool, ◌&&◌, ◌⊎◌, nat_le}

-- The code has it as `PLACES`.
abbrev pub places : ℕ
places = 64

-- Paper 01: "a two-byte count N, 1 to 64"; any other count, also when given alone, is refusal 3.
unfoldable pub good_count : ℕ → Bool
good_count n = nat_le 1 n && nat_le n places

-- The condition of refusal 3, "0 or above 64"; `count_bad` in proofs/Count.antt joins the two.
abbrev pub OutOfRange : ℕ → Type 0
OutOfRange n = (n ≡ 0) ⊎ (places < n)
