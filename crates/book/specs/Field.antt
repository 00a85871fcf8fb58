-- To be believed: reading a list of bytes field by field, left to right (paper 01, row 2).
-- Assumes nothing.
use Rattle.std.specs.Prelude.{ℕ, ◌+◌, ◌*◌, List, [], ◌∷◌, ltb, length, take, drop, get_or, Ok, Err}
use Rattle.refusal.specs.declared.Refusal.TheVariants.{BytesMissing}
use Rattle.refusal.specs.Answer.{Answer, onward, refuse_if}

-- A field that was read: its value, and the bytes after it.
pub record Field (A : Type 0) : Type 0 where
  pub value : A
  pub rest : List ℕ

abbrev pub field : {A : Type 0} → A → List ℕ → Field A
field a bytes = record { value = a; rest = bytes }

-- one byte
unfoldable pub byte_of : List ℕ → Answer (Field ℕ)
byte_of [] = Err BytesMissing
byte_of (b ∷ bytes) = Ok (field b bytes)

-- n bytes, taken whole
unfoldable pub bytes_of : ℕ → List ℕ → Answer (Field (List ℕ))
bytes_of n bytes = refuse_if (ltb (length bytes) n) BytesMissing (Ok (field (take n bytes) (drop n bytes)))

-- a count has two bytes
abbrev pub count_size : ℕ
count_size = 2

-- the value of a count whose bytes are known to be there, at a place: the low byte first
abbrev pub count_at : List ℕ → ℕ → ℕ
count_at bytes at = get_or bytes at 0 + 256 * get_or bytes (at + 1) 0

-- a count that is read: its bytes taken whole, then its value
unfoldable pub count_of : List ℕ → Answer (Field ℕ)
count_of bytes = onward (bytes_of count_size bytes) (λ two. Ok (field (count_at two.value 0) two.rest))
