-- To be believed: the bytes of names (paper 01, "The book"): "A name starts with A-Z, a-z or `_`; later bytes may also
-- be 0-9, `-` or `.`."
-- Assumes nothing.
use Rattle.std.specs.Prelude.{ℕ, zero, suc, Bool, cond, ◌&&◌, ◌||◌, List, [], ◌∷◌, leb, eqb}

-- low and high included
unfoldable pub between : ℕ → ℕ → ℕ → Bool
between low high byte = leb low byte && leb byte high

-- A-Z, a-z or `_`
unfoldable pub start_byte : ℕ → Bool
unfolding between
start_byte byte = between 65 90 byte || (between 97 122 byte || eqb byte 95)

-- those, 0-9, `-` or `.`
unfoldable pub later_byte : ℕ → Bool
unfolding start_byte
later_byte byte = start_byte byte || (between 48 57 byte || (eqb byte 45 || eqb byte 46))

-- The class of a byte: 2 for start, 1 for later only, 0 for neither.
unfoldable pub class_of : ℕ → ℕ
unfolding later_byte
class_of byte = cond (start_byte byte) 2 (cond (later_byte byte) 1 0)

-- the classes of n byte values from one on, by rising value
unfoldable pub classes_from : ℕ → ℕ → List ℕ
unfolding class_of
classes_from byte zero = []
classes_from byte (suc n) = class_of byte ∷ classes_from (suc byte) n

-- "A table of 256 classes, one for each byte value".
unfoldable pub class_table : List ℕ
unfolding classes_from
class_table = classes_from 0 256
