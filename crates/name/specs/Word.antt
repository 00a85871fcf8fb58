-- A means: the bytes that the words of a declaration's text are made of; `name_bytes_lem` in proofs/Words.antt says that
-- every byte of a name is one.
-- Assumes nothing.
use Rattle.std.specs.Prelude.{ℕ, Bool, ◌||◌, eqb}
use Rattle.name.specs.Class.{later_byte}

-- A byte of a word: those that may be in a name, and `#`, with which the word `#PCDATA` begins. A text is cut into
-- words by this test alone, and `is_name` then says of a whole word whether it is a name.
unfoldable pub word_byte : ℕ → Bool
word_byte byte = later_byte byte || eqb byte 35
