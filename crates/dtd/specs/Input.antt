-- A means: the promise of `read_input`, by which `answer` takes the bytes that were read from its buffer.
-- Assumes nothing.
use Rattle.std.specs.Prelude.{ℕ, ◌≤◌, ◌<◌, List, Option, length, take}
use Rattle.std.specs.Io.KnownBytes.{Consumes, IsAtEnd}
use Rattle.dtd.specs.declared.input.Input.{Input}
use Rattle.dtd.specs.declared.input.Input.TheVariants.{Book, Failed}

-- The bytes that were read are within a buffer of `room` bytes.
abbrev pub Within : Input → ℕ → Type 0
Within (Book size) room = size ≤ room
Within Failed room = Unit {0}

-- The book is what the reader gave, from its first byte on, at the front of the buffer.
-- `before` and `after` are the bytes that the reader still has to give, where they are known.
abbrev pub Taken : Input → Option (List ℕ) → Option (List ℕ) → List ℕ → Type 0
Taken (Book size) before after buffer = Consumes before after (take size buffer)
Taken Failed before after buffer = Unit {0}

-- A book that does not fill its buffer is all that the reader had.
abbrev pub Whole : Input → Option (List ℕ) → List ℕ → Type 0
Whole (Book size) after buffer = size < length buffer → IsAtEnd after
Whole Failed after buffer = Unit {0}
