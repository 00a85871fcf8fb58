-- To be believed: the bytes of a text.
-- Assumes nothing.
use Rattle.std.specs.Prelude.{ℕ, List, [] as nil, ◌∷◌ as cons}
use Prim.Native.Char.{code}
use Prim.Native.String.{String, [], ◌∷◌}

-- For texts in ASCII, where the code of a character is its byte.
unfoldable pub bytes : String → List ℕ
bytes [] = nil
bytes (c ∷ s) = cons (code c) (bytes s)
