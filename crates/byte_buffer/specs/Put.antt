-- A means: bytes put into a buffer; `wrote_start` and `wrote_none` in proofs/Puts.antt say what the buffer then holds.
-- Assumes nothing.
use Rattle.std.specs.Prelude.{ℕ, ◌+◌, ◌≡◌, cond, List, [], ◌∷◌, eqb, length}
use Rattle.std.proofs.lemmas.List.Edits.{sets}

-- The buffer with the bytes put in from a place on; what lies before and behind them is kept.
unfoldable pub wrote : List ℕ → ℕ → List ℕ → List ℕ
wrote buffer at bytes = sets buffer at bytes

-- The text was put into the buffer d at a place: the buffer is e then, and `to` is the place behind the text.
pub record Put (d : List ℕ) (at : ℕ) (text : List ℕ) (to : ℕ) (e : List ℕ) : Type 0 where
  pub place : to ≡ at + length text
  pub holds : e ≡ wrote d at text
  pub same : length e ≡ length d

-- A byte, or nothing for 0.
unfoldable pub shown : ℕ → List ℕ
shown byte = cond (eqb byte 0) [] (byte ∷ [])
