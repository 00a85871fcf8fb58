-- To be believed: request U4 of paper 02, when a model is within another, and which words show that it is not.
-- Assumes nothing.
use Rattle.std.specs.Prelude.{ℕ, ◌+◌, List}
use Rattle.nameset.specs.Places.{places}
use Rattle.model.specs.declared.Chain.{Chain}
use Rattle.model.specs.Accept.{Accepts}

-- "every word that the first accepts is accepted by the second": words of any length.
abbrev pub Within : Chain → Chain → Type 0
Within m k = (w : List ℕ) → Accepts m w → Accepts k w

-- A "word .. that the first accepts and the second doesn't".
pub record Counterexample (m k : Chain) (w : List ℕ) : Type 0 where
  pub accepted : Accepts m w
  pub not_accepted : Accepts k w → ⊥

-- "at most 65 names": over at most 64 names some counterexample has no more than this, and the buffer that it is put
-- into has to have so many places.
abbrev pub longest_counterexample : ℕ
longest_counterexample = places + 1
