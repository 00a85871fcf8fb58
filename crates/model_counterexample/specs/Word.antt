-- A means: a word that has a given step, as it is put into a buffer; `word_shown` in
-- crates/model_counterexample/proofs/Words.antt says that the code puts one.
-- Assumes nothing.
use Rattle.std.specs.Prelude.{ℕ, ◌+◌, ◌≤◌, ◌<◌, ◌≡◌, List, length, get_or}
use Rattle.nameset.specs.Places.{places}
use Rattle.model.specs.declared.Chain.{Chain}
use Rattle.model.specs.Record.{factor_of, IsChain}
use Rattle.model.specs.Accept.{Accepts}
use Rattle.model_language.specs.Word.{Point, Shows}
use Rattle.model_language.specs.Step.{Step}
use Rattle.byte_buffer.specs.Put.{Put}

-- The name that a row has for factor i.
unfoldable pub name_in : List ℕ → ℕ → ℕ
name_in row i = get_or row i 0

-- A chain over some names, a row that has a name of each of its factors, and a step of it.
pub record Stepping (m : Chain) (row : List ℕ) (u v : Point) : Type 0 where
  pub names : ℕ
  pub chain : IsChain places names m
  pub named : (i : ℕ) → i < m.count → factor_of m (name_in row i) ≡ i
  pub step : Step m u v

-- A word of m that has the step from u to v was put at the front of the buffer, and `to` is its length.
pub record Shown (m : Chain) (u v : Point) (buffer : List ℕ) (to : ℕ) (exit : List ℕ) : Type 0 where
  pub word : List ℕ
  pub accepted : Accepts m word
  pub shows : Shows word u v
  pub short : length word ≤ m.count + 1
  pub put : Put buffer 0 word to exit
