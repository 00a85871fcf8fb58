-- To be believed: the model of a parent with text (paper 02, U5), as `IsTextModel` states it. How it is built is a
-- means: `text_model` in proofs/Theorem.antt joins `mixed_chain` to `IsTextModel`.
-- Assumes nothing.
use Rattle.std.specs.Prelude.{ℕ, ◌≡◌, Bool, true, false, ◌↔◌}
use mathlib.Core.List.{List, Memᴰ}
use Rattle.model.specs.declared.Chain.{Chain}
use Rattle.model.specs.declared.Model.{Model}
use Rattle.model.specs.Record.{factor_of, model_with, IsModel, empty_chain}
use Rattle.follow.specs.Follow.{Follow}
use Rattle.chain_levels.specs.Reach.{occurs}
use Rattle.chain_levels.specs.Chain.{with_any, chain_of}

-- The name x stands in one of the words.
abbrev pub StandsIn : ℕ → List (List ℕ) → Type 0
StandsIn x words = (w : List ℕ) × Memᴰ w words × Memᴰ x w

-- m is the model of a parent with text whose words are these. "Text and no children anywhere: `(#PCDATA)`. Text and
-- children: `(#PCDATA|a|b)*`, with exactly the names that stand in its words". A model with text has no factor, or one
-- with a star (`IsModel`), so there is no other such record: `only_text_model` in proofs/Theorem.antt.
pub record IsTextModel (size n : ℕ) (words : List (List ℕ)) (m : Model) : Type 0 where
  pub model : IsModel size n m
  pub text : m.text ≡ 1
  -- factor 0 holds the names that stand in the words, and no others
  pub names : (x : ℕ) → (factor_of m.chain x ≡ 0) ↔ StandsIn x words

-- The chain of a parent with text, built: one starred factor of the names that occur, if any does.
unfoldable pub mixed_chain : ℕ → Follow → Chain
mixed_chain size f = with_any size (occurs f) 3 (empty_chain size)

-- The model that follow facts give, for a parent that has text or has none.
unfoldable pub model_of : ℕ → Follow → Bool → Model
model_of size f true = model_with (mixed_chain size f) 1
model_of size f false = model_with (chain_of size f) 0
