-- A means: the model of a sample, as built. `model_is_built` in crates/demands/proofs/Demands.antt says that it is the
-- record which the call answers. `is_placed` and `only_placed` in crates/chain_minimal/proofs/Demand.antt join its chain
-- to `Placed`, and `text_model` in crates/chain_mixed/proofs/Theorem.antt joins it to `IsTextModel`.
-- Assumes nothing.
use Rattle.std.specs.Prelude.{ℕ, Bool, ◌||◌, List}
use Rattle.model.specs.declared.Chain.{Chain}
use Rattle.model.specs.declared.Model.{Model}
use Rattle.follow.specs.Follow.{Follow, follow_of}
use Rattle.chain_levels.specs.Below.{any_below}
use Rattle.chain_levels.specs.Chain.{chain_of}
use Rattle.chain_mixed.specs.Mixed.{model_of}

-- The chain that paper 01 gives to words over n names, as a record of `size` places (64 in paper 01: `places`).
unfoldable pub chain_of_words : ℕ → ℕ → List (List ℕ) → Chain
chain_of_words size n words = chain_of size (follow_of n words)

-- The model of words over n names, for a parent that has text or has none.
unfoldable pub model_of_words : ℕ → ℕ → List (List ℕ) → Bool → Model
model_of_words size n words text = model_of size (follow_of n words) text

-- The facts show a word: there is an empty one, or a name below `size` starts one. For the facts of words this is so
-- exactly where there is a word: `words_show` in proofs/Shown.antt.
unfoldable pub show_word : ℕ → Follow → Bool
show_word size f = f.empty || any_below size f.starts
