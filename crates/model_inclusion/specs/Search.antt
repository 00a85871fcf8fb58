-- A means: whether a model is within another, by a search through all words that are short enough; `within_law` in
-- crates/model_inclusion/proofs/Search.antt joins it to `Within`. The code does not search.
-- Assumes nothing.
use Rattle.std.specs.Prelude.{ℕ, zero, suc, ◌+◌, Bool, not, ◌||◌, List, [], ◌∷◌}
use Rattle.model.specs.declared.Chain.{Chain}
use Rattle.nameset.specs.Tests.{every_below}
use Rattle.model.specs.Run.{accepts}

-- Whether every word of l names, each below n, passes the test.
unfoldable pub every_word : ℕ → ℕ → (List ℕ → Bool) → Bool
every_word n zero test = test []
every_word n (suc l) test = every_below n (λ x. every_word n l (λ w. test (x ∷ w)))

-- Whether k accepts the word, if m does.
unfoldable pub accepted_too : Chain → Chain → List ℕ → Bool
accepted_too m k w = not (accepts m w) || accepts k w

-- Whether k accepts every word over the n names, of length at most F + 1, that m accepts. If both are chains over these
-- names, that is every word of m.
unfoldable pub within : ℕ → Chain → Chain → Bool
within n m k = every_below (m.count + 2) (λ l. every_word n l (accepted_too m k))
