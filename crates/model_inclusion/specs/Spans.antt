-- A means: where the names of a factor of one record are in another; `passed_optional`, `passed_required` and
-- `passed_all` in crates/model_inclusion/proofs/Pass.antt say what follows for the steps of the two.
-- Assumes nothing.
use Rattle.std.specs.Prelude.{ℕ, ◌≤◌, ◌≡◌}
use Rattle.model.specs.declared.Chain.{Chain}
use Rattle.model.specs.Record.{factor_of}

-- lo and hi are names of factor i of m. No name of that factor is in an earlier factor of k than lo, and none in a
-- later one than hi. A name that no factor of k holds counts as later than all others.
pub record Spans (m k : Chain) (i lo hi : ℕ) : Type 0 where
  pub lo_in : factor_of m lo ≡ i
  pub hi_in : factor_of m hi ≡ i
  pub least : (y : ℕ) → factor_of m y ≡ i → factor_of k lo ≤ factor_of k y
  pub most : (y : ℕ) → factor_of m y ≡ i → factor_of k y ≤ factor_of k hi
