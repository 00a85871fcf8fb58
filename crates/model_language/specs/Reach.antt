-- To be believed: paper 01, "a reaches b if one or more follow steps lead from a to b", for steps S of any kind.
-- Assumes nothing.
use Rattle.std.specs.Prelude.{ℕ}
use Rattle.model_language.specs.Word.{Point, name}

-- One or more steps lead from the name x to the name y.
pub data Reach (S : Point → Point → Type 0) : ℕ → ℕ → Type 0 where
  one : {x y : ℕ} → S (name x) (name y) → Reach S x y
  more : {x y z : ℕ} → S (name x) (name y) → Reach S y z → Reach S x z
