-- A means: `shown_words` in crates/chain_peel/proofs/Words.antt joins it to `follow_of`.
-- Assumes nothing.
-- What follow facts have that words over their names show.
use Rattle.std.specs.Prelude.{ℕ, ◌<◌, ◌≡◌, true, ◌⊎◌}
use Rattle.follow.specs.Follow.{Follow}
use Rattle.chain_levels.specs.Reach.{reaches, occurs}

pub record Shown (f : Follow) : Type 0 where
  -- names that start, or follow another, are below n
  pub starts : (a : ℕ) → f.starts a ≡ true → a < f.names
  pub follows : (a b : ℕ) → f.follows a b ≡ true → b < f.names
  -- a name that another follows occurs, and so does one that may end
  pub followed : (a b : ℕ) → f.follows a b ≡ true → occurs f a ≡ true
  pub ended : (a : ℕ) → f.ends a ≡ true → occurs f a ≡ true
  -- a name that occurs may end, or reaches one that may
  pub onward : (a : ℕ) → occurs f a ≡ true → (f.ends a ≡ true) ⊎ ((b : ℕ) × (reaches f a b ≡ true) × (f.ends b ≡ true))
