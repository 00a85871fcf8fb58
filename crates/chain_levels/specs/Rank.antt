-- A means: `level_law`, `last_law`, `skipped_law` in crates/chain_levels/proofs/Theorem.antt join it to Level.antt.
-- Assumes nothing.
-- Executable levels.
use Rattle.std.specs.Prelude.{ℕ, zero, suc, Bool, ◌&&◌, ◌||◌, not, ltb}
use Rattle.follow.specs.Follow.{Follow}
use Rattle.chain_levels.specs.Below.{any_below, largest_below}
use Rattle.chain_levels.specs.Reach.{reaches}

-- b reaches a, and a does not reach b: b stands before a, in another point.
unfoldable pub is_before : Follow → ℕ → ℕ → Bool
is_before f b a = reaches f b a && not (reaches f a b)

-- One more than the largest level before a, looking k points back.
unfoldable pub level_by : Follow → ℕ → ℕ → ℕ
level_by f zero a = 0
level_by f (suc k) a = suc (largest_below f.names (λ b. is_before f b a) (λ b. level_by f k b))

-- The level of a name: no more than n points stand before it.
unfoldable pub level_of : Follow → ℕ → ℕ
level_of f a = level_by f f.names a

-- L, the level of the end: one more than the largest level of a name that may end.
unfoldable pub last_level : Follow → ℕ
last_level f = suc (largest_below f.names f.ends (level_of f))

-- The level l is skipped: some step, those from start and to the end included, goes from a lower to a higher level.
unfoldable pub skipped : Follow → ℕ → Bool
skipped f l =
    (f.empty && (ltb 0 l && ltb l (last_level f)))
    || (any_below f.names (λ y. f.starts y && (ltb 0 l && ltb l (level_of f y)))
    || (any_below f.names (λ x. f.ends x && (ltb (level_of f x) l && ltb l (last_level f)))
    || any_below f.names (λ x. any_below f.names (λ y. f.follows x y && (ltb (level_of f x) l && ltb l (level_of f y))))))
