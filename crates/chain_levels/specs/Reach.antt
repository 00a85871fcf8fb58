-- A means: `reach_law`, `group_law`, `occurs_law` in crates/chain_levels/proofs/Theorem.antt join it to Level.antt.
-- Assumes nothing.
-- Executable reach and loop groups, and which names occur.
use Rattle.std.specs.Prelude.{ℕ, zero, suc, Bool, ◌&&◌, ◌||◌, not, ltb, eqb}
use Rattle.follow.specs.Follow.{Follow}
use Rattle.chain_levels.specs.Below.{any_below, first_below}

-- One follow step between names.
unfoldable pub edge : Follow → ℕ → ℕ → Bool
edge f a b = ltb a f.names && (ltb b f.names && f.follows a b)

-- One or more steps lead from a to b, and only names below k stand between them.
unfoldable pub reach_by : Follow → ℕ → ℕ → ℕ → Bool
reach_by f zero a b = edge f a b
reach_by f (suc k) a b = reach_by f k a b || (reach_by f k a k && reach_by f k k b)

-- a reaches b: one or more follow steps lead from a to b.
unfoldable pub reaches : Follow → ℕ → ℕ → Bool
reaches f a b = reach_by f f.names a b

-- a and b are in one loop group: each reaches each.
unfoldable pub same_group : Follow → ℕ → ℕ → Bool
same_group f a b = reaches f a b && reaches f b a

-- a is in a loop group: it reaches itself.
unfoldable pub loops : Follow → ℕ → Bool
loops f a = reaches f a a

-- a is the smallest number of its loop group.
unfoldable pub leads : Follow → ℕ → Bool
leads f a = loops f a && eqb (first_below f.names (same_group f a)) a

-- a occurs in a word: it begins one, or follows a name.
unfoldable pub occurs : Follow → ℕ → Bool
occurs f a = ltb a f.names && (f.starts a || any_below f.names (λ b. f.follows b a))

-- a is a single: it occurs and does not reach itself.
unfoldable pub is_single : Follow → ℕ → Bool
is_single f a = occurs f a && not (loops f a)
