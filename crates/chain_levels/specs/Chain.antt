-- A means: `is_placed` and `only_placed` in crates/chain_minimal/proofs/Demand.antt join it to `Placed`.
-- Assumes nothing.
-- Paper 01, "The chain", built: from follow facts to a model record of `size` places (64 in paper 01).
use Rattle.std.specs.Prelude.{ℕ, zero, suc, ◌+◌, ◌-◌, Bool, cond, ◌&&◌, not, eqb}
use Rattle.model.specs.declared.Chain.{Chain}
use Rattle.model.specs.Record.{empty_chain}
use Rattle.model.specs.Build.{with_factor}
use Rattle.follow.specs.Follow.{Follow}
use Rattle.chain_levels.specs.Below.{any_below, count_below}
use Rattle.chain_levels.specs.Reach.{same_group, leads, is_single}
use Rattle.chain_levels.specs.Rank.{level_of, last_level, skipped}

-- x is a single of level l.
unfoldable pub single_at : Follow → ℕ → ℕ → Bool
single_at f l x = is_single f x && eqb (level_of f x) l

-- x is the smallest number of a loop group of level l.
unfoldable pub leads_at : Follow → ℕ → ℕ → Bool
leads_at f l x = leads f x && eqb (level_of f x) l

-- How many factors a level with these singles and these smallest numbers of loop groups has, all below n: one for its
-- singles, if any, and one for each loop group.
unfoldable pub factors : ℕ → (ℕ → Bool) → (ℕ → Bool) → ℕ
factors n singles leaders = cond (any_below n singles) 1 0 + count_below n leaders

unfoldable pub factors_at : Follow → ℕ → ℕ
factors_at f l = factors f.names (single_at f l) (leads_at f l)

-- "the level is not skipped and has just one factor"
unfoldable pub fixed : Follow → ℕ → Bool
fixed f l = not (skipped f l) && eqb (factors_at f l) 1

-- "singles get mode 0 and a loop group mode 2. Otherwise singles get mode 1 and loop groups mode 3."
unfoldable pub singles_mode : Bool → ℕ
singles_mode fixed = cond fixed 0 1

unfoldable pub group_mode : Bool → ℕ
group_mode fixed = cond fixed 2 3

-- "At each level the singles, if any, form one factor": the record m with the names of the set below n.
unfoldable pub with_any : ℕ → (ℕ → Bool) → ℕ → Chain → Chain
with_any n names mode m = cond (any_below n names) (with_factor m names mode) m

-- "Then each loop group is a factor of its own, in order of its smallest number": those with a smallest number below k.
unfoldable pub with_each : (ℕ → Bool) → (ℕ → ℕ → Bool) → ℕ → ℕ → Chain → Chain
with_each leaders group mode zero m = m
with_each leaders group mode (suc k) m =
    cond (leaders k) (with_factor (with_each leaders group mode k m) (group k) mode) (with_each leaders group mode k m)

-- One level: its singles "stand first".
unfoldable pub with_both : ℕ → Bool → (ℕ → Bool) → (ℕ → Bool) → (ℕ → ℕ → Bool) → Chain → Chain
with_both n fixed singles leaders group m =
    with_each leaders group (group_mode fixed) n (with_any n singles (singles_mode fixed) m)

unfoldable pub with_level : Follow → ℕ → Chain → Chain
with_level f l m = with_both f.names (fixed f l) (single_at f l) (leads_at f l) (same_group f) m

-- Levels 1 to k.
unfoldable pub chain_to : ℕ → Follow → ℕ → Chain
chain_to size f zero = empty_chain size
chain_to size f (suc k) = with_level f (suc k) (chain_to size f k)

-- "Go through levels 1 to L - 1."
unfoldable pub chain_of : ℕ → Follow → Chain
chain_of size f = chain_to size f (last_level f - 1)
