-- A means: `peel`, `skipped_over` in crates/chain_peel/proofs/{Peel,Skips}.antt join it to chain_levels/specs/Rank.antt.
-- Assumes nothing.
-- The names of the levels below a level, of a level, and of those above it.
use Rattle.std.specs.Prelude.{ℕ, Bool, ◌&&◌, ◌||◌, eqb, ltb}
use Rattle.follow.specs.Follow.{Follow}
use Rattle.chain_levels.specs.Below.{any_below}
use Rattle.chain_levels.specs.Reach.{occurs}
use Rattle.chain_levels.specs.Rank.{level_of}

-- x occurs, on a level below l.
unfoldable pub is_lower : Follow → ℕ → ℕ → Bool
is_lower f l x = occurs f x && ltb (level_of f x) l

-- x occurs, on level l.
unfoldable pub is_at : Follow → ℕ → ℕ → Bool
is_at f l x = occurs f x && eqb (level_of f x) l

-- x occurs, on a level above l.
unfoldable pub is_higher : Follow → ℕ → ℕ → Bool
is_higher f l x = occurs f x && ltb l (level_of f x)

-- A number below `size` is in both sets.
unfoldable pub meets : ℕ → (ℕ → Bool) → (ℕ → Bool) → Bool
meets size a b = any_below size (λ x. a x && b x)

-- y is in a row of a name of the set.
unfoldable pub in_rows : ℕ → (ℕ → ℕ → Bool) → (ℕ → Bool) → ℕ → Bool
in_rows size rows set y = any_below size (λ x. set x && rows x y)

-- Some step goes from the lower names, or from start, to the higher names, or to the end.
unfoldable pub steps_over : ℕ → Bool → (ℕ → Bool) → (ℕ → Bool) → (ℕ → ℕ → Bool) → (ℕ → Bool) → (ℕ → Bool) → Bool
steps_over size empty starts ends follows lower higher =
    empty || (meets size ends lower || meets size (λ y. starts y || in_rows size follows lower y) higher)
