-- A few samples by computation: a rule of specs/ that is changed gives another record here. The marked samples of paper
-- 01, as printed, are in the crate demands_samples.
-- Assumes nothing.
use Prim.Native.Nat.{ℕ}
use mathlib.Core.Path.{◌≡◌, refl}
use mathlib.Core.List.{List, [], ◌∷◌}
use Rattle.model.specs.declared.Chain.{Chain}
use Rattle.model.specs.Record.{empty_chain}
use Rattle.model.specs.Build.{entries_with, with_factor}
use Rattle.follow.specs.Follow.{follow_of, some_word, begins_with, ends_with, has_pair, is_empty}
use Rattle.chain_levels.specs.Below.{any_below, count_below, first_below, largest_below}
use Rattle.chain_levels.specs.Reach.{edge, reach_by, reaches, same_group, loops, leads, occurs, is_single}
use Rattle.chain_levels.specs.Rank.{is_before, level_by, level_of, last_level, skipped}
use Rattle.chain_levels.specs.Chain.{single_at, leads_at, factors, factors_at, fixed, singles_mode, group_mode, with_any, with_each, with_both, with_level, chain_to, chain_of}

-- The chain of words over the names 0, 1 and 2, as a record of three places.
abbrev chain : List (List ℕ) → Chain
chain words = chain_of 3 (follow_of 3 words)

abbrev model : ℕ → List ℕ → List ℕ → Chain
model count factor mode = record { count = count; factor = factor; mode = mode }

-- With a, b and k for 0, 1 and 2: the samples kkb, a; kkb, aa; abak; and ab, k. Their models are (a?,k*,b?); (a*,k*,b?);
-- ((a|b)+,k); and ((a|k),b?).
pub samples :
    (chain ((2 ∷ 2 ∷ 1 ∷ []) ∷ (0 ∷ []) ∷ []) ≡ model 3 (0 ∷ 2 ∷ 1 ∷ []) (1 ∷ 3 ∷ 1 ∷ []))
    × (chain ((2 ∷ 2 ∷ 1 ∷ []) ∷ (0 ∷ 0 ∷ []) ∷ []) ≡ model 3 (0 ∷ 2 ∷ 1 ∷ []) (3 ∷ 3 ∷ 1 ∷ []))
    × (chain ((0 ∷ 1 ∷ 0 ∷ 2 ∷ []) ∷ []) ≡ model 2 (0 ∷ 0 ∷ 1 ∷ []) (2 ∷ 0 ∷ 0 ∷ []))
    × (chain ((0 ∷ 1 ∷ []) ∷ (2 ∷ []) ∷ []) ≡ model 2 (0 ∷ 1 ∷ 0 ∷ []) (0 ∷ 1 ∷ 0 ∷ []))
unfolding
    some_word begins_with ends_with has_pair is_empty
    any_below count_below first_below largest_below edge reach_by reaches same_group loops leads occurs is_single
    is_before level_by level_of last_level skipped
    empty_chain entries_with with_factor single_at leads_at factors factors_at fixed singles_mode group_mode
    with_any with_each with_both with_level chain_to chain_of
samples = (refl, refl, refl, refl)
