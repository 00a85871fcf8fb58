-- Executable follow facts, reach, loop groups and levels are the specified ones. The statements to read first.
-- Assumes nothing.
use Prim.Native.Nat.{ℕ, ◌<◌}
use mathlib.Core.Path.{◌≡◌, subst}
use mathlib.Core.Bool.{true}
use mathlib.Core.List.{List, [], Memᴰ}
use mathlib.Core.Logic.{◌↔◌}
use native.Mathlib.Omega.{arith}
use Rattle.model.specs.Accept.{Names}
use Rattle.model_language.specs.Word.{Point, start, name, end, Fact}
use Rattle.model_language.specs.Reach.{Reach}
use Rattle.follow.specs.Follow.{Follow, follow_of, steps}
use Rattle.chain_levels.specs.Reach.{reaches, same_group, occurs}
use Rattle.chain_levels.specs.Level.{Occurs, OneGroup, IsLevel, Skipped}
use Rattle.chain_levels.specs.Rank.{level_of, last_level, skipped}
use Rattle.chain_levels.proofs.Facts.{occurs_in, steps_facts}
use Rattle.chain_levels.proofs.Reach.{reaches_is, group_reach}
use Rattle.chain_levels.proofs.Carry.{one_level, carry_reach, carry_occurs, carry_group, carry_level, carry_skipped}
use Rattle.chain_levels.proofs.Paths.{occurs_is, sampled}
use Rattle.chain_levels.proofs.Longest.{start_level, name_level, end_level, over_skipped, filled}
use Rattle.chain_levels.proofs.Skipped.{skipped_is}

-- ---- names that occur

-- A step of the words leads to a name exactly when the name is in one of them.
pub occurs_word : (words : List (List ℕ)) (x : ℕ) → Occurs (Fact words) x ↔ ((w : List ℕ) × Memᴰ w words × Memᴰ x w)
occurs_word = occurs_in

-- ---- words over n names

module _ (n : ℕ) (words : List (List ℕ)) (names : (w : List ℕ) → Memᴰ w words → Names n w) where
  abbrev f : Follow
  f = follow_of n words

  -- The executable follow facts are the steps that some word shows, and no others.
  pub follow_law : (u v : Point) → steps f u v ↔ Fact words u v
  follow_law = steps_facts n words names

  back : (u v : Point) → Fact words u v ↔ steps f u v
  back u v = ((follow_law u v).1, (follow_law u v).0)

  -- a reaches b: one or more follow steps lead from a to b.
  pub reach_law : (a b : ℕ) → (reaches f a b ≡ true) ↔ Reach (Fact words) a b
  reach_law a b = (λ e. carry_reach follow_law ((reaches_is f a b).0 e), λ r. (reaches_is f a b).1 (carry_reach back r))

  -- Two names are of one loop group if each reaches each.
  pub group_law : (a b : ℕ) → (same_group f a b ≡ true) ↔ OneGroup (Fact words) (name a) (name b)
  group_law a b =
      (λ e. carry_group follow_law (name a) (name b) ((group_reach f a b).0 e), λ g. (group_reach f a b).1 (carry_group back (name a) (name b) g))

  -- A name occurs if a step leads to it, so exactly when it is in a word.
  pub occurs_step : (x : ℕ) → (occurs f x ≡ true) ↔ Occurs (Fact words) x
  occurs_step x = (λ e. carry_occurs follow_law x ((occurs_is f x).0 e), λ o. (occurs_is f x).1 (carry_occurs back x o))

  pub occurs_law : (x : ℕ) → (occurs f x ≡ true) ↔ ((w : List ℕ) × Memᴰ w words × Memᴰ x w)
  occurs_law x = (λ e. (occurs_word words x).0 ((occurs_step x).0 e), λ i. (occurs_step x).1 ((occurs_word words x).1 i))

  -- There is a word.
  module _ (some : ¬ (words ≡ [])) where
    -- Executable levels are the largest numbers of steps from start: of the start, of a name that occurs, of the end.
    pub first_law : IsLevel (Fact words) start 0
    first_law = carry_level follow_law start 0 (start_level f)

    pub level_law : (x : ℕ) → occurs f x ≡ true → IsLevel (Fact words) (name x) (level_of f x)
    level_law x o = carry_level follow_law (name x) (level_of f x) (name_level f (sampled n words names some) x ((occurs_is f x).0 o))

    pub last_law : IsLevel (Fact words) end (last_level f)
    last_law = carry_level follow_law end (last_level f) (end_level f (sampled n words names some))

    -- "Every level from 1 to L - 1 has a point."
    pub filled_law : (l last : ℕ) → IsLevel (Fact words) end last → 0 < l → l < last → (x : ℕ) × IsLevel (Fact words) (name x) l
    filled_law l last e a b =
        let q = filled f (sampled n words names some) l a (omega (arith, one_level end last (last_level f) e last_law)) in
        (q.0, subst (IsLevel (Fact words) (name q.0)) q.2 (level_law q.0 ((occurs_is f q.0).1 q.1)))

    -- "A level is skipped if some step, those from start and to the end included, goes from a lower to a higher level."
    pub skipped_law : (l : ℕ) → (skipped f l ≡ true) ↔ Skipped (Fact words) l
    skipped_law l =
        let q = over_skipped f (sampled n words names some) l in
        (λ e. carry_skipped follow_law l (q.0 ((skipped_is f l).0 e)), λ p. (skipped_is f l).1 (q.1 (carry_skipped back l p)))
