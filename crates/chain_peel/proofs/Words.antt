-- The follow facts of words over n names have what the chain's code asks of facts.
-- Assumes nothing.
use Prim.Native.Nat.{ℕ}
use mathlib.Core.Path.{◌≡◌}
use mathlib.Core.Bool.{true}
use mathlib.Core.List.{List, Memᴰ}
use mathlib.Core.Logic.{◌⊎◌, inl, inr}
use Rattle.model.specs.Accept.{Names}
use Rattle.model_language.specs.Word.{start, name, end}
use Rattle.model_language.specs.Reach.{one}
use Rattle.follow.specs.Follow.{Follow, follow_of}
use Rattle.follow.specs.Sample.{Over}
use Rattle.follow.proofs.Laws.{over_in}
use Rattle.chain_levels.specs.Reach.{reaches}
use Rattle.chain_levels.proofs.Facts.{starts_step, ends_step, follows_step}
use Rattle.chain_levels.proofs.Reach.{reaches_is, reaches_trans}
use Rattle.chain_levels.proofs.Paths.{Way, by, occurs_is, entered_occurs, way_to_end}
use Rattle.chain_peel.specs.Shown.{Shown}

module _ (f : Follow) where
  -- a may end, or reaches a name that may
  abbrev Onward : ℕ → Type 0
  Onward a = (f.ends a ≡ true) ⊎ ((b : ℕ) × (reaches f a b ≡ true) × (f.ends b ≡ true))

  further : (a b : ℕ) → reaches f a b ≡ true → Onward b → Onward a
  further a b e (inl q) = inr (b, e, q)
  further a b e (inr (c, r, q)) = inr (c, reaches_trans f a b c e r, q)

  way_onward : (a : ℕ) → Way f (name a) end → Onward a
  way_onward a (by {v = start} g r) = absurd g
  way_onward a (by {v = name b} g r) = further a b ((reaches_is f a b).1 (one g)) (way_onward b r)
  way_onward a (by {v = end} g r) = inl g.1

module _ (n : ℕ) (words : List (List ℕ)) (all : Over n words) where
  names : (w : List ℕ) → Memᴰ w words → Names n w
  names = over_in n words all

  pub shown_words : Shown (follow_of n words)
  shown_words =
      record {
        starts = λ a e. (starts_step n words names a e).0;
        follows = λ a b e. (follows_step n words names a b e).1;
        followed = λ a b e. (occurs_is (follow_of n words) a).1 (entered_occurs n words names a (name b) (follows_step n words names a b e));
        ended = λ a e. (occurs_is (follow_of n words) a).1 (entered_occurs n words names a end (ends_step n words names a e));
        onward = λ a e. way_onward (follow_of n words) a (way_to_end n words names a ((occurs_is (follow_of n words) a).0 e));
      }
