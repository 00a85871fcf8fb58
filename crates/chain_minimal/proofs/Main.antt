-- The chain of a list of words: it is a chain, stands as the levels say, is tight, and every other chain for the words
-- accepts a word that it does not accept.
-- Assumes nothing.
use Prim.Native.Nat.{ℕ, ◌+◌, ◌≤◌}
use mathlib.Core.Path.{◌≡◌}
use mathlib.Core.List.{List, [], Memᴰ}
use mathlib.Core.Logic.{◌⊎◌, inl, inr, ⊎_elim}
use lib.ListN.{length}
use Rattle.model.specs.declared.Chain.{Chain}
use Rattle.model.specs.Record.{no_factor, IsChain}
use Rattle.model.specs.Accept.{Accepts, Names}
use Rattle.model_language.specs.Word.{Fact, AcceptsAll}
use Rattle.model_language.proofs.Theorem.{accepts_facts, words_steps, words_decided}
use Rattle.follow.specs.Follow.{follow_of, steps}
use Rattle.chain_levels.specs.Chain.{chain_of}
use Rattle.chain_levels.proofs.Facts.{steps_facts}
use Rattle.chain_levels.proofs.Paths.{sampled}
use Rattle.chain_minimal.specs.Tight.{Tight}
use Rattle.chain_minimal.specs.Arranged.{Arranged}
use Rattle.chain_minimal.specs.Placed.{Placed}
use Rattle.chain_minimal.proofs.Unique.{same_record}
use Rattle.chain_minimal.proofs.Exact.{arranged_same}
use Rattle.chain_minimal.proofs.Specified.{placed_law}
use Rattle.chain_minimal.proofs.Built as Built
use Rattle.chain_minimal.proofs.FromLevels as FromLevels

module _ (size n : ℕ) (room : n ≤ size) (small : size ≤ no_factor) (words : List (List ℕ)) (names : (w : List ℕ) → Memᴰ w words → Names n w) (some : ¬ (words ≡ [])) where
  abbrev ours : Chain
  ours = chain_of size (follow_of n words)

  pub is_chain_lem : IsChain size n ours
  is_chain_lem = Built.is_chain_lem (follow_of n words) size room (sampled n words names some)

  -- The record is the chain that the levels give, and the only one: by executable levels,
  pub is_arranged : Arranged (follow_of n words) ours
  is_arranged = Built.is_arranged (follow_of n words) size room (sampled n words names some) small

  pub only_arranged : (m : Chain) → IsChain size n m → Arranged (follow_of n words) m → m ≡ ours
  only_arranged m c p = arranged_same (follow_of n words) size n m ours c is_chain_lem p is_arranged

  -- and as specified over the steps that the words show.
  pub is_placed : Placed (Fact words) ours
  is_placed = (placed_law n words names some ours).1 is_arranged

  pub only_placed : (m : Chain) → IsChain size n m → Placed (Fact words) m → m ≡ ours
  only_placed m c p = only_arranged m c ((placed_law n words names some m).0 p)

  -- It is tight.
  pub is_tight : Tight (steps (follow_of n words)) ours
  is_tight = FromLevels.tight (follow_of n words) (sampled n words names some) size n ours is_chain_lem is_arranged

  pub accepts_words : AcceptsAll ours words
  accepts_words = (accepts_facts size n ours is_chain_lem words).1 (λ u v g. is_tight.sound u v ((steps_facts n words names u v).1 g))

  -- No other chain for the words has only words of ours.
  pub only_ours : (m : Chain) → IsChain size n m → AcceptsAll m words → ((w : List ℕ) → Accepts m w → Accepts ours w) → m ≡ ours
  only_ours m c a h =
      same_record size n (steps (follow_of n words)) ours m is_chain_lem c is_tight
      (λ u v g. (accepts_facts size n m c words).0 a u v ((steps_facts n words names u v).0 g))
      ((words_steps size n m ours c is_chain_lem).0 h)

  pub same_or_more : (m : Chain) → IsChain size n m → AcceptsAll m words →
      (m ≡ ours) ⊎ ((w : List ℕ) × Accepts m w × (¬ Accepts ours w) × (length w ≤ m.count + 1) × Names n w)
  same_or_more m c a = ⊎_elim (λ h. inl (only_ours m c a h)) inr (words_decided size n m ours c is_chain_lem small)
