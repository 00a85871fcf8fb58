-- Demand 3: no better model. The statements to read; their proofs are cited.
-- Assumes nothing.
use Prim.Native.Nat.{ℕ, ◌+◌, ◌≤◌}
use mathlib.Core.Path.{◌≡◌}
use mathlib.Core.List.{List, [], Memᴰ}
use mathlib.Core.Logic.{◌⊎◌, ⊎_elim}
use lib.ListN.{length}
use Rattle.model.specs.declared.Chain.{Chain}
use Rattle.model.specs.Record.{no_factor, IsChain}
use Rattle.model.specs.Accept.{Accepts, Names}
use Rattle.model_language.specs.Word.{Fact, AcceptsAll}
use Rattle.follow.specs.Follow.{follow_of}
use Rattle.chain_levels.specs.Chain.{chain_of}
use Rattle.chain_minimal.specs.Placed.{Placed}
use Rattle.chain_minimal.proofs.Main as Main

-- For every non-empty list of words over n names, in whatever order and however often.
-- Records have `size` places (64 in paper 01): at least n, and at most 255, the number that means none.
module _ (size n : ℕ) (room : n ≤ size) (small : size ≤ no_factor)
    (words : List (List ℕ)) (names : (w : List ℕ) → Memᴰ w words → Names n w) (some : ¬ (words ≡ [])) where
  -- Our model: the chain that is built level by level from the words' follow facts.
  abbrev ours : Chain
  ours = chain_of size (follow_of n words)

  -- It is a chain over the n names.
  pub is_chain_lem : IsChain size n ours
  is_chain_lem = Main.is_chain_lem size n room small words names some

  -- It is the chain that the levels give (specs/Placed.antt), over the steps that the words show, and the only one.
  pub is_placed : Placed (Fact words) ours
  is_placed = Main.is_placed size n room small words names some

  pub only_placed : (m : Chain) → IsChain size n m → Placed (Fact words) m → m ≡ ours
  only_placed = Main.only_placed size n room small words names some

  -- It accepts every one of the words.
  pub accepts_words : AcceptsAll ours words
  accepts_words = Main.accepts_words size n room small words names some

  -- Every chain over the n names that accepts every one of the words is ours, or accepts a word, handed over here, that
  -- ours does not accept: a word over n names, of at most one name more than that chain has factors.
  pub same_or_more : (m : Chain) → IsChain size n m → AcceptsAll m words →
      (m ≡ ours) ⊎ ((w : List ℕ) × Accepts m w × (¬ Accepts ours w) × (length w ≤ m.count + 1) × Names n w)
  same_or_more = Main.same_or_more size n room small words names some

  -- So every other one accepts such a word.
  pub other_accepts_more : (m : Chain) → IsChain size n m → AcceptsAll m words → ¬ (m ≡ ours) →
      (w : List ℕ) × Accepts m w × (¬ Accepts ours w) × (length w ≤ m.count + 1) × Names n w
  other_accepts_more m c a d = ⊎_elim (λ e. absurd (d e)) (λ w. w) (same_or_more m c a)
