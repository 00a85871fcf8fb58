-- The search says yes exactly when every word of one chain is a word of the other.
-- Assumes nothing.
use Prim.Native.Nat.{ℕ, zero, suc, ◌+◌, ◌≤◌, ◌<◌}
use mathlib.Core.Path.{◌≡◌, refl}
use mathlib.Core.Bool.{Bool, true, false, not, ◌||◌, false≢true}
use mathlib.Core.List.{List, [], ◌∷◌}
use mathlib.Core.Logic.{◌⊎◌, inl, inr, ◌↔◌}
use native.Mathlib.Omega.{arith}
use lib.ListN.{length}
use Rattle.model.specs.declared.Chain.{Chain}
use Rattle.model.specs.Record.{no_factor, IsChain}
use Rattle.model.specs.Accept.{Accepts, Names}
use Rattle.model.specs.Run.{accepts}
use Rattle.nameset.proofs.Tests.{all_law}
use Rattle.model.proofs.Acceptance.{accepts_law}
use Rattle.model_language.specs.Word.{Point}
use Rattle.model_language.specs.Step.{Step, Includes}
use Rattle.model_language.proofs.Theorem.{words_steps, words_decided}
use Rattle.model_inclusion.specs.Inclusion.{Within, Counterexample}
use Rattle.model_inclusion.specs.Search.{every_word, accepted_too, within}

every_law : (n l : ℕ) (test : List ℕ → Bool) → (every_word n l test ≡ true) ↔ ((w : List ℕ) → length w ≡ l → Names n w → test w ≡ true)
unfolding every_word
every_law n zero test = (λ e w h k. empty w h e, λ f. f [] refl tt)
  where
    empty : (w : List ℕ) → length w ≡ 0 → test [] ≡ true → test w ≡ true
    empty [] h e = e
    empty (x ∷ w) h e = absurd (omega arith)
every_law n (suc l) test =
    let a = all_law n (λ x. every_word n l (λ w. test (x ∷ w))) in (
      λ e. to (a.0 e) (λ x. (every_law n l (λ w. test (x ∷ w))).0),
      λ f. a.1 (λ x h. (every_law n l (λ w. test (x ∷ w))).1 (λ w g k. f (x ∷ w) (omega arith) (h, k))),
    )
  where
    to : ((x : ℕ) → x < n → every_word n l (λ w. test (x ∷ w)) ≡ true)
        → ((x : ℕ) → every_word n l (λ w. test (x ∷ w)) ≡ true → (w : List ℕ) → length w ≡ l → Names n w → test (x ∷ w) ≡ true)
        → (w : List ℕ) → length w ≡ suc l → Names n w → test w ≡ true
    to f g [] h k = absurd (omega arith)
    to f g (x ∷ w) h (a, b) = g x (f x a) w (omega arith) b

-- ---- one word

implies_law : (a b : Bool) → ((not a || b) ≡ true) ↔ (a ≡ true → b ≡ true)
implies_law true b = (λ e q. e, λ f. f refl)
implies_law false b = (λ e q. absurd (false≢true q), λ f. refl)

accepted_law : (m k : Chain) (w : List ℕ) → (accepted_too m k w ≡ true) ↔ (Accepts m w → Accepts k w)
unfolding accepted_too
accepted_law m k w =
    let a = implies_law (accepts m w) (accepts k w) in
    (λ e p. (accepts_law k w).0 (a.0 e ((accepts_law m w).1 p)), λ f. a.1 (λ e. (accepts_law k w).1 (f ((accepts_law m w).0 e))))

-- ---- all words

-- Every word of at most F + 1 of the n names.
short_law : (n : ℕ) (m k : Chain) → (within n m k ≡ true) ↔ ((w : List ℕ) → length w ≤ m.count + 1 → Names n w → Accepts m w → Accepts k w)
unfolding within
short_law n m k =
    let a = all_law (m.count + 2) (λ l. every_word n l (accepted_too m k)) in (
      λ e w h q. (accepted_law m k w).0 ((every_law n (length w) (accepted_too m k)).0 (a.0 e (length w) (omega arith)) w refl q),
      λ f. a.1 (λ l h. (every_law n l (accepted_too m k)).1 (λ w g q. (accepted_law m k w).1 (f w (omega arith) q))),
    )

-- A model with a counterexample is not within the other.
pub not_within : (m k : Chain) (w : List ℕ) → Counterexample m k w → ¬ Within m k
not_within m k w c f = c.not_accepted (f w c.accepted)

-- Two chains over the same n names.
module _ (size n : ℕ) (m k : Chain) (c : IsChain size n m) (d : IsChain size n k) (small : size ≤ no_factor) where
  -- The search says yes exactly when every word that m accepts, of any length, is accepted by k.
  pub within_law : (within n m k ≡ true) ↔ Within m k
  within_law = (λ e. go ((short_law n m k).0 e) (words_decided size n m k c d small), λ f. (short_law n m k).1 (λ w h q. f w))
    where
      go : ((w : List ℕ) → length w ≤ m.count + 1 → Names n w → Accepts m w → Accepts k w)
          → Within m k ⊎ ((w : List ℕ) × Accepts m w × (¬ Accepts k w) × (length w ≤ m.count + 1) × Names n w) → Within m k
      go f (inl g) = g
      go f (inr (w, a, b, l, q)) = absurd (b (f w l q a))

  -- The steps decide it.
  pub steps_in : Includes m k → within n m k ≡ true
  steps_in f = within_law.1 ((words_steps size n m k c d).1 f)

  pub steps_out : (u v : Point) → Step m u v → (Step k u v → ⊥) → within n m k ≡ false
  steps_out u v s t = go (within n m k) refl
    where
      go : (b : Bool) → within n m k ≡ b → b ≡ false
      go true e = absurd (t ((words_steps size n m k c d).0 (within_law.0 e) u v s))
      go false e = refl
