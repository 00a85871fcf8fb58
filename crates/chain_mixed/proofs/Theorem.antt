-- The model of a parent with text is what paper 02 says, there is no other such record, and which words it accepts.
-- Assumes nothing.
use Prim.Native.Nat.{ℕ, ◌≤◌, ◌<◌}
use mathlib.Core.Path.{◌≡◌, refl, sym, ◌∙◌, ap, ap₂, subst}
use mathlib.Core.List.Memᴰ
use mathlib.Core.List.{List, [], ◌∷◌, ◌++◌, append-nil, Memᴰ}
use mathlib.Core.Logic.{◌↔◌, ◌⊎◌, inl, inr}
use native.Mathlib.Omega.{arith}
use native.Mathlib.Decide.{ℕ_discrete, dec_lt}
use Rattle.model.specs.declared.Chain.{Chain}
use Rattle.model.specs.declared.Model.{Model}
use Rattle.model.specs.Record.{no_factor, factor_of, mode_of, MayHaveText, model_with}
use Rattle.model.specs.Accept.{Many, Part, Joined, none, part, Accepts, Names}
use Rattle.model.proofs.Empty.{empty_words}
use Rattle.model_language.specs.Word.{AcceptsAll}
use Rattle.follow.specs.Follow.{follow_of}
use Rattle.chain_levels.specs.Reach.{occurs}
use Rattle.chain_levels.proofs.Theorem.{occurs_law}
use Rattle.chain_peel.proofs.Reaching.{occurs_small}
use Rattle.chain_minimal.proofs.Order.{equal_records}
use Rattle.chain_mixed.specs.Mixed.{StandsIn, IsTextModel, mixed_chain}
use Rattle.chain_mixed.proofs.Built.{Starred, any_starred}

-- ---- the chain that is built

module _ (size n : ℕ) (few : n ≤ size) (words : List (List ℕ)) (names : (w : List ℕ) → Memᴰ w words → Names n w) where
  starred : Starred size n (occurs (follow_of n words)) (mixed_chain size (follow_of n words))
  unfolding mixed_chain
  starred = any_starred size n few (occurs (follow_of n words)) (occurs_small (follow_of n words))

  pub text_model : IsTextModel size n words (model_with (mixed_chain size (follow_of n words)) 1)
  text_model = record {
    model = record { chain = starred.chain; text = inr (refl, starred.text) };
    text = refl;
    names = λ x. (
      λ e. (occurs_law n words names x).0 ((starred.names x).0 e),
      λ s. (starred.names x).1 ((occurs_law n words names x).1 s),
    );
  }

-- ---- any such record

module _ (size n : ℕ) (words : List (List ℕ)) (m : Model) (is : IsTextModel size n words m) where
  abbrev c : Chain
  c = m.chain

  may : MayHaveText c
  may = go is.model.text
    where
      go : (m.text ≡ 0) ⊎ ((m.text ≡ 1) × MayHaveText c) → MayHaveText c
      go (inl e) = absurd (omega (arith, is.text))
      go (inr (e, h)) = h

  -- without a factor no name stands in the words
  none_stands : c.count ≡ 0 → (x : ℕ) → ¬ StandsIn x words
  none_stands e x s = go (dec_lt x n)
    where
      go : Dec (x < n) → ⊥
      go (yes l) = at (is.model.chain.placed x l)
        where
          at : (factor_of c x ≡ no_factor) ⊎ (factor_of c x < c.count) → ⊥
          at (inl q) = omega (arith, (is.names x).1 s)
          at (inr q) = omega arith
      go (no l) = omega (arith, (is.names x).1 s, is.model.chain.others x (omega arith))

  -- with one factor some name does
  one_stands : c.count ≡ 1 → (x : ℕ) × StandsIn x words
  one_stands e = let r = is.model.chain.named 0 (omega arith) in (r.0, (is.names r.0).0 r.2)

  -- every name of a word stands in the words
  abbrev AllStand : List ℕ → Type 0
  AllStand w = (x : ℕ) → Memᴰ x w → StandsIn x words

  many_stand : (w : List ℕ) → Many c 0 w ↔ AllStand w
  many_stand [] = (λ t x i. absurd (Memᴰ.not-nil i), λ h. tt)
  many_stand (y ∷ w) = (λ (e, t) x i. to e ((many_stand w).0 t) x (Memᴰ.cases_cons i), λ h. ((is.names y).1 (h y (Memᴰ.head refl)), (many_stand w).1 (λ x i. h x (Memᴰ.tail i))))
    where
      to : factor_of c y ≡ 0 → AllStand w → (x : ℕ) → (x ≡ y) ⊎ Memᴰ x w → StandsIn x words
      to e h x (inl q) = (is.names x).0 (ap (factor_of c) q ∙ e)
      to e h x (inr i) = h x i

  -- one starred factor accepts any number of its names
  star_words : c.count ≡ 1 → mode_of c 0 ≡ 3 → (w : List ℕ) → Accepts c w ↔ Many c 0 w
  star_words one star w = (to, from)
    where
      last : (v : List ℕ) → Joined c 1 v → v ≡ []
      last v (none p q) = q
      last v (part u t l p k j) = absurd (omega arith)

      to : Joined c 0 w → Many c 0 w
      to (none p q) = absurd (omega arith)
      to (part u v l p k j) =
          subst (Many c 0) (sym (p ∙ ap (λ (t : List ℕ). u ++ t) (last v j) ∙ append-nil u)) (subst (λ (k : ℕ). Part k c 0 u) star k)

      from : Many c 0 w → Joined c 0 w
      from h =
          let l : 0 < c.count = omega arith in
          part {i = 0} w [] l (sym (append-nil w)) (subst (λ (k : ℕ). Part k c 0 w) (sym star) h) (none (sym one) refl)

  -- A word is accepted exactly when each of its names stands in the words.
  pub text_accepts : (w : List ℕ) → Accepts c w ↔ ((x : ℕ) → Memᴰ x w → StandsIn x words)
  text_accepts w = go may
    where
      first : c.count ≡ 0 → (v : List ℕ) → AllStand v → v ≡ []
      first e [] h = refl
      first e (x ∷ v) h = absurd (none_stands e x (h x (Memᴰ.head refl)))

      go : MayHaveText c → Accepts c w ↔ AllStand w
      go (inl e) = (λ a x i. absurd (Memᴰ.not-nil (subst (λ (v : List ℕ). Memᴰ x v) ((empty_words c w e).0 a) i)), λ h. (empty_words c w e).1 (first e w h))
      go (inr (one, star)) = (λ a. (many_stand w).0 ((star_words one star w).0 a), λ h. (star_words one star w).1 ((many_stand w).1 h))

  -- So every one of the words is accepted.
  pub text_accepts_all : AcceptsAll c words
  text_accepts_all = go words (λ w i. i)
    where
      go : (vs : List (List ℕ)) → ((w : List ℕ) → Memᴰ w vs → Memᴰ w words) → AcceptsAll c vs
      go [] h = tt
      go (v ∷ vs) h = ((text_accepts v).1 (λ x j. (v, h v (Memᴰ.head refl), j)), go vs (λ w i. h w (Memᴰ.tail i)))

-- ---- there is one such record

module _ (size n : ℕ) (words : List (List ℕ)) (a b : Model) (ia : IsTextModel size n words a) (ib : IsTextModel size n words b) where
  counts : a.chain.count ≡ b.chain.count
  counts = go (may size n words a ia) (may size n words b ib)
    where
      go : MayHaveText a.chain → MayHaveText b.chain → a.chain.count ≡ b.chain.count
      go (inl p) (inl q) = p ∙ sym q
      go (inr (p, s)) (inr (q, t)) = p ∙ sym q
      go (inl p) (inr (q, t)) = let r = one_stands size n words b ib q in absurd (none_stands size n words a ia p r.0 r.1)
      go (inr (p, s)) (inl q) = let r = one_stands size n words a ia p in absurd (none_stands size n words b ib q r.0 r.1)

  -- a name of neither factor 0 is of no factor
  absent : (m : Model) → IsTextModel size n words m → (x : ℕ) → ¬ (factor_of m.chain x ≡ 0) → factor_of m.chain x ≡ no_factor
  absent m is x d = go (dec_lt x n)
    where
      few : m.chain.count ≤ 1
      few = at (may size n words m is)
        where
          at : MayHaveText m.chain → m.chain.count ≤ 1
          at (inl e) = omega arith
          at (inr (e, s)) = omega arith

      go : Dec (x < n) → factor_of m.chain x ≡ no_factor
      go (yes l) = at (is.model.chain.placed x l)
        where
          at : (factor_of m.chain x ≡ no_factor) ⊎ (factor_of m.chain x < m.chain.count) → factor_of m.chain x ≡ no_factor
          at (inl e) = e
          at (inr k) = absurd (d (omega (arith, few)))
      go (no l) = is.model.chain.others x (omega arith)

  factors : (x : ℕ) → factor_of a.chain x ≡ factor_of b.chain x
  factors x = go (ℕ_discrete (factor_of a.chain x) 0) (ℕ_discrete (factor_of b.chain x) 0)
    where
      go : Dec (factor_of a.chain x ≡ 0) → Dec (factor_of b.chain x ≡ 0) → factor_of a.chain x ≡ factor_of b.chain x
      go (yes p) q = p ∙ sym ((ib.names x).1 ((ia.names x).0 p))
      go (no p) (yes q) = absurd (p ((ia.names x).1 ((ib.names x).0 q)))
      go (no p) (no q) = absent a ia x p ∙ sym (absent b ib x q)

  modes : (i : ℕ) → mode_of a.chain i ≡ mode_of b.chain i
  modes i = go (dec_lt i a.chain.count) (may size n words a ia) (may size n words b ib)
    where
      go : Dec (i < a.chain.count) → MayHaveText a.chain → MayHaveText b.chain → mode_of a.chain i ≡ mode_of b.chain i
      go (no l) p q = ia.model.chain.rest i (omega arith) ∙ sym (ib.model.chain.rest i (omega (arith, counts)))
      go (yes l) (inl p) q = absurd (omega arith)
      go (yes l) (inr (p, s)) (inl q) = absurd (omega (arith, counts))
      go (yes l) (inr (p, s)) (inr (q, t)) =
          let z : i ≡ 0 = omega arith in
          ap (mode_of a.chain) z ∙ s ∙ sym t ∙ sym (ap (mode_of b.chain) z)

  pub only_text_model : a ≡ b
  only_text_model = ap₂ model_with (equal_records size n a.chain b.chain ia.model.chain ib.model.chain counts factors modes) (ia.text ∙ sym ib.text)
