-- Whether every step of one record is a step of another is decided, by a search over the points below n.
-- Assumes nothing.
use Prim.Native.Nat.{ℕ, zero, suc, ◌≤◌, ◌<◌}
use mathlib.Core.Path.{◌≡◌, refl, sym, ◌∙◌}
use mathlib.Core.Bool.{Bool, true, false, false≢true}
use mathlib.Core.List.{List, [], ◌∷◌}
use mathlib.Core.Logic.{◌⊎◌, inl, inr}
use native.Mathlib.Omega.{arith}
use native.Mathlib.Decide.{dec_lt, dec_le, ℕ_discrete}
use Rattle.model.specs.declared.Chain.{Chain}
use Rattle.model.specs.Record.{no_factor, factor_of, mode_of}
use Rattle.model.specs.Accept.{Names}
use Rattle.model_language.specs.Word.{Point, start, name, end}
use Rattle.model_language.specs.Step.{optional, repeats, place, Held, Over, Repeat, Step, Includes}
use Rattle.model_language.proofs.Walk.{Walk}

-- ---- a finite search

-- All numbers below n have P, or one has Q.
below : (n : ℕ) (P Q : ℕ → Type 0) → ((x : ℕ) → P x ⊎ Q x) → ((x : ℕ) → x < n → P x) ⊎ ((x : ℕ) × Q x)
below zero P Q f = inl (λ x h. absurd (omega arith))
below (suc n) P Q f = go (f n) (below n P Q f)
  where
    go : P n ⊎ Q n → ((x : ℕ) → x < n → P x) ⊎ ((x : ℕ) × Q x) → ((x : ℕ) → x < suc n → P x) ⊎ ((x : ℕ) × Q x)
    go (inr q) r = inr (n, q)
    go (inl p) (inr r) = inr r
    go (inl p) (inl r) = inl (λ x h. here x h (ℕ_discrete x n))
      where
        here : (x : ℕ) → x < suc n → Dec (x ≡ n) → P x
        here x h (yes e) = rw e p
        here x h (no d) = r x (omega arith)

-- The point is the start, the end, or a name below n.
abbrev Below : ℕ → Point → Type 0
Below n start = Unit {0}
Below n (name x) = x < n
Below n end = Unit {0}

points : (n : ℕ) (P Q : Point → Type 0) → ((u : Point) → P u ⊎ Q u) → ((u : Point) → Below n u → P u) ⊎ ((u : Point) × Q u)
points n P Q f = go (f start) (f end) (below n (λ x. P (name x)) (λ x. Q (name x)) (λ x. f (name x)))
  where
    all : P start → P end → ((x : ℕ) → x < n → P (name x)) → (u : Point) → Below n u → P u
    all s e r start h = s
    all s e r (name x) h = r x h
    all s e r end h = e

    go : P start ⊎ Q start → P end ⊎ Q end → ((x : ℕ) → x < n → P (name x)) ⊎ ((x : ℕ) × Q (name x)) → ((u : Point) → Below n u → P u) ⊎ ((u : Point) × Q u)
    go (inr q) e r = inr (start, q)
    go (inl p) (inr q) r = inr (end, q)
    go (inl p) (inl e) (inr r) = inr (name r.0, r.1)
    go (inl p) (inl e) (inl r) = inl (all p e r)

-- ---- a step is decided

held? : (m : Chain) (u : Point) → Dec (Held m u)
held? m start = yes tt
held? m (name x) = dec_lt (factor_of m x) m.count
held? m end = yes tt

over? : (m : Chain) (u v : Point) → Dec (Over m u v)
over? m u v = go (dec_lt (place m u) (place m v)) (below (place m v) Free Shut (λ i. at i (dec_le (place m u) i) (dec_lt (suc i) (place m v)) (optional (mode_of m i)) refl))
  where
    Free : ℕ → Type 0
    Free i = place m u ≤ i → suc i < place m v → optional (mode_of m i) ≡ true

    Shut : ℕ → Type 0
    Shut i = (place m u ≤ i) × (suc i < place m v) × (optional (mode_of m i) ≡ false)

    at : (i : ℕ) → Dec (place m u ≤ i) → Dec (suc i < place m v) → (b : Bool) → optional (mode_of m i) ≡ b → Free i ⊎ Shut i
    at i p q true e = inl (λ a b. e)
    at i (yes p) (yes q) false e = inr (p, q, e)
    at i (yes p) (no q) false e = inl (λ a b. absurd (q b))
    at i (no p) q false e = inl (λ a b. absurd (p a))

    go : Dec (place m u < place m v) → ((i : ℕ) → i < place m v → Free i) ⊎ ((i : ℕ) × Shut i) → Dec (Over m u v)
    go (no l) r = no (λ o. l o.rises)
    go (yes l) (inl f) = yes record { rises = l; free = λ i p q. f i (omega arith) p q }
    go (yes l) (inr (i, (p, q, e))) = no (λ o. false≢true (sym e ∙ o.free i p q))

repeat? : (m : Chain) (u v : Point) → Dec (Repeat m u v)
repeat? m u v = go (place m u) refl (ℕ_discrete (place m v) (place m u))
  where
    loop? : (i : ℕ) → place m u ≡ suc i → place m v ≡ suc i → Dec (i < m.count) → (b : Bool) → repeats (mode_of m i) ≡ b → Dec (Repeat m u v)
    loop? i e f (no h) b l = no (λ t. h (omega (arith, t.one, t.left)))
    loop? i e f (yes h) true l = yes record { factor = i; one = h; left = e; right = f; loop = l }
    loop? i e f (yes h) false l = no (λ t. let q : i ≡ t.factor = omega arith in false≢true (sym l ∙ rw q t.loop))

    go : (p : ℕ) → place m u ≡ p → Dec (place m v ≡ place m u) → Dec (Repeat m u v)
    go zero e d = no (λ t. omega arith)
    go (suc i) e (no d) = no (λ t. d (omega arith))
    go (suc i) e (yes d) = loop? i e (omega arith) (dec_lt i m.count) (repeats (mode_of m i)) refl

step? : (m : Chain) (u v : Point) → Dec (Step m u v)
step? m u v = go (held? m u) (held? m v) (over? m u v) (repeat? m u v)
  where
    neither : ¬ Over m u v → ¬ Repeat m u v → ¬ (Over m u v ⊎ Repeat m u v)
    neither a b (inl o) = a o
    neither a b (inr t) = b t

    go : Dec (Held m u) → Dec (Held m v) → Dec (Over m u v) → Dec (Repeat m u v) → Dec (Step m u v)
    go (no h) k o t = no (λ s. h s.leaves)
    go (yes h) (no k) o t = no (λ s. k s.meets)
    go (yes h) (yes k) (yes o) t = yes record { leaves = h; meets = k; way = inl o }
    go (yes h) (yes k) (no o) (yes t) = yes record { leaves = h; meets = k; way = inr t }
    go (yes h) (yes k) (no o) (no t) = no (λ s. neither o t s.way)

-- ---- inclusion is decided

-- The step from u to v is one of m and none of k.
abbrev pub Extra : Chain → Chain → Point → Point → Type 0
Extra m k u v = Step m u v × (¬ Step k u v)

compare : (m k : Chain) (u v : Point) → (Step m u v → Step k u v) ⊎ Extra m k u v
compare m k u v = go (step? m u v) (step? k u v)
  where
    go : Dec (Step m u v) → Dec (Step k u v) → (Step m u v → Step k u v) ⊎ Extra m k u v
    go a (yes t) = inl (λ s. t)
    go (no s) (no t) = inl (λ z. absurd (s z))
    go (yes s) (no t) = inr (s, t)

module _ (n : ℕ) (m : Chain) (few : m.count ≤ no_factor) (others : (x : ℕ) → n ≤ x → factor_of m x ≡ no_factor) where
  held_below : (u : Point) → Held m u → Below n u
  held_below start h = tt
  held_below end h = tt
  held_below (name x) h = go (dec_lt x n)
    where
      go : Dec (x < n) → x < n
      go (yes l) = l
      go (no l) = absurd (omega (arith, others x (omega arith)))

  pub walk_names : (u : Point) (w : List ℕ) → Walk m u w → Names n w
  walk_names u [] s = tt
  walk_names u (x ∷ w) (s, p) = (held_below (name x) s.meets, walk_names (name x) w p)

  pub steps_decided : (k : Chain) → Includes m k ⊎ ((u : Point) × ((v : Point) × Extra m k u v))
  steps_decided k = go (points n All Some (λ u. points n (λ v. Step m u v → Step k u v) (λ v. Extra m k u v) (compare m k u)))
    where
      All : Point → Type 0
      All u = (v : Point) → Below n v → Step m u v → Step k u v

      Some : Point → Type 0
      Some u = (v : Point) × Extra m k u v

      go : ((u : Point) → Below n u → All u) ⊎ ((u : Point) × Some u) → Includes m k ⊎ ((u : Point) × ((v : Point) × Extra m k u v))
      go (inl f) = inl (λ u v s. f u (held_below u s.leaves) v (held_below v s.meets) s)
      go (inr x) = inr x
