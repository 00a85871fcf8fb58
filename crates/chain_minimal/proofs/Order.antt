-- Two chains that hold the same names in the same order are equal, if their modes are.
-- Assumes nothing.
use Prim.Native.Nat.{ℕ, zero, suc, ◌≤◌, ◌<◌}
use mathlib.Core.Path.{◌≡◌, refl, sym, ◌∙◌}
use mathlib.Core.Logic.{⊎_elim}
use native.Mathlib.Omega.{arith}
use native.Mathlib.Decide.{dec_lt}
use lib.Seq.{ext_get_or}
use Rattle.model.specs.declared.Chain.{Chain}
use Rattle.model.specs.Record.{no_factor, factor_of, mode_of, IsChain}

module _ (size n : ℕ) (m : Chain) (c : IsChain size n m) where
  pub named : (i : ℕ) → i < m.count → (x : ℕ) × (factor_of m x ≡ i)
  named i l = let q = c.named i l in (q.0, q.2)

  absent : (x : ℕ) → m.count ≤ factor_of m x → factor_of m x ≡ no_factor
  absent x h = go (dec_lt x n)
    where
      go : Dec (x < n) → factor_of m x ≡ no_factor
      go (yes l) = ⊎_elim (λ e. e) (λ k. absurd (omega arith)) (c.placed x l)
      go (no l) = c.others x (omega arith)

-- Every name that a holds is one that b holds.
abbrev pub Holds : Chain → Chain → Type 0
Holds a b = (x : ℕ) → factor_of a x < a.count → factor_of b x < b.count

-- Names that a holds in one order b has in that order.
abbrev pub Keeps : Chain → Chain → Type 0
Keeps a b = (x y : ℕ) → factor_of a x < a.count → factor_of a y < a.count → factor_of a x < factor_of a y → factor_of b x < factor_of b y

-- An order that is kept does not lower a place.
no_lower : (size n : ℕ) (a b : Chain) → IsChain size n a → Keeps a b → (k x : ℕ) → factor_of a x < a.count → factor_of a x ≡ k → k ≤ factor_of b x
no_lower size n a b c keeps zero x h e = omega arith
no_lower size n a b c keeps (suc k) x h e =
    let z = named size n a c k (omega arith) in
    let p : factor_of a z.0 ≡ k = z.1 in
    omega (arith, no_lower size n a b c keeps k z.0 (omega arith) p, keeps z.0 x (omega arith) h (omega arith))

-- A chain whose names another holds at the same places has no more factors.
fewer : (size n : ℕ) (a b : Chain) → IsChain size n a → Holds a b → ((x : ℕ) → factor_of a x < a.count → factor_of a x ≡ factor_of b x) → a.count ≤ b.count
fewer size n a b c holds same = go (dec_lt b.count a.count)
  where
    go : Dec (b.count < a.count) → a.count ≤ b.count
    go (yes l) =
        let z = named size n a c b.count l in
        let p : factor_of a z.0 ≡ b.count = z.1 in
        omega (arith, holds z.0 (omega arith), same z.0 (omega arith))
    go (no l) = omega arith

module _ (size n : ℕ) (a b : Chain) (ca : IsChain size n a) (cb : IsChain size n b) where
  module _ (ab : Holds a b) (ba : Holds b a) (to : Keeps a b) (from : Keeps b a) where
    held_same : (x : ℕ) → factor_of a x < a.count → factor_of a x ≡ factor_of b x
    held_same x h = omega (arith, no_lower size n a b ca to (factor_of a x) x h refl, no_lower size n b a cb from (factor_of b x) x (ab x h) refl)

    pub equal_counts : a.count ≡ b.count
    equal_counts = omega (arith, fewer size n a b ca ab held_same, fewer size n b a cb ba (λ x h. sym (held_same x (ba x h))))

    pub equal_factors : (x : ℕ) → factor_of a x ≡ factor_of b x
    equal_factors x = go (dec_lt (factor_of a x) a.count) (dec_lt (factor_of b x) b.count)
      where
        go : Dec (factor_of a x < a.count) → Dec (factor_of b x < b.count) → factor_of a x ≡ factor_of b x
        go (yes h) k = held_same x h
        go (no h) (yes k) = absurd (h (ba x k))
        go (no h) (no k) = absent size n a ca x (omega arith) ∙ sym (absent size n b cb x (omega arith))

  pub equal_records : a.count ≡ b.count → ((x : ℕ) → factor_of a x ≡ factor_of b x) → ((i : ℕ) → mode_of a i ≡ mode_of b i) → a ≡ b
  unfolding factor_of mode_of
  equal_records counts factors modes = λ k. record {
    count = counts k;
    factor = ext_get_or no_factor a.factor b.factor (ca.factors ∙ sym cb.factors) (λ x l. factors x) k;
    mode = ext_get_or 0 a.mode b.mode (ca.modes ∙ sym cb.modes) (λ i l. modes i) k;
  }
