-- Laws of the tests over all numbers below a bound.
-- Assumes nothing.
use Rattle.std.proofs.Common.{◌≡◌, ℕ, zero, suc, ◌+◌, ◌<◌, Bool, true, false, ◌&&◌, ◌||◌, ◌⊎◌, ◌↔◌, sym, refl, ◌∙◌, inl, inr, add-one, arith}
use mathlib.Core.Bool.{false≢true}
use native.Mathlib.Decide.{ℕ_discrete}
use Rattle.nameset.specs.Tests.{every_below, any_below}

-- From 0 ≡ 1, which `cc` finds where two constructors are said to be equal, anything follows.
pub never : ◌≡◌ {A = ℕ} 0 1 → ⊥
never e = omega arith

-- ---- and, or

pub both : (a b : Bool) → a ≡ true → b ≡ true → (a && b) ≡ true
both a b p q = rw (p, q)

pub and_left : (a b : Bool) → (a && b) ≡ true → a ≡ true
and_left true b e = refl
and_left false b e = e

pub and_right : (a b : Bool) → (a && b) ≡ true → b ≡ true
and_right true b e = e
and_right false b e = absurd (false≢true e)

pub or_split : (a b : Bool) → (a || b) ≡ true → (a ≡ true) ⊎ (b ≡ true)
or_split true b e = inl refl
or_split false b e = inr e

pub or_right : (a b : Bool) → b ≡ true → (a || b) ≡ true
or_right true b e = refl
or_right false b e = e

-- Two tests that hold together are equal.
pub same_test : (a b : Bool) → (a ≡ true → b ≡ true) → (b ≡ true → a ≡ true) → a ≡ b
same_test true b f g = sym (f refl)
same_test false true f g = g refl
same_test false false f g = refl

-- ---- all numbers below n, some number below n

-- A number below n + 1 is n or below n.
last : (P : ℕ → Type 0) (n : ℕ) → ((k : ℕ) → k < n → P k) → P n → (k : ℕ) → k < suc n → P k
last P n f p k l = go (ℕ_discrete k n)
  where
    go : Dec (k ≡ n) → P k
    go (yes e) = rw e p
    go (no d) = f k (omega arith)

pub all_law : (n : ℕ) (test : ℕ → Bool) → (every_below n test ≡ true) ↔ ((k : ℕ) → k < n → test k ≡ true)
unfolding every_below
all_law zero test = (λ e k l. absurd (omega arith), λ f. refl)
all_law (suc n) test = (
  λ e. last (λ k. test k ≡ true) n ((all_law n test).0 (and_left (every_below n test) (test n) e)) (and_right (every_below n test) (test n) e),
  λ f. both (every_below n test) (test n) ((all_law n test).1 (λ k l. f k (omega arith))) (f n (omega arith)),
)

pub any_law : (n : ℕ) (test : ℕ → Bool) → (any_below n test ≡ true) ↔ ((k : ℕ) × (k < n) × (test k ≡ true))
unfolding any_below
any_law zero test = (λ e. absurd (false≢true e), λ p. absurd (omega (arith, p.1)))
any_law (suc n) test = (λ e. to (any_law n test).0 (or_split (any_below n test) (test n) e), λ p. from (any_law n test).1 p.0 p.1 p.2 (ℕ_discrete p.0 n))
  where
    to : (any_below n test ≡ true → (k : ℕ) × (k < n) × (test k ≡ true)) → (any_below n test ≡ true) ⊎ (test n ≡ true) → (k : ℕ) × (k < suc n) × (test k ≡ true)
    to f (inl e) = let p = f e in (p.0, omega (arith, p.1), p.2)
    to f (inr e) = (n, omega arith, e)

    from : ((k : ℕ) × (k < n) × (test k ≡ true) → any_below n test ≡ true) → (k : ℕ) → k < suc n → test k ≡ true → Dec (k ≡ n) → (any_below n test || test n) ≡ true
    from f k l e (yes d) = or_right (any_below n test) (test n) (rw d at e)
    from f k l e (no d) = rw (f (k, omega arith, e))

-- Tests that agree on every number below n.
pub all_same : (n : ℕ) (f g : ℕ → Bool) → ((k : ℕ) → k < n → f k ≡ g k) → every_below n f ≡ every_below n g
all_same n f g h =
    same_test (every_below n f) (every_below n g) (λ e. (all_law n g).1 (λ k l. sym (h k l) ∙ (all_law n f).0 e k l))
    (λ e. (all_law n f).1 (λ k l. h k l ∙ (all_law n g).0 e k l))

-- Some number below n, as a loop meets it.
pub any_start : (test : ℕ → Bool) → any_below 0 test ≡ false
unfolding any_below
any_start test = refl

pub any_more : (n : ℕ) (test : ℕ → Bool) → any_below (n + 1) test ≡ (any_below n test || test n)
unfolding any_below
any_more n test = rw add-one
