-- The largest, the number and the smallest below a bound.
-- Assumes nothing.
use Prim.Native.Nat.{ℕ, zero, suc, ◌+◌, ◌≤◌, ◌<◌, max}
use mathlib.Core.Path.{◌≡◌, refl, sym, ◌∙◌, ap}
use mathlib.Core.Bool.{Bool, true, false, cond, ◌||◌, false≢true}
use native.Mathlib.Omega.{arith}
use native.Mathlib.Decide.{dec_le, ℕ_discrete}
use lib.Dec.{ltb}
use borrow.Author.Tests.{lt-ltb, le-ltb, ltb-true}
use Rattle.chain_levels.specs.Below.{any_below, count_below, first_below, largest_below}

-- ---- the largest

kept : (b : Bool) (v : ℕ) → b ≡ true → cond b v 0 ≡ v
kept b v e = rw e

dropped : (b : Bool) (v : ℕ) → b ≡ false → cond b v 0 ≡ 0
dropped b v e = rw e

kept_same : (b : Bool) (v w : ℕ) → (b ≡ true → v ≡ w) → cond {A = ℕ} b v 0 ≡ cond b w 0
kept_same true v w h = h refl
kept_same false v w h = refl

kept_is : (b : Bool) (v m : ℕ) → cond {A = ℕ} b v 0 ≡ suc m → (b ≡ true) × (v ≡ suc m)
kept_is true v m e = (refl, e)
kept_is false v m e = absurd (omega arith)

pub largest_bounds : (n : ℕ) (test : ℕ → Bool) (value : ℕ → ℕ) (k : ℕ) → k < n → test k ≡ true → value k ≤ largest_below n test value
unfolding largest_below
largest_bounds zero test value k h e = absurd (omega arith)
largest_bounds (suc n) test value k h e = go (ℕ_discrete k n) (λ l. largest_bounds n test value k l e)
  where
    go : Dec (k ≡ n) → (k < n → value k ≤ largest_below n test value) → value k ≤ max (largest_below n test value) (cond (test n) (value n) 0)
    go (yes d) ih = let q : value k ≡ value n = ap value d in omega (arith, kept (test n) (value n) (sym (ap test d) ∙ e))
    go (no d) ih = omega (arith, ih (omega arith))

pub largest_has : (n : ℕ) (test : ℕ → Bool) (value : ℕ → ℕ) (m : ℕ) → largest_below n test value ≡ suc m → (k : ℕ) × (k < n) × (test k ≡ true) × (value k ≡ suc m)
unfolding largest_below
largest_has zero test value m e = absurd (omega arith)
largest_has (suc n) test value m e = go (largest_has n test value m) (dec_le (largest_below n test value) (cond (test n) (value n) 0))
  where
    go : (largest_below n test value ≡ suc m → (k : ℕ) × (k < n) × (test k ≡ true) × (value k ≡ suc m)) → Dec (largest_below n test value ≤ cond (test n) (value n) 0) →
        (k : ℕ) × (k < suc n) × (test k ≡ true) × (value k ≡ suc m)
    go ih (yes l) = let q = kept_is (test n) (value n) m (omega arith) in (n, omega arith, q.0, q.1)
    go ih (no d) = let p = ih (omega arith) in (p.0, omega (arith, p.1), p.2, p.3)

pub largest_same : (n : ℕ) (test : ℕ → Bool) (v w : ℕ → ℕ) → ((k : ℕ) → k < n → test k ≡ true → v k ≡ w k) → largest_below n test v ≡ largest_below n test w
unfolding largest_below
largest_same zero test v w h = refl
largest_same (suc n) test v w h = rw (kept_same (test n) (v n) (w n) (h n (omega arith)), largest_same n test v w (λ k l. h k (omega arith)))

pub largest_most : (n : ℕ) (t : ℕ → Bool) (v : ℕ → ℕ) (m : ℕ) → ((k : ℕ) → k < n → t k ≡ true → v k ≤ m) → largest_below n t v ≤ m
unfolding largest_below
largest_most zero t v m h = omega arith
largest_most (suc n) t v m h = go (t n) refl (largest_most n t v m (λ k l. h k (omega arith)))
  where
    go : (b : Bool) → t n ≡ b → largest_below n t v ≤ m → max (largest_below n t v) (cond b (v n) 0) ≤ m
    go true p ih = omega (arith, h n (omega arith) p)
    go false p ih = omega arith

-- ---- how many

bit_le : (x y : Bool) → (x ≡ true → y ≡ true) → cond {A = ℕ} x 1 0 ≤ cond y 1 0
bit_le true true h = omega arith
bit_le true false h = absurd (false≢true (h refl))
bit_le false true h = omega arith
bit_le false false h = omega arith

count_le : (n : ℕ) (f g : ℕ → Bool) → ((x : ℕ) → x < n → f x ≡ true → g x ≡ true) → count_below n f ≤ count_below n g
unfolding count_below
count_le zero f g h = omega arith
count_le (suc n) f g h = omega (arith, bit_le (f n) (g n) (h n (omega arith)), count_le n f g (λ x l. h x (omega arith)))

pub count_lt : (n : ℕ) (f g : ℕ → Bool) → ((x : ℕ) → x < n → f x ≡ true → g x ≡ true) → (y : ℕ) → y < n → f y ≡ false → g y ≡ true → count_below n f < count_below n g
unfolding count_below
count_lt zero f g h y l p q = absurd (omega arith)
count_lt (suc n) f g h y l p q = go (ℕ_discrete y n) (λ k. count_lt n f g (λ x m. h x (omega arith)) y k p q)
  where
    go : Dec (y ≡ n) → (y < n → count_below n f < count_below n g) → count_below n f + cond (f n) 1 0 < count_below n g + cond (g n) 1 0
    go (yes e) ih = rw (sym (ap f e) ∙ p, sym (ap g e) ∙ q) (omega (arith, count_le n f g (λ x m. h x (omega arith))))
    go (no d) ih = omega (arith, bit_le (f n) (g n) (h n (omega arith)), ih (omega arith))

pub count_all : (n : ℕ) (f : ℕ → Bool) → count_below n f ≤ n
unfolding count_below
count_all zero f = omega arith
count_all (suc n) f = omega (arith, bit_le (f n) true (λ e. refl), count_all n f)

-- One that passes is counted, and two are.
pub count_one : (n : ℕ) (f : ℕ → Bool) (x : ℕ) → x < n → f x ≡ true → 1 ≤ count_below n f
count_one n f x l e = omega (arith, count_lt n (λ y. false) f (λ y h p. absurd (false≢true p)) x l refl e)

pub count_two : (n : ℕ) (f : ℕ → Bool) (x y : ℕ) → x < y → y < n → f x ≡ true → f y ≡ true → 2 ≤ count_below n f
unfolding count_below
count_two zero f x y h l p q = absurd (omega arith)
count_two (suc n) f x y h l p q = go (ℕ_discrete y n) (λ k. count_two n f x y h k p q)
  where
    go : Dec (y ≡ n) → (y < n → 2 ≤ count_below n f) → 2 ≤ count_below n f + cond (f n) 1 0
    go (yes e) ih = omega (arith, count_one n f x (omega arith) p, kept (f n) 1 (sym (ap f e) ∙ q))
    go (no d) ih = omega (arith, ih (omega arith))

-- If any is counted one passes, and if more than one is then one besides a given number passes.
pub count_some : (n : ℕ) (f : ℕ → Bool) → 1 ≤ count_below n f → (x : ℕ) × (x < n) × (f x ≡ true)
unfolding count_below
count_some zero f h = absurd (omega arith)
count_some (suc n) f h = go (f n) refl (count_some n f)
  where
    go : (b : Bool) → f n ≡ b → (1 ≤ count_below n f → (x : ℕ) × (x < n) × (f x ≡ true)) → (x : ℕ) × (x < suc n) × (f x ≡ true)
    go true e ih = (n, omega arith, e)
    go false e ih = let p = ih (omega (arith, dropped (f n) 1 e)) in (p.0, omega (arith, p.1), p.2)

pub count_other : (n : ℕ) (f : ℕ → Bool) (a : ℕ) → 2 ≤ count_below n f → (x : ℕ) × (x < n) × (f x ≡ true) × (¬ (x ≡ a))
unfolding count_below
count_other zero f a h = absurd (omega arith)
count_other (suc n) f a h = go (f n) refl (ℕ_discrete n a) (count_other n f a)
  where
    go : (b : Bool) → f n ≡ b → Dec (n ≡ a) → (2 ≤ count_below n f → (x : ℕ) × (x < n) × (f x ≡ true) × (¬ (x ≡ a))) → (x : ℕ) × (x < suc n) × (f x ≡ true) × (¬ (x ≡ a))
    go true e (no d) ih = (n, omega arith, e, d)
    go true e (yes d) ih =
        let p = count_some n f (omega (arith, kept (f n) 1 e)) in
        (p.0, omega (arith, p.1), p.2, omega (arith, p.1))
    go false e d ih = let p = ih (omega (arith, dropped (f n) 1 e)) in (p.0, omega (arith, p.1), p.2, p.3)

-- If each number below c is the place of a name below n, then c is at most n.
pub few : (n c : ℕ) (place : ℕ → ℕ) → ((i : ℕ) → i < c → (x : ℕ) × (x < n) × (place x ≡ i)) → c ≤ n
few n c place named = omega (arith, go c (omega arith), count_all n (λ x. ltb (place x) c))
  where
    more : (k x : ℕ) → ltb (place x) k ≡ true → ltb (place x) (suc k) ≡ true
    more k x e = lt-ltb (place x) (suc k) (omega (arith, ltb-true (place x) k e))

    go : (k : ℕ) → k ≤ c → k ≤ count_below n (λ x. ltb (place x) k)
    go zero l = omega arith
    go (suc k) l =
        let z = named k (omega arith) in
        omega (
          arith,
          go k (omega arith),
          count_lt n (λ x. ltb (place x) k) (λ x. ltb (place x) (suc k)) (λ x h. more k x) z.0 z.1
              (le-ltb (place z.0) k (omega (arith, z.2)))
              (lt-ltb (place z.0) (suc k) (omega (arith, z.2))),
        )

bit_join : (p q r : Bool) → (p ≡ true → q ≡ true → ⊥) → (p ≡ true → r ≡ true) → (q ≡ true → r ≡ true) → cond {A = ℕ} p 1 0 + cond q 1 0 ≤ cond r 1 0
bit_join true true r d f g = absurd (d refl refl)
bit_join true false r d f g = rw (f refl) (omega arith)
bit_join false true r d f g = rw (g refl) (omega arith)
bit_join false false r d f g = omega arith

-- two tests that never pass together
pub count_join : (n : ℕ) (p q r : ℕ → Bool) → ((x : ℕ) → x < n → p x ≡ true → q x ≡ true → ⊥) → ((x : ℕ) → x < n → p x ≡ true → r x ≡ true) →
    ((x : ℕ) → x < n → q x ≡ true → r x ≡ true) → count_below n p + count_below n q ≤ count_below n r
unfolding count_below
count_join zero p q r d f g = omega arith
count_join (suc n) p q r d f g =
    omega (
      arith,
      bit_join (p n) (q n) (r n) (d n (omega arith)) (f n (omega arith)) (g n (omega arith)),
      count_join n p q r (λ x l. d x (omega arith)) (λ x l. f x (omega arith)) (λ x l. g x (omega arith)),
    )

bit_or_lem : (a b : Bool) (k : ℕ) → cond {A = ℕ} a 1 0 ≤ k → cond {A = ℕ} (a || b) 1 0 ≤ k + cond b 1 0
bit_or_lem true b k h = omega arith
bit_or_lem false b k h = omega arith

-- one, if there is any
pub some_count : (n : ℕ) (p : ℕ → Bool) → cond {A = ℕ} (any_below n p) 1 0 ≤ count_below n p
unfolding any_below count_below
some_count zero p = omega arith
some_count (suc n) p = bit_or_lem (any_below n p) (p n) (count_below n p) (some_count n p)

pub count_more : (m n : ℕ) (p : ℕ → Bool) → m < n → p m ≡ true → suc (count_below m p) ≤ count_below n p
unfolding count_below
count_more m zero p l e = absurd (omega arith)
count_more m (suc n) p l e = go (ℕ_discrete m n) (λ k. count_more m n p k e)
  where
    go : Dec (m ≡ n) → (m < n → suc (count_below m p) ≤ count_below n p) → suc (count_below m p) ≤ count_below n p + cond (p n) 1 0
    go (yes q) ih = rw (← q, e) (omega arith)
    go (no q) ih = omega (arith, ih (omega arith))

pub count_past : (n j : ℕ) (p : ℕ → Bool) → ((x : ℕ) → n ≤ x → p x ≡ false) → count_below (n + j) p ≡ count_below n p
unfolding count_below
count_past n zero p h = let e : n + 0 ≡ n = omega arith in rw e
count_past n (suc j) p h =
    let e : n + suc j ≡ suc (n + j) = omega arith in
    let q : p (n + j) ≡ false = h (n + j) (omega arith) in
    rw (e, q) (omega (arith, count_past n j p h))

-- ---- the smallest: it passes, if any number does

pub first_le : (n : ℕ) (f : ℕ → Bool) (k : ℕ) → k < n → f k ≡ true → first_below n f ≤ k
unfolding first_below
first_le zero f k h e = absurd (omega arith)
first_le (suc n) f k h e = go (f 0) refl k h e (λ j. first_le n (λ i. f (suc i)) j)
  where
    go : (b : Bool) → f 0 ≡ b → (k : ℕ) → k < suc n → f k ≡ true → ((j : ℕ) → j < n → f (suc j) ≡ true → first_below n (λ i. f (suc i)) ≤ j) →
        cond b 0 (suc (first_below n (λ i. f (suc i)))) ≤ k
    go true p k h e ih = omega arith
    go false p zero h e ih = absurd (false≢true (sym p ∙ e))
    go false p (suc k) h e ih = omega (arith, ih k (omega arith) e)

pub first_is : (n : ℕ) (f : ℕ → Bool) (k : ℕ) → k < n → f k ≡ true → f (first_below n f) ≡ true
unfolding first_below
first_is zero f k h e = absurd (omega arith)
first_is (suc n) f k h e = go (f 0) refl k h e (λ j. first_is n (λ i. f (suc i)) j)
  where
    go : (b : Bool) → f 0 ≡ b → (k : ℕ) → k < suc n → f k ≡ true →
        ((j : ℕ) → j < n → f (suc j) ≡ true → f (suc (first_below n (λ i. f (suc i)))) ≡ true) → f (cond b 0 (suc (first_below n (λ i. f (suc i))))) ≡ true
    go true p k h e ih = p
    go false p zero h e ih = absurd (false≢true (sym p ∙ e))
    go false p (suc k) h e ih = ih k (omega arith) e
