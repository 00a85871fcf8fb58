-- Laws of sets that are empty or have one name, and of the number of factors of a level.
-- Assumes nothing.
use Prim.Native.Nat.{ℕ, zero, suc, ◌+◌, ◌≤◌, ◌<◌}
use mathlib.Core.Path.{◌≡◌, refl, sym, ◌∙◌, ap}
use mathlib.Core.Bool.{Bool, true, false, cond, ◌&&◌, ◌||◌, not, false≢true}
use native.Mathlib.Omega.{arith}
use native.Mathlib.Decide.{ℕ_discrete}
use borrow.Author.Tests.{eq-eqb, ne_eqb}
use lib.Dec.{eqb}
use Rattle.nameset.specs.Places.{places}
use Rattle.nameset.specs.declared.NameSet.{NameSet}
use Rattle.nameset.specs.Set.{member, Sized, first}
use Rattle.nameset.specs.Promise.{Emptiness, Shrunk}
use Rattle.nameset.proofs.Laws.{first_in}
use Rattle.chain_levels.specs.Below.{any_below, count_below}
use Rattle.chain_levels.specs.Chain.{factors}
use Rattle.chain_levels.proofs.Tests.{some_is, refuted, both_ways}
use Rattle.chain_levels.proofs.Below.{some_count}

-- ---- a set that is empty or not

pub some_set : (s : NameSet) (r : Bool) → Emptiness s r → not r ≡ any_below places (member s)
some_set s true e = sym (refuted (any_below places (member s)) (λ t. let p = (some_is places (member s)).0 t in both_ways (member s p.0) p.2 (e.none refl p.0)))
some_set s false e = go (any_below places (member s)) refl
  where
    go : (b : Bool) → any_below places (member s) ≡ b → true ≡ b
    go true q = refl
    go false q =
        absurd (false≢true (e.all (λ j l. refuted (member s j) (λ m. both_ways (any_below places (member s)) ((some_is places (member s)).1 (j, l, m)) q))))

pub some_empty : (s : NameSet) (r : Bool) → Emptiness s r → r ≡ true → any_below places (member s) ≡ false
some_empty s r e q = sym (some_set s r e) ∙ rw q

pub some_full : (s : NameSet) (r : Bool) → Emptiness s r → r ≡ false → any_below places (member s) ≡ true
some_full s r e q = sym (some_set s r e) ∙ rw q

-- ---- how many names a set has

pub count_none : (n : ℕ) (p : ℕ → Bool) → any_below n p ≡ false → count_below n p ≡ 0
unfolding any_below count_below
count_none zero p e = refl
count_none (suc n) p e = go (any_below n p) (p n) refl refl e (count_none n p)
  where
    go : (a b : Bool) → any_below n p ≡ a → p n ≡ b → (a || b) ≡ false → (any_below n p ≡ false → count_below n p ≡ 0) → count_below n p + cond (p n) 1 0 ≡ 0
    go true b u v h ih = absurd (false≢true (sym h))
    go false true u v h ih = absurd (false≢true (sym h))
    go false false u v h ih = rw v (omega (arith, ih u))

-- one test passes where the other does, but for x
pub count_without : (n : ℕ) (p q : ℕ → Bool) (x : ℕ) → x < n → p x ≡ true → q x ≡ false → ((j : ℕ) → (j ≡ x → ⊥) → q j ≡ p j) → count_below n p ≡ suc (count_below n q)
unfolding count_below
count_without zero p q x h a b e = absurd (omega arith)
count_without (suc n) p q x h a b e = go (ℕ_discrete x n) (λ l. count_without n p q x l a b e)
  where
    same : (m : ℕ) → m ≤ x → count_below m p ≡ count_below m q
    same zero l = refl
    same (suc m) l = let k : q m ≡ p m = e m (λ u. omega arith) in rw k (ap (λ (c : ℕ). c + cond (p m) 1 0) (same m (omega arith)))

    go : Dec (x ≡ n) → (x < n → count_below n p ≡ suc (count_below n q)) → count_below n p + cond (p n) 1 0 ≡ suc (count_below n q + cond (q n) 1 0)
    go (yes u) ih =
        let i : p n ≡ true = ap p (sym u) ∙ a in
        let j : q n ≡ false = ap q (sym u) ∙ b in
        rw (i, j) (omega (arith, same n (omega arith)))
    go (no u) ih = let k : q n ≡ p n = e n (λ v. u (sym v)) in rw k (omega (arith, ih (omega arith)))

pub one_none : (s : NameSet) (r : Bool) → Emptiness s r → r ≡ true → false ≡ eqb (count_below places (member s)) 1
one_none s r e q = sym (ne_eqb (count_below places (member s)) 1 (λ u. omega (arith, count_none places (member s) (some_empty s r e q))))

last_law : (a t : Bool) → t ≡ false → (a && not t) ≡ a
last_law true t e = rw e
last_law false t e = refl

gone : (a t : Bool) → t ≡ true → (a && not t) ≡ false
gone true t e = rw e
gone false t e = refl

pub one_some : (s t : NameSet) (r q : Bool) → Sized s → Emptiness s r → r ≡ false → Shrunk s t → Emptiness t q → q ≡ eqb (count_below places (member s)) 1
one_some s t r q z e n h g = go q refl
  where
    found : (first s < places) × (member s (first s) ≡ true)
    found = first_in s z (sym e.same ∙ n)

    count : count_below places (member s) ≡ suc (count_below places (member t))
    count =
        count_without places (member s) (member t) (first s) found.0 found.1
        (h.members (first s) ∙ gone (member s (first s)) (eqb (first s) (first s)) (eq-eqb (first s) (first s) refl))
        (λ j d. h.members j ∙ last_law (member s j) (eqb (first s) j) (ne_eqb (first s) j (λ u. d (sym u))))

    go : (b : Bool) → q ≡ b → b ≡ eqb (count_below places (member s)) 1
    go true u = sym (eq-eqb (count_below places (member s)) 1 (omega (arith, count, count_none places (member t) (some_empty t q g u))))
    go false u =
        let k : 1 ≤ count_below places (member t) = (rw (some_full t q g u) at (some_count places (member t))) in
        sym (ne_eqb (count_below places (member s)) 1 (λ v. omega (arith, count)))

-- ---- the number of factors of a level

pub factors_groups : (singles leaders : NameSet) (r q : Bool) → Emptiness singles r → r ≡ true → q ≡ eqb (count_below places (member leaders)) 1 →
    q ≡ eqb (factors places (member singles) (member leaders)) 1
unfolding factors
factors_groups singles leaders r q e t f =
    let z : 0 + count_below places (member leaders) ≡ count_below places (member leaders) = omega arith in
    rw (some_empty singles r e t, z) f

pub factors_singles : (singles leaders : NameSet) (r q : Bool) → Emptiness singles r → r ≡ false → Emptiness leaders q → q ≡ eqb (factors places (member singles) (member leaders)) 1
unfolding factors
factors_singles singles leaders r q e t f = rw (some_full singles r e t) (go q refl)
  where
    go : (b : Bool) → q ≡ b → b ≡ eqb (1 + count_below places (member leaders)) 1
    go true u = sym (eq-eqb (1 + count_below places (member leaders)) 1 (omega (arith, count_none places (member leaders) (some_empty leaders q f u))))
    go false u =
        let k : 1 ≤ count_below places (member leaders) = (rw (some_full leaders q f u) at (some_count places (member leaders))) in
        sym (ne_eqb (1 + count_below places (member leaders)) 1 (λ v. omega arith))
