-- The check of the factor row by the largest of its entries.
-- Assumes nothing.
use Prim.Native.Nat.{ℕ, ◌+◌, ◌≤◌, ◌<◌, max}
use mathlib.Core.Path.{◌≡◌, refl, sym, ◌∙◌}
use mathlib.Core.Bool.{Bool, true, false, ◌&&◌, ◌||◌, and-true, and-false}
use mathlib.Core.List.{List}
use native.Mathlib.Omega.{arith}
use native.Mathlib.Numerals.{add-one}
use native.Mathlib.Decide.{dec_lt, dec_le}
use borrow.Author.Tests.{eq-eqb, ne_eqb, lt-ltb, le-ltb, le-leb, lt-leb}
use lib.Dec.{eqb, ltb, leb}
use Rattle.std.proofs.lemmas.Grind.{get_or_default_zero}
use lib.ListN.{length, get_or, get_or-eq_default}
use Rattle.model.specs.Record.{no_factor}
use Rattle.nameset.specs.Tests.{every_below}
use Rattle.model.specs.Check.{may_hold, all_placed}
use Rattle.nameset.proofs.Tests.{both, and_left, and_right, same_test, all_law, all_same}

-- ---- tests over all numbers below a bound

-- Numbers that pass anyway need no test.
all_past : (n k : ℕ) (f : ℕ → Bool) → n ≤ k → ((x : ℕ) → n ≤ x → f x ≡ true) → every_below k f ≡ every_below n f
all_past n k f l h =
    same_test (every_below k f) (every_below n f) (λ e. (all_law n f).1 (λ x d. (all_law k f).0 e x (omega arith)))
    (λ e. (all_law k f).1 (λ x d. at e x (dec_lt x n)))
  where
    at : every_below n f ≡ true → (x : ℕ) → Dec (x < n) → f x ≡ true
    at e x (yes d) = (all_law n f).0 e x d
    at e x (no d) = h x (omega arith)

all_both : (n : ℕ) (f g : ℕ → Bool) → every_below n (λ k. f k && g k) ≡ (every_below n f && every_below n g)
all_both n f g =
    same_test (every_below n (λ k. f k && g k)) (every_below n f && every_below n g)
    (λ e. both (every_below n f) (every_below n g)
    ((all_law n f).1 (λ k l. and_left (f k) (g k) ((all_law n (λ k. f k && g k)).0 e k l)))
    ((all_law n g).1 (λ k l. and_right (f k) (g k) ((all_law n (λ k. f k && g k)).0 e k l))))
    (λ e. (all_law n (λ k. f k && g k)).1 (λ k l.
    both (f k) (g k) ((all_law n f).0 (and_left (every_below n f) (every_below n g) e) k l)
    ((all_law n g).0 (and_right (every_below n f) (every_below n g) e) k l)))

-- ---- an entry counted from 1

pub none_counted : (v : ℕ) → v ≡ no_factor → (count : ℕ) → leb 0 count ≡ may_hold count true v
unfolding may_hold
none_counted v e count = rw (eq-eqb v no_factor e) (le-leb 0 count (omega arith))

pub factor_counted : (v : ℕ) → (v ≡ no_factor → ⊥) → (count : ℕ) → leb (v + 1) count ≡ may_hold count true v
unfolding may_hold
factor_counted v h count = rw (ne_eqb v no_factor h) (go (dec_lt v count))
  where
    go : Dec (v < count) → leb (v + 1) count ≡ ltb v count
    go (yes l) = let m : v + 1 ≤ count = omega arith in rw (lt-ltb v count l, le-leb (v + 1) count m)
    go (no l) = let k : count ≤ v = omega arith in let m : count < v + 1 = omega arith in rw (le-ltb v count k, lt-leb (v + 1) count m)

-- ---- the entries from a place on

both_most : (x y k : ℕ) → leb (max x y) k ≡ (leb x k && leb y k)
both_most x y k = go (dec_le x k) (dec_le y k)
  where
    go : Dec (x ≤ k) → Dec (y ≤ k) → leb (max x y) k ≡ (leb x k && leb y k)
    go (yes a) (yes b) = let m : max x y ≤ k = omega arith in rw (le-leb x k a, le-leb y k b, le-leb (max x y) k m)
    go (yes a) (no b) = let c : k < y = omega arith in let m : k < max x y = omega arith in rw (le-leb x k a, lt-leb y k c, lt-leb (max x y) k m)
    go (no a) b = let c : k < x = omega arith in let m : k < max x y = omega arith in rw (lt-leb x k c, lt-leb (max x y) k m)

module _ (count : ℕ) (factor : List ℕ) (from : ℕ) where
  -- The number x stands before the place, or is in one of the first `count` factors or in none.
  abbrev pub among : ℕ → Bool
  among x = ltb x from || may_hold count true (get_or factor x no_factor)

  pub among_start : leb 0 count ≡ every_below from among
  among_start = le-leb 0 count (omega arith) ∙ sym ((all_law from among).1 (λ x l. rw (lt-ltb x from l)))

  pub among_more : (x top v : ℕ) → from ≤ x → leb top count ≡ every_below x among → leb v count ≡ may_hold count true (get_or factor x no_factor)
      → leb (max top v) count ≡ every_below (x + 1) among
  unfolding every_below
  among_more x top v h p q = rw (add-one x, both_most top v count, p, q, le-ltb x from h)

  -- The same where the row has the entry: as the code reads it.
  pub among_next : (x top v : ℕ) → x < length factor → from ≤ x → leb top count ≡ every_below x among → leb v count ≡ may_hold count true (get_or factor x 0)
      → leb (max top v) count ≡ every_below (x + 1) among
  among_next x top v l h p q =
      among_more x top v h p (rw (get_or_default_zero factor x no_factor l) q)

  pub among_done : (x top : ℕ) → length factor ≤ x → leb top count ≡ every_below x among → leb top count ≡ every_below (length factor) among
  unfolding may_hold
  among_done x top h p = p ∙ all_past (length factor) x among h (λ y l. past y l (ltb y from))
    where
      past : (y : ℕ) → length factor ≤ y → (b : Bool) → (b || may_hold count true (get_or factor y no_factor)) ≡ true
      past y l true = refl
      past y l false = let e : get_or factor y no_factor ≡ no_factor = get_or-eq_default factor no_factor l in rw (e, eq-eqb no_factor no_factor refl)

-- ---- all entries

-- A number's entry is right where it is one of the factors or none, and none where the number is no name's.
entry_split : (n count x v : ℕ) → may_hold count (ltb x n) v ≡ ((ltb x 0 || may_hold count true v) && (ltb x n || may_hold 0 true v))
unfolding may_hold
entry_split n count x v = go (ltb x n)
  where
    other : (e l : Bool) → e ≡ ((e || l) && (e || false))
    other true l = refl
    other false l = sym (and-false l)

    go : (b : Bool) → may_hold count b v ≡ ((ltb x 0 || may_hold count true v) && (b || may_hold 0 true v))
    go true = rw (le-ltb x 0 (omega arith)) (sym (and-true (may_hold count true v)))
    go false = rw (le-ltb x 0 (omega arith), le-ltb v 0 (omega arith)) (other (eqb v no_factor) (ltb v count))

module _ (n count : ℕ) (factor : List ℕ) where
  pub placed : all_placed (length factor) n count factor ≡ (every_below (length factor) (among count factor 0) && every_below (length factor) (among 0 factor n))
  unfolding all_placed
  placed =
      all_same (length factor) (λ x. may_hold count (ltb x n) (get_or factor x no_factor)) (λ x. among count factor 0 x && among 0 factor n x)
      (λ x l. entry_split n count x (get_or factor x no_factor))
      ∙ all_both (length factor) (among count factor 0) (among 0 factor n)
