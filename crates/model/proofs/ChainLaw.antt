-- The test `is_chain` says exactly when a record is a chain.
-- Assumes nothing.
use Prim.Native.Nat.{ℕ, ◌≤◌, ◌<◌}
use mathlib.Core.Path.{◌≡◌, refl}
use mathlib.Core.Bool.{Bool, true, false, ◌&&◌, false≢true}
use mathlib.Core.List.{List}
use mathlib.Core.Logic.{◌⊎◌, inl, inr, ◌↔◌}
use native.Mathlib.Omega.{arith}
use native.Mathlib.Decide.{dec_lt}
use borrow.Author.Tests.{eqb-true, eq-eqb, ltb-true, lt-ltb, le-ltb, leb-true, le-leb}
use lib.Dec.{eqb, ltb, leb}
use lib.ListN.{length, get_or, get_or-eq_default}
use Rattle.model.specs.declared.Chain.{Chain}
use Rattle.model.specs.Record.{no_factor, factor_of, mode_of, IsChain}
use Rattle.nameset.specs.Tests.{any_below}
use Rattle.model.specs.Check.{may_hold, may_be, all_placed, all_named, all_known, is_chain}
use Rattle.nameset.proofs.Tests.{or_split, or_right, all_law, any_law}

-- ---- one entry, one mode

-- What a chain over n names with `count` factors asks of the entry v of the number x.
pub record Entry (n count x v : ℕ) : Type 0 where
  pub named : x < n → (v ≡ no_factor) ⊎ (v < count)
  pub other : n ≤ x → v ≡ no_factor

entry_law : (n count x v : ℕ) → (may_hold count (ltb x n) v ≡ true) ↔ Entry n count x v
unfolding may_hold
entry_law n count x v = go (dec_lt x n)
  where
    free : (eqb v no_factor ≡ true) ⊎ (ltb v count ≡ true) → (v ≡ no_factor) ⊎ (v < count)
    free (inl e) = inl (eqb-true v no_factor e)
    free (inr e) = inr (ltb-true v count e)

    held : (v ≡ no_factor) ⊎ (v < count) → may_hold count true v ≡ true
    held (inl e) = rw (eq-eqb v no_factor e)
    held (inr l) = or_right (eqb v no_factor) (ltb v count) (lt-ltb v count l)

    go : Dec (x < n) → (may_hold count (ltb x n) v ≡ true) ↔ Entry n count x v
    go (yes l) = rw (lt-ltb x n l) (
      λ e. record { named = λ p. free (or_split (eqb v no_factor) (ltb v count) e); other = λ p. absurd (omega arith) },
      λ r. held (r.named l),
    )
    go (no l) =
        let h : n ≤ x = omega arith in
        rw (le-ltb x n h) (λ e. record { named = λ p. absurd (l p); other = λ p. eqb-true v no_factor e }, λ r. eq-eqb v no_factor (r.other h))

-- What a chain with `count` factors asks of the mode f of factor i.
pub record Mode (count i f : ℕ) : Type 0 where
  pub known : i < count → f ≤ 3
  pub rest : count ≤ i → f ≡ 0

mode_law : (count i f : ℕ) → (may_be (ltb i count) f ≡ true) ↔ Mode count i f
unfolding may_be
mode_law count i f = go (dec_lt i count)
  where
    go : Dec (i < count) → (may_be (ltb i count) f ≡ true) ↔ Mode count i f
    go (yes l) = rw (lt-ltb i count l) (λ e. record { known = λ p. leb-true f 3 e; rest = λ p. absurd (omega arith) }, λ r. le-leb f 3 (r.known l))
    go (no l) =
        let h : count ≤ i = omega arith in
        rw (le-ltb i count h) (λ e. record { known = λ p. absurd (l p); rest = λ p. eqb-true f 0 e }, λ r. eq-eqb f 0 (r.rest h))

-- ---- all entries, all factors, all modes

pub placed_law : (size n count : ℕ) (l : List ℕ) → (all_placed size n count l ≡ true) ↔ ((x : ℕ) → x < size → Entry n count x (get_or l x no_factor))
unfolding all_placed
placed_law size n count l =
    let a = all_law size (λ x. may_hold count (ltb x n) (get_or l x no_factor)) in
    (λ e x h. (entry_law n count x (get_or l x no_factor)).0 (a.0 e x h), λ f. a.1 (λ x h. (entry_law n count x (get_or l x no_factor)).1 (f x h)))

-- Factor i has a name below n.
abbrev pub Named : ℕ → List ℕ → ℕ → Type 0
Named n l i = (x : ℕ) × (x < n) × (get_or l x no_factor ≡ i)

pub name_law : (n : ℕ) (l : List ℕ) (i : ℕ) → (any_below n (λ x. eqb (get_or l x no_factor) i) ≡ true) ↔ Named n l i
name_law n l i =
    let a = any_law n (λ x. eqb (get_or l x no_factor) i) in
    (λ e. let p = a.0 e in (p.0, p.1, eqb-true (get_or l p.0 no_factor) i p.2), λ p. a.1 (p.0, p.1, eq-eqb (get_or l p.0 no_factor) i p.2))

named_law : (n count : ℕ) (l : List ℕ) → (all_named n count l ≡ true) ↔ ((i : ℕ) → i < count → Named n l i)
unfolding all_named
named_law n count l =
    let a = all_law count (λ i. any_below n (λ x. eqb (get_or l x no_factor) i)) in
    (λ e i h. (name_law n l i).0 (a.0 e i h), λ f. a.1 (λ i h. (name_law n l i).1 (f i h)))

pub known_law : (size count : ℕ) (l : List ℕ) → (all_known size count l ≡ true) ↔ ((i : ℕ) → i < size → Mode count i (get_or l i 0))
unfolding all_known
known_law size count l =
    let a = all_law size (λ i. may_be (ltb i count) (get_or l i 0)) in
    (λ e i h. (mode_law count i (get_or l i 0)).0 (a.0 e i h), λ f. a.1 (λ i h. (mode_law count i (get_or l i 0)).1 (f i h)))

-- ---- the whole test

six : (a b c d e f : Bool) → (a && (b && (c && (d && (e && f))))) ≡ true → (a ≡ true) × (b ≡ true) × (c ≡ true) × (d ≡ true) × (e ≡ true) × (f ≡ true)
six true true true true true f h = (refl, refl, refl, refl, refl, h)
six true true true true false f h = absurd (false≢true h)
six true true true false e f h = absurd (false≢true h)
six true true false d e f h = absurd (false≢true h)
six true false c d e f h = absurd (false≢true h)
six false b c d e f h = absurd (false≢true h)

pub chain_law : (size n : ℕ) (m : Chain) → (is_chain size n m ≡ true) ↔ IsChain size n m
unfolding is_chain factor_of mode_of
chain_law size n m = (λ e. to (six (eqb (length m.factor) size) (eqb (length m.mode) size) (leb m.count size) _ _ _ e), from)
  where
    to : (eqb (length m.factor) size ≡ true) × (eqb (length m.mode) size ≡ true) × (leb m.count size ≡ true) × (all_placed size n m.count m.factor ≡ true)
        × (all_named n m.count m.factor ≡ true) × (all_known size m.count m.mode ≡ true) → IsChain size n m
    to (a, b, c, d, e, f) =
        let factors : length m.factor ≡ size = eqb-true (length m.factor) size a in
        let modes : length m.mode ≡ size = eqb-true (length m.mode) size b in
        let entry : (x : ℕ) → Entry n m.count x (get_or m.factor x no_factor) = λ x. at_entry factors x (dec_lt x size) in
        let mode : (i : ℕ) → Mode m.count i (get_or m.mode i 0) = λ i. at_mode modes i (dec_lt i size) in
        record {
          factors = factors;
          modes = modes;
          few = leb-true m.count size c;
          placed = λ x l. (entry x).named l;
          others = λ x l. (entry x).other l;
          named = (named_law n m.count m.factor).0 e;
          known = λ i l. (mode i).known l;
          rest = λ i l. (mode i).rest l;
        }
      where
        at_entry : length m.factor ≡ size → (x : ℕ) → Dec (x < size) → Entry n m.count x (get_or m.factor x no_factor)
        at_entry q x (yes l) = (placed_law size n m.count m.factor).0 d x l
        at_entry q x (no l) =
            let z : get_or m.factor x no_factor ≡ no_factor = get_or-eq_default m.factor no_factor (omega arith) in
            record { named = λ p. inl z; other = λ p. z }

        at_mode : length m.mode ≡ size → (i : ℕ) → Dec (i < size) → Mode m.count i (get_or m.mode i 0)
        at_mode q i (yes l) = (known_law size m.count m.mode).0 f i l
        at_mode q i (no l) =
            let z : get_or m.mode i 0 ≡ 0 = get_or-eq_default m.mode 0 (omega arith) in
            record { known = λ p. omega arith; rest = λ p. z }

    from : IsChain size n m → is_chain size n m ≡ true
    from c = rw (
      eq-eqb (length m.factor) size c.factors,
      eq-eqb (length m.mode) size c.modes,
      le-leb m.count size c.few,
      (placed_law size n m.count m.factor).1 (λ x l. record { named = c.placed x; other = c.others x }),
      (named_law n m.count m.factor).1 c.named,
      (known_law size m.count m.mode).1 (λ i l. record { known = c.known i; rest = c.rest i }),
    )
