-- Whether each factor has a name: each looked for by itself, and gathered in a set.
-- Assumes nothing.
use Prim.Native.Nat.{ℕ, ◌+◌, ◌-◌, ◌%◌, ◌≤◌, ◌<◌, min}
use mathlib.Core.Path.{◌≡◌, sym, ◌∙◌, ap, ap₂}
use mathlib.Core.Bool.{Bool, true, false, ◌||◌, false≢true}
use mathlib.Core.List.{List}
use mathlib.Core.Logic.{◌⊎◌, inl, inr}
use native.Mathlib.Omega.{arith}
use native.Mathlib.Numerals.{add-one}
use native.Mathlib.Decide.{dec_lt}
use borrow.Author.Tests.{eqb-true, eq-eqb, ne_eqb, ltb-true, lt-ltb, le-ltb}
use lib.Dec.{eqb, ltb}
use lib.ListN.{length, get_or, get_or-eq_default}
use Rattle.nameset.specs.Places.{places}
use Rattle.model.specs.Record.{no_factor}
use Rattle.nameset.specs.Tests.{every_below, any_below}
use Rattle.model.specs.Check.{may_hold, all_placed, all_named}
use Rattle.nameset.proofs.Tests.{both, or_split, or_right, same_test, all_law, any_law, any_more, all_same}
use Rattle.model.proofs.ChainLaw.{placed_law, name_law}

-- Whether factor i holds the name x.
abbrev pub holds : List ℕ → ℕ → ℕ → Bool
holds factor i x = eqb (get_or factor x no_factor) i

-- Whether factor i holds one of the n names.
abbrev pub named : ℕ → List ℕ → ℕ → Bool
named n factor i = any_below n (holds factor i)

-- ---- the names that are looked at

-- A number past the row's end is in no factor.
in_row : (factor : List ℕ) (i x : ℕ) → i < no_factor → get_or factor x no_factor ≡ i → x < length factor
in_row factor i x h e = go (dec_lt x (length factor))
  where
    go : Dec (x < length factor) → x < length factor
    go (yes b) = b
    go (no b) = absurd (omega (arith, get_or-eq_default factor no_factor {n = x} (omega arith)))

pub named_within : (n : ℕ) (factor : List ℕ) (i : ℕ) → i < no_factor → named (min n (length factor)) factor i ≡ named n factor i
named_within n factor i h =
    same_test (named (min n (length factor)) factor i) (named n factor i)
    (λ e. let r = (name_law (min n (length factor)) factor i).0 e in (name_law n factor i).1 (r.0, omega (arith, r.1), r.2))
    (λ e. let r = (name_law n factor i).0 e in (name_law (min n (length factor)) factor i).1 (r.0, omega (arith, r.1, in_row factor i r.0 h r.2), r.2))

-- Where all entries are right, it does not matter whether numbers are looked at that are no name's.
pub named_beyond : (n k count : ℕ) (factor : List ℕ) (i : ℕ) → all_placed (length factor) n count factor ≡ true → i < no_factor
    → min n (length factor) ≤ k → named k factor i ≡ named n factor i
named_beyond n k count factor i p h m =
    same_test (named k factor i) (named n factor i)
    (λ e. let r = (name_law k factor i).0 e in (name_law n factor i).1 (r.0, below r.0 r.2 (dec_lt r.0 n), r.2))
    (λ e. let r = (name_law n factor i).0 e in (name_law k factor i).1 (r.0, omega (arith, r.1, in_row factor i r.0 h r.2), r.2))
  where
    below : (x : ℕ) → get_or factor x no_factor ≡ i → Dec (x < n) → x < n
    below x e (yes b) = b
    below x e (no b) = absurd (omega (arith, ((placed_law (length factor) n count factor).0 p x (in_row factor i x h e)).other (omega arith)))

-- Some number below h + k, the first h and the others apart.
pub any_joined : (h k : ℕ) (f : ℕ → Bool) → (any_below h f || any_below k (λ x. f (x + h))) ≡ any_below (h + k) f
any_joined h k f =
    same_test (any_below h f || any_below k (λ x. f (x + h))) (any_below (h + k) f) (λ e. to (or_split (any_below h f) (any_below k (λ x. f (x + h))) e))
    (λ e. let r = (any_law (h + k) f).0 e in from r.0 r.1 r.2 (dec_lt r.0 h))
  where
    to : (any_below h f ≡ true) ⊎ (any_below k (λ x. f (x + h)) ≡ true) → any_below (h + k) f ≡ true
    to (inl e) = let r = (any_law h f).0 e in (any_law (h + k) f).1 (r.0, omega (arith, r.1), r.2)
    to (inr e) = let r = (any_law k (λ x. f (x + h))).0 e in (any_law (h + k) f).1 (r.0 + h, omega (arith, r.1), r.2)

    from : (x : ℕ) → x < h + k → f x ≡ true → Dec (x < h) → (any_below h f || any_below k (λ x. f (x + h))) ≡ true
    from x l e (yes d) = rw ((any_law h f).1 (x, d, e))
    from x l e (no d) =
        let back : x - h + h ≡ x = omega arith in
        or_right (any_below h f) (any_below k (λ x. f (x + h))) ((any_law k (λ x. f (x + h))).1 (x - h, omega arith, ap f back ∙ e))

-- ---- entries in a set

-- By its last six bits, an entry that is a factor or none is a factor below the last only where it is that factor.
pub same_bits : (v i : ℕ) → i + 1 < places → may_hold places true v ≡ true → eqb (v % places) i ≡ eqb v i
unfolding may_hold
same_bits v i l h = go (or_split (eqb v no_factor) (ltb v places) h)
  where
    go : (eqb v no_factor ≡ true) ⊎ (ltb v places ≡ true) → eqb (v % places) i ≡ eqb v i
    go (inl e) = let v-none : v ≡ no_factor = eqb-true v no_factor e in ne_eqb (v % places) i (omega arith) ∙ sym (ne_eqb v i (omega arith))
    go (inr e) = let v-factor : v < places = ltb-true v places e in ap (λ (k : ℕ). eqb k i) (omega arith)

-- Where all entries are right, each is one of the factors that there may be, or none.
pub held_entry : (n count : ℕ) (factor : List ℕ) → count ≤ places → all_placed (length factor) n count factor ≡ true → (x : ℕ) → may_hold places true (get_or factor x no_factor) ≡ true
unfolding may_hold
held_entry n count factor l p x = go (dec_lt x (length factor)) (dec_lt x n)
  where
    v : ℕ
    v = get_or factor x no_factor

    none : v ≡ no_factor → (eqb v no_factor || ltb v places) ≡ true
    none e = rw (eq-eqb v no_factor e)

    some : (v ≡ no_factor) ⊎ (v < count) → (eqb v no_factor || ltb v places) ≡ true
    some (inl e) = none e
    some (inr b) = or_right (eqb v no_factor) (ltb v places) (lt-ltb v places (omega arith))

    go : Dec (x < length factor) → Dec (x < n) → (eqb v no_factor || ltb v places) ≡ true
    go (yes b) (yes d) = some (((placed_law (length factor) n count factor).0 p x b).named d)
    go (yes b) (no d) = none (((placed_law (length factor) n count factor).0 p x b).other (omega arith))
    go (no b) d = none (get_or-eq_default factor no_factor {n = x} (omega arith))

-- Where all entries are right, the set has the factors below the last of x names; `name` says which names these are.
abbrev pub Gathered : ℕ → List ℕ → (ℕ → ℕ) → (ℕ → Bool) → ℕ → Type 0
Gathered n factor name set x =
    (count i : ℕ) → count ≤ places → all_placed (length factor) n count factor ≡ true → i + 1 < places → set i ≡ any_below x (λ k. holds factor i (name k))

-- One name more, by its entry v and the number b of that in a set.
pub gather_more : (n : ℕ) (factor : List ℕ) (name : ℕ → ℕ) (x : ℕ) (set next : ℕ → Bool) {v : ℕ} (b : ℕ) → Gathered n factor name set x
    → v ≡ get_or factor (name x) no_factor → ((i : ℕ) → i + 1 < places → may_hold places true v ≡ true → eqb b i ≡ eqb v i)
    → ((j : ℕ) → next j ≡ (set j || eqb b j)) → Gathered n factor name next (x + 1)
gather_more n factor name x set next {v} b g e same m count i l p h =
    let here : eqb b i ≡ holds factor i (name x) = same i h (ap (may_hold places true) e ∙ held_entry n count factor l p (name x)) ∙ ap (λ (k : ℕ). eqb k i) e in
    m i ∙ ap₂ ◌||◌ (g count i l p h) here ∙ sym (any_more x (λ k. holds factor i (name k)))

-- ---- each factor looked for by itself

module _ (n from count : ℕ) (factor : List ℕ) where
  -- Factor i is among the first `from`, or holds one of the names.
  abbrev pub named_from : ℕ → Bool
  named_from i = ltb i from || named n factor i

  pub each_start : every_below from named_from ≡ true
  each_start = (all_law from named_from).1 (λ i l. rw (lt-ltb i from l))

  pub each_more : (i : ℕ) → every_below i named_from ≡ true → {r : Bool} → r ≡ named n factor i → r ≡ true → every_below (i + 1) named_from ≡ true
  unfolding every_below
  each_more i p {r} q h = rw add-one (both (every_below i named_from) (named_from i) p (or_right (ltb i from) (named n factor i) (sym q ∙ h)))

  pub each_lacks : (i : ℕ) → from ≤ i → i < count → {r : Bool} → r ≡ named n factor i → r ≡ false → false ≡ every_below count named_from
  each_lacks i l k {r} q h =
      same_test false (every_below count named_from) (λ e. absurd (false≢true e))
      (λ e. sym (ap (λ (b : Bool). b || named n factor i) (le-ltb i from l) ∙ sym q ∙ h) ∙ (all_law count named_from).0 e i k)

  pub each_done : (i : ℕ) → count ≤ i → every_below i named_from ≡ true → true ≡ every_below count named_from
  each_done i l p = sym ((all_law count named_from).1 (λ k d. (all_law i named_from).0 p k (omega arith)))

-- ---- all factors

-- All were looked for.
pub all_looked : (n count : ℕ) (factor : List ℕ) {r : Bool} → r ≡ every_below count (named_from n 0 count factor) → r ≡ all_named n count factor
unfolding all_named
all_looked n count factor e =
    e ∙ all_same count (named_from n 0 count factor) (named n factor) (λ i l. ap (λ (b : Bool). b || named n factor i) (le-ltb i 0 (omega arith)))

-- The last factor that a record may have.
abbrev pub last_factor : ℕ
last_factor = 63

-- A set told of the first s factors, as the code finds it, and the others were looked for.
module _ (n count : ℕ) (factor : List ℕ) (l : count ≤ places) {used : ℕ → Bool} (u : (i : ℕ) → i + 1 < places → used i ≡ named n factor i)
    {s : ℕ} (m : s ≡ min count last_factor) {t : Bool} (d : t ≡ every_below s used) where
  told : t ≡ every_below s (named n factor)
  told = d ∙ all_same s used (named n factor) (λ i k. u i (omega arith))

  pub one_unnamed : t ≡ false → t ≡ all_named n count factor
  unfolding all_named
  one_unnamed h =
      h ∙ same_test false (every_below count (named n factor)) (λ e. absurd (false≢true e))
      (λ e. sym h ∙ told ∙ (all_law s (named n factor)).1 (λ i k. (all_law count (named n factor)).0 e i (omega arith)))

  pub by_others : t ≡ true → {r : Bool} → r ≡ every_below count (named_from n s count factor) → r ≡ all_named n count factor
  unfolding all_named
  by_others h q = q ∙ all_same count (named_from n s count factor) (named n factor) (λ i k. at i (dec_lt i s))
    where
      at : (i : ℕ) → Dec (i < s) → named_from n s count factor i ≡ named n factor i
      at i (yes b) = rw (lt-ltb i s b) (sym ((all_law s (named n factor)).0 (sym told ∙ h) i b))
      at i (no b) = ap (λ (z : Bool). z || named n factor i) (le-ltb i s (omega arith))
