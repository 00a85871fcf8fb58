-- Factors appended one after the other: a set as one factor, and each loop group by its smallest number.
-- Assumes nothing.
use Prim.Native.Nat.{ℕ, zero, suc, ◌+◌, ◌-◌, ◌≤◌, ◌<◌}
use mathlib.Core.Path.{◌≡◌, refl, sym, ◌∙◌, ap, ap₂, fun_ext}
use mathlib.Core.Bool.{Bool, true, false, cond, ◌&&◌, not, and-true, and-false}
use mathlib.Core.List.{List}
use native.Mathlib.Omega.{arith}
use native.Mathlib.Decide.{ℕ_discrete, dec_le}
use borrow.Author.Tests.{eq-eqb, ne_eqb, le-leb, lt-leb, leb-true}
use lib.Dec.{eqb, leb}
use Rattle.nameset.specs.Places.{places}
use Rattle.nameset.specs.declared.NameSet.{NameSet}
use Rattle.nameset.specs.Set.{member, first}
use Rattle.nameset.specs.Promise.{Emptiness}
use Rattle.nameset.specs.Names.{Given, Ended}
use Rattle.nameset.proofs.Turns.{given_member, given_rest, given_least, none_left}
use Rattle.model.specs.declared.Chain.{Chain}
use Rattle.model.specs.Build.{with_factor}
use Rattle.chain_levels.specs.Below.{any_below, count_below}
use Rattle.chain_levels.specs.Chain.{factors, singles_mode, group_mode, with_any, with_each, with_both}
use Rattle.chain_levels.proofs.Tests.{and_is}
use Rattle.chain_levels.proofs.Below.{count_more}
use Rattle.chain_peel.proofs.Counting.{any_count, each_count}
use Rattle.chain_groups.specs.Groups.{group_in, holds_in}
use Rattle.chain_factors.proofs.Sets.{some_empty, some_full}

-- ---- a set as one factor

pub any_none : (m : Chain) (names : NameSet) (mode : ℕ) (r : Bool) → Emptiness names r → r ≡ true → m ≡ with_any places (member names) mode m
unfolding with_any
any_none m names mode r e q = rw (some_empty names r e q)

pub any_some : (m n : Chain) (names : NameSet) (mode : ℕ) (r : Bool) → Emptiness names r → r ≡ false → n ≡ with_factor m (member names) mode → n ≡ with_any places (member names) mode m
unfolding with_any
any_some m n names mode r e q h = rw (some_full names r e q) h

pub any_room : (names : NameSet) (count : ℕ) (r : Bool) → Emptiness names r → r ≡ false → count + cond (any_below places (member names)) 1 0 ≤ places → count < places
any_room names count r e q h = let k : count + 1 ≤ places = (rw (some_full names r e q) at h) in omega arith

-- ---- each group

-- numbers that do not pass add nothing
pub each_pass : (test : ℕ → Bool) (holds : ℕ → ℕ → Bool) (mode k j : ℕ) (m : Chain) → ((x : ℕ) → k ≤ x → x < k + j → test x ≡ false) →
    with_each test holds mode (k + j) m ≡ with_each test holds mode k m
unfolding with_each
each_pass test holds mode k zero m h = let e : k + 0 ≡ k = omega arith in rw e
each_pass test holds mode k (suc j) m h =
    let e : k + suc j ≡ suc (k + j) = omega arith in
    let q : test (k + j) ≡ false = h (k + j) (omega arith) (omega arith) in
    rw (e, q) (each_pass test holds mode k j m (λ x a b. h x a (omega arith)))

pub each_upto : (test : ℕ → Bool) (holds : ℕ → ℕ → Bool) (mode k i : ℕ) (m : Chain) → k ≤ i → ((x : ℕ) → k ≤ x → x < i → test x ≡ false) →
    with_each test holds mode i m ≡ with_each test holds mode k m
each_upto test holds mode k i m l h =
    let e : i ≡ k + (i - k) = omega arith in
    ap (λ (j : ℕ). with_each test holds mode j m) e ∙ each_pass test holds mode k (i - k) m (λ x a b. h x a (omega arith))

next_each : (test : ℕ → Bool) (holds : ℕ → ℕ → Bool) (mode k : ℕ) (m : Chain) → test k ≡ true → with_each test holds mode (suc k) m ≡ with_factor (with_each test holds mode k m) (holds k) mode
unfolding with_each
next_each test holds mode k m e = rw e

-- Those of the leaders below `upto` have their factor in `out`; the others are left.
pub record Appended (leaders left : NameSet) (holds : ℕ → ℕ → Bool) (mode : ℕ) (m out : Chain) : Type 0 where
  pub upto : ℕ
  pub few : upto ≤ places
  pub same : out ≡ with_each (member leaders) holds mode upto m
  pub rest : (x : ℕ) → member left x ≡ (leb upto x && member leaders x)

pub append_none : (leaders left : NameSet) (holds : ℕ → ℕ → Bool) (mode : ℕ) (m : Chain) → left ≡ leaders → Appended leaders left holds mode m m
unfolding with_each
append_none leaders left holds mode m e = record { upto = 0; few = omega arith; same = refl; rest = λ x. ap (λ (s : NameSet). member s x) e ∙ sym (rw (le-leb 0 x (omega arith))) }

module _ {leaders left : NameSet} {holds : ℕ → ℕ → Bool} {mode : ℕ} {m out : Chain} (a : Appended leaders left holds mode m out) where
  -- a leader that is not left stands below
  absent : (x : ℕ) → a.upto ≤ x → member left x ≡ false → member leaders x ≡ false
  absent x l e = sym (sym e ∙ a.rest x ∙ rw (le-leb a.upto x l))

  module _ {k : ℕ} {others : NameSet} (g : Given left k others) where
    h : k < places
    h = (given_member g).0

    e : member left k ≡ true
    e = (given_member g).1

    least : (j : ℕ) → j < k → member left j ≡ false
    least = given_least g

    there : (a.upto ≤ k) × (member leaders k ≡ true)
    there = let p = (and_is (leb a.upto k) (member leaders k)).0 (sym (a.rest k) ∙ e) in (leb-true a.upto k p.0, p.1)

    at_k : out ≡ with_each (member leaders) holds mode k m
    at_k = a.same ∙ sym (each_upto (member leaders) holds mode a.upto k m there.0 (λ x l i. absent x l (least x i)))

    pub append_room : m.count + count_below places (member leaders) ≤ places → out.count < places
    append_room r =
        omega (
          arith,
          ap (λ (n : Chain). n.count) at_k,
          each_count (member leaders) holds mode k m,
          count_more k places (member leaders) h there.1,
        )

    left_next : (x : ℕ) → Dec (k ≡ x) → Dec (a.upto ≤ x) → (member left x && not (eqb k x)) ≡ (leb (suc k) x && member leaders x)
    left_next x (yes u) d =
        let z : leb (suc k) x ≡ false = lt-leb (suc k) x (omega arith) in
        rw (eq-eqb k x u, z) (and-false (member left x))
    left_next x (no u) (yes d) = rw (ne_eqb k x u) (and-true (member left x) ∙ a.rest x ∙ side (dec_le (suc k) x))
      where
        side : Dec (suc k ≤ x) → (leb a.upto x && member leaders x) ≡ (leb (suc k) x && member leaders x)
        side (yes l) = rw (le-leb a.upto x d, le-leb (suc k) x l)
        side (no l) = let z : member leaders x ≡ false = absent x d (least x (omega arith)) in rw z (and-false (leb a.upto x) ∙ sym (and-false (leb (suc k) x)))
    left_next x (no u) (no d) =
        let z : leb (suc k) x ≡ false = lt-leb (suc k) x (omega (arith, there.0)) in
        let y : leb a.upto x ≡ false = lt-leb a.upto x (omega arith) in
        let w : member left x ≡ false = a.rest x ∙ rw y in
        rw (w, z)

    pub append_more : (next : Chain) → next ≡ with_factor out (holds k) mode → Appended leaders others holds mode m next
    append_more next n =
        record {
          upto = suc k;
          few = h;
          same = n ∙ step;
          rest = λ x. given_rest g x ∙ left_next x (ℕ_discrete k x) (dec_le a.upto x);
        }
      where
        step : with_factor out (holds k) mode ≡ with_each (member leaders) holds mode (suc k) m
        step = ap (λ (o : Chain). with_factor o (holds k) mode) at_k ∙ sym (next_each (member leaders) holds mode k m there.1)

  pub append_all : {t : NameSet} → Ended left t → out ≡ with_each (member leaders) holds mode places m
  append_all e = a.same ∙ sym (each_upto (member leaders) holds mode a.upto places m a.few (λ x l i. absent x l (none_left e x)))

pub holds_group : (reach behind : List ℕ) (k : ℕ) (g : NameSet) (m n : Chain) (mode : ℕ) → g ≡ group_in reach behind k → n ≡ with_factor m (member g) mode → n ≡ with_factor m (holds_in reach behind k) mode
unfolding holds_in
holds_group reach behind k g m n mode e h =
    h ∙ ap (λ (p : ℕ → Bool). with_factor m p mode) (fun_ext (λ b. ap (λ (s : NameSet). member s b) e))

-- ---- one level

pub level_any : (count : ℕ) (singles leaders : NameSet) → count + factors places (member singles) (member leaders) ≤ places → count + cond (any_below places (member singles)) 1 0 ≤ places
unfolding factors
level_any count singles leaders h = omega arith

pub level_groups : (m first : Chain) (singles leaders : NameSet) (mode : ℕ) → first ≡ with_any places (member singles) mode m → m.count + factors places (member singles) (member leaders) ≤ places →
    first.count + count_below places (member leaders) ≤ places
unfolding factors
level_groups m first singles leaders mode e h = omega (arith, ap (λ (o : Chain). o.count) e, any_count places (member singles) mode m)

pub level_both : (m first out : Chain) (singles leaders : NameSet) (holds : ℕ → ℕ → Bool) (skipped fixed : Bool) (plain group : ℕ) →
    fixed ≡ (not skipped && eqb (factors places (member singles) (member leaders)) 1) → plain ≡ cond fixed 0 1 → group ≡ cond fixed 2 3 →
    first ≡ with_any places (member singles) plain m → out ≡ with_each (member leaders) holds group places first →
    out ≡ with_both places (not skipped && eqb (factors places (member singles) (member leaders)) 1) (member singles) (member leaders) holds m
unfolding with_both singles_mode group_mode
level_both m first out singles leaders holds skipped fixed plain group z c d e f =
    f
    ∙ ap₂ (λ (g : ℕ) (o : Chain). with_each (member leaders) holds g places o) d (e ∙ ap (λ (p : ℕ). with_any places (member singles) p m) c)
    ∙ ap (λ (x : Bool). with_each (member leaders) holds (cond {A = ℕ} x 2 3) places (with_any places (member singles) (cond {A = ℕ} x 0 1) m)) z
