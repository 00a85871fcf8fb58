-- Laws of rows: a row that was put, a set name by name, and rows joined one after the other.
-- Assumes nothing.
use Prim.Native.Nat.{ℕ, ◌+◌, ◌≤◌, ◌<◌}
use lib.ListN.{length, get_or, set, length-set}
use Rattle.std.proofs.lemmas.List.{ext_get_or, get_or-set_other}
use Rattle.std.proofs.lemmas.Grind.{get_or-set_at}
use mathlib.Core.Path.{◌≡◌, refl, sym, ◌∙◌, ap}
use mathlib.Core.Bool.{Bool, false, ◌&&◌, ◌||◌, or-false, or_assoc, and-true, and-false}
use mathlib.Core.List.{List}
use native.Mathlib.Omega.{arith}
use native.Mathlib.Numerals.{add-one}
use native.Mathlib.Decide.{ℕ_discrete, dec_lt}
use borrow.Author.Tests.{lt-ltb, le-ltb, eq-eqb, ne_eqb}
use lib.Dec.{eqb, ltb}
use Rattle.nameset.specs.Places.{places}
use Rattle.nameset.specs.declared.NameSet.{NameSet}
use Rattle.nameset.specs.Set.{member}
use Rattle.nameset.specs.Rows.{HasRow, row_at, put_row, no_rows}
use Rattle.nameset.specs.Names.{Given, Ended}
use Rattle.nameset.proofs.Laws.{member_empty}
use Rattle.nameset.proofs.Turns.{given_member, given_rest, none_left}
use Rattle.nameset.proofs.Rows.{row_put, row_kept, row_of_none}
use Rattle.chain_levels.specs.Below.{any_below}
use Rattle.chain_levels.proofs.Tests.{refuted}
use Rattle.chain_peel.specs.Sets.{in_rows}
use Rattle.chain_peel.proofs.Rows.{rows_none, rows_first}
use Rattle.chain_rows.specs.Rows.{in_row, Copied, OnlyNames, among_rows}

-- ---- rows

-- a row that was read
pub row_is : (rows : List ℕ) (a : ℕ) (s : NameSet) → s ≡ row_at rows a → (b : ℕ) → member s b ≡ in_row rows a b
unfolding in_row
row_is rows a s e b = ap (λ (t : NameSet). member t b) e

-- The first a rows are the same.
pub record Alike (old new : List ℕ) (a : ℕ) : Type 0 where
  pub size : length new ≡ places
  pub law : (k : ℕ) → k < a → get_or new k 0 ≡ get_or old k 0

pub alike_none : (old new : List ℕ) → length new ≡ places → Alike old new 0
alike_none old new h = record { size = h; law = λ k l. absurd (omega arith) }

pub alike_more : (old new : List ℕ) (a : ℕ) → Alike old new a → a < places → Alike old (set new a (get_or old a 0)) (a + 1)
alike_more old new a r h = record { size = simp length-set r.size; law = λ k l. at k l (ℕ_discrete k a) }
  where
    at : (k : ℕ) → k < a + 1 → Dec (k ≡ a) → get_or (set new a (get_or old a 0)) k 0 ≡ get_or old k 0
    at k l (yes e) = get_or-set_at new a k (get_or old a 0) 0 e (omega (arith, r.size)) ∙ ap (λ (j : ℕ). get_or old j 0) (sym e)
    at k l (no d) = get_or-set_other new a k (get_or old a 0) 0 d ∙ r.law k (omega arith)

pub alike_all : (old new : List ℕ) (a : ℕ) → length old ≡ places → Alike old new a → places ≤ a → Copied old new
alike_all old new a o r h = record { size = r.size; law = λ i b. ap (λ (rows : List ℕ). in_row rows i b) same }
  where
    same : new ≡ old
    same = ext_get_or 0 new old (r.size ∙ sym o) (λ k l. r.law k (omega (arith, r.size)))

pub put_same : (rows : List ℕ) (i : ℕ) (s : NameSet) (b : ℕ) → HasRow rows i → in_row (put_row rows i s) i b ≡ member s b
unfolding in_row
put_same rows i s b h = ap (λ (t : NameSet). member t b) (row_put rows i s h)

pub put_other : (rows : List ℕ) (i a : ℕ) (s : NameSet) (b : ℕ) → (a ≡ i → ⊥) → in_row (put_row rows i s) a b ≡ in_row rows a b
unfolding in_row
put_other rows i a s b d = ap (λ (t : NameSet). member t b) (row_kept rows i a s d)

pub none_related : (a b : ℕ) → in_row (no_rows places) a b ≡ false
unfolding in_row
none_related a b = ap (λ (t : NameSet). member t b) (row_of_none places a) ∙ member_empty b

-- a row from n on is empty
pub past : {n : ℕ} {rows : List ℕ} → OnlyNames n rows → (a b : ℕ) → n ≤ a → in_row rows a b ≡ false
past {n} {rows} o a b h = refuted (in_row rows a b) (λ e. omega (arith, (o.below a b e).0))

-- ---- a set, name by name

below_next : (a i : ℕ) → (a ≡ i → ⊥) → ltb a (i + 1) ≡ ltb a i
below_next a i h = go (dec_lt a i)
  where
    go : Dec (a < i) → ltb a (i + 1) ≡ ltb a i
    go (yes l) = lt-ltb a (i + 1) (omega arith) ∙ sym (lt-ltb a i l)
    go (no l) = le-ltb a (i + 1) (omega arith) ∙ sym (le-ltb a i (omega arith))

-- s has the names below i that pass the test.
pub record Picked (s : NameSet) (test : ℕ → Bool) (i : ℕ) : Type 0 where
  pub law : (j : ℕ) → member s j ≡ (ltb j i && test j)

pub pick_none : (s : NameSet) (test : ℕ → Bool) → ((j : ℕ) → member s j ≡ false) → Picked s test 0
pick_none s test h = record { law = λ j. h j ∙ sym (rw (le-ltb j 0 (omega arith))) }

pub pick_more : {s : NameSet} {test : ℕ → Bool} {i : ℕ} → Picked s test i → (r : NameSet) (more : Bool) → more ≡ test i →
    ((j : ℕ) → member r j ≡ (member s j || (more && eqb i j))) → Picked r test (i + 1)
pick_more {s} {test} {i} p r more e law = record { law = λ j. law j ∙ at j (ℕ_discrete j i) }
  where
    none : member s i ≡ false
    none = p.law i ∙ rw (le-ltb i i (omega arith))

    at : (j : ℕ) → Dec (j ≡ i) → (member s j || (more && eqb i j)) ≡ (ltb j (i + 1) && test j)
    at j (yes q) = rw (q, none, lt-ltb i (i + 1) (omega arith), eq-eqb i i refl, e) (and-true (test i))
    at j (no q) =
        let z : eqb i j ≡ false = ne_eqb i j (λ u. q (sym u)) in
        rw (z, and-false more) (or-false (member s j)) ∙ p.law j ∙ rw (below_next j i q)

pub pick_all : {s : NameSet} {test : ℕ → Bool} {i : ℕ} → Picked s test i → (n : ℕ) → n ≤ i → ((j : ℕ) → n ≤ j → test j ≡ false) → (j : ℕ) → member s j ≡ test j
pick_all {s} {test} {i} p n h rest j = p.law j ∙ at (dec_lt j i)
  where
    at : Dec (j < i) → (ltb j i && test j) ≡ test j
    at (yes l) = rw (lt-ltb j i l)
    at (no l) = rw (rest j (omega arith)) (and-false (ltb j i))

-- ---- rows joined one after the other

-- s has the rows of the names of the set that are not left
pub record Joined (rows : List ℕ) (set left s : NameSet) : Type 0 where
  pub law : (b : ℕ) → in_rows places (in_row rows) (member set) b ≡ (member s b || in_rows places (in_row rows) (member left) b)

pub join_start : (rows : List ℕ) (set s : NameSet) → ((j : ℕ) → member s j ≡ false) → Joined rows set set s
join_start rows set s none = record { law = λ b. sym (rw (none b)) }

pub join_more : {rows : List ℕ} {set left s : NameSet} → Joined rows set left s → {a : ℕ} {others : NameSet} → Given left a others →
    {row r : NameSet} → row ≡ row_at rows a → ((j : ℕ) → member r j ≡ (member s j || member row j)) → Joined rows set others r
join_more {rows} {set} {left} {s} p {a} {others} g {row} {r} q law = record { law = at }
  where
    at : (b : ℕ) → in_rows places (in_row rows) (member set) b ≡ (member r b || in_rows places (in_row rows) (member others) b)
    at b =
        let m = given_member g in
        p.law b
        ∙ ap (λ (x : Bool). member s b || x) (rows_first places (in_row rows) (member left) (member others) a b m.0 m.1 (given_rest g))
        ∙ sym (or_assoc (member s b) (in_row rows a b) (in_rows places (in_row rows) (member others) b))
        ∙ ap (λ (x : Bool). x || in_rows places (in_row rows) (member others) b) (ap (λ (x : Bool). member s b || x) (sym (row_is rows a row q b)) ∙ sym (law b))

pub join_all : {rows : List ℕ} {set left s t : NameSet} → Joined rows set left s → Ended left t → (b : ℕ) → member s b ≡ in_rows places (in_row rows) (member set) b
join_all {rows} {set} {left} {s} p e b = sym (p.law b ∙ ap (λ (x : Bool). member s b || x) (rows_none places (in_row rows) (member left) b (none_left e)) ∙ or-false (member s b))

pub among_none : (rows : List ℕ) (b : ℕ) (x : Bool) → x ≡ (x || among_rows 0 rows b)
unfolding among_rows any_below
among_none rows b x = sym (or-false x)

pub among_more : (rows : List ℕ) (s r q : NameSet) (a b : ℕ) (x : Bool) → member s b ≡ (x || among_rows a rows b) → q ≡ row_at rows a →
    member r b ≡ (member s b || member q b) → member r b ≡ (x || among_rows (a + 1) rows b)
unfolding among_rows any_below
among_more rows s r q a b x e f law = law ∙ rw (add-one a, e, row_is rows a q f b) (or_assoc x (any_below a (λ k. in_row rows k b)) (in_row rows a b))
