-- The entries of the names of a factor, set one after the other.
-- Assumes nothing.
use Prim.Native.Nat.{ℕ, zero, suc, ◌+◌, ◌<◌}
use mathlib.Core.Path.{◌≡◌, refl, sym, ◌∙◌, ap}
use mathlib.Core.Bool.{Bool, true, false, cond, ◌&&◌, not}
use mathlib.Core.List.{List, [], ◌∷◌}
use native.Mathlib.Omega.{arith}
use native.Mathlib.Decide.{ℕ_discrete}
use native.Mathlib.Nat.{add-zero, add-suc, suc-add, zero-add}
use borrow.Author.Tests.{eq-eqb, ne_eqb}
use lib.Dec.{eqb}
use lib.ListN.{length, get_or, set, length-set}
use lib.Seq.{get_or-set_same, get_or-set_other, ext_get_or}
use Rattle.nameset.specs.Places.{places}
use Rattle.nameset.specs.Set.{member, first}
use Rattle.nameset.specs.declared.NameSet.{NameSet}
use Rattle.nameset.specs.Names.{Given, Ended}
use Rattle.model.specs.declared.Chain.{Chain}
use Rattle.model.specs.Record.{no_factor}
use Rattle.model.specs.Build.{entries_with, with_factor}
use Rattle.nameset.proofs.Tests.{and_left}
use Rattle.nameset.proofs.Laws.{is_empty_none}

-- ---- `entries_with`, entry by entry

pub entries_length : (holds : ℕ → Bool) (v x : ℕ) (es : List ℕ) → length (entries_with holds v x es) ≡ length es
unfolding entries_with
entries_length holds v x [] = refl
entries_length holds v x (e ∷ es) = ap suc (entries_length holds v (suc x) es)

entries_from : (holds : ℕ → Bool) (v x : ℕ) (es : List ℕ) (j d : ℕ) → j < length es → get_or (entries_with holds v x es) j d ≡ cond (holds (x + j)) v (get_or es j d)
unfolding entries_with
entries_from holds v x [] j d h = absurd (omega arith)
entries_from holds v x (e ∷ es) zero d h = rw (add-zero x)
entries_from holds v x (e ∷ es) (suc j) d h = entries_from holds v (suc x) es j d (omega arith) ∙ rw (suc-add x j, add-suc x j)

pub entries_at : (holds : ℕ → Bool) (v : ℕ) (es : List ℕ) (j d : ℕ) → j < length es → get_or (entries_with holds v 0 es) j d ≡ cond (holds j) v (get_or es j d)
entries_at holds v es j d h = entries_from holds v 0 es j d h ∙ rw (zero-add j)

-- ---- name after name

-- Those of the names that are not left have the entry v; `old` are the entries before.
pub record Entered (names left : NameSet) (v : ℕ) (old new : List ℕ) : Type 0 where
  pub before : length old ≡ places
  pub size : length new ≡ places
  pub within : (j : ℕ) → member left j ≡ true → member names j ≡ true
  pub entry : (j : ℕ) → j < places → get_or new j no_factor ≡ cond (member names j && not (member left j)) v (get_or old j no_factor)

none_entered : (b : Bool) (v e : ℕ) → e ≡ cond (b && not b) v e
none_entered true v e = refl
none_entered false v e = refl

pub enter_none : (names : NameSet) (v : ℕ) (old : List ℕ) → length old ≡ places → Entered names names v old old
enter_none names v old h = record { before = h; size = h; within = λ j e. e; entry = λ j l. none_entered (member names j) v (get_or old j no_factor) }

same_entry : (a b t : Bool) (v e : ℕ) → t ≡ false → cond (a && not b) v e ≡ cond (a && not (b && not t)) v e
same_entry a true t v e h = rw h
same_entry a false t v e h = refl

-- A turn gives the name x, and `rest` has those that are still to come.
pub enter_more : {names left : NameSet} {v : ℕ} {old new : List ℕ} → Entered names left v old new → {x : ℕ} {rest : NameSet} → Given left x rest → Entered names rest v old (set new x v)
enter_more {names} {left} {v} {old} {new} r {x} {rest} g =
    record {
      before = r.before;
      size = length-set new x v ∙ r.size;
      within = λ j q. r.within j (and_left (member left j) (not (eqb (first left) j)) (sym (g.others.members j) ∙ q));
      entry = λ j l. at j l (ℕ_discrete j x);
    }
  where
    found : (x < places) × (member left x ≡ true)
    found = g.least.found g.some

    at : (j : ℕ) → j < places → Dec (j ≡ x) → get_or (set new x v) j no_factor ≡ cond (member names j && not (member rest j)) v (get_or old j no_factor)
    at j l (yes q) =
        let t : eqb (first left) j ≡ true = eq-eqb (first left) j (sym g.least.same ∙ sym q) in
        let n : member names j ≡ true = rw q (r.within x found.1) in
        let k : member left j ≡ true = rw q found.1 in
        let s : get_or (set new x v) j no_factor ≡ v = rw q (get_or-set_same new x v no_factor (rw r.size found.0)) in
        rw (g.others.members j, n, k, t) s
    at j l (no q) =
        let t : eqb (first left) j ≡ false = ne_eqb (first left) j (λ u. q (sym u ∙ sym g.least.same)) in
        get_or-set_other new x j v no_factor q ∙ r.entry j l ∙ same_entry (member names j) (member left j) (eqb (first left) j) v (get_or old j no_factor) t
        ∙ ap (λ (b : Bool). cond (member names j && not b) v (get_or old j no_factor)) (sym (g.others.members j))

all_entered : (a b : Bool) (v e : ℕ) → b ≡ false → cond (a && not b) v e ≡ cond a v e
all_entered true b v e h = rw h
all_entered false b v e h = refl

pub enter_all : {names left after : NameSet} {v : ℕ} {old new : List ℕ} → Entered names left v old new → Ended left after → new ≡ entries_with (member names) v 0 old
enter_all {names} {left} {after} {v} {old} {new} r h =
    ext_get_or no_factor new (entries_with (member names) v 0 old) (r.size ∙ sym r.before ∙ sym (entries_length (member names) v 0 old))
    (λ j l. r.entry j (rw r.size at l) ∙ all_entered (member names j) (member left j) v (get_or old j no_factor) (is_empty_none left h.none j) ∙ sym (entries_at (member names) v old j no_factor (rw r.before (rw r.size at l))))

-- ---- the record

pub built : (m : Chain) (names : NameSet) (count : ℕ) (mode : ℕ) (factor : List ℕ) → count ≡ m.count → factor ≡ entries_with (member names) count 0 m.factor →
    ◌≡◌ {A = Chain} (record { count = count + 1; factor = factor; mode = set m.mode count mode }) (with_factor m (member names) mode)
unfolding with_factor
built m names count mode factor e q = rw (q, e)
