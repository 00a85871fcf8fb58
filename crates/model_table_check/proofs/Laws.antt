-- The check of a table passes exactly where each of its records is a model, and fails exactly where one is not.
-- Assumes nothing.
use Prim.Native.Nat.{ℕ, zero, suc, ◌+◌, ◌≤◌, ◌<◌}
use mathlib.Core.Path.{◌≡◌, refl, sym, ◌∙◌}
use mathlib.Core.Bool.{Bool, true, false, false≢true}
use mathlib.Core.List.{List}
use mathlib.Core.Logic.{◌↔◌}
use native.Mathlib.Omega.{arith}
use native.Mathlib.Numerals.{add-one}
use Rattle.nameset.specs.Places.{places}
use Rattle.nameset.specs.Tests.{every_below}
use Rattle.nameset.proofs.Tests.{all_law}
use Rattle.model.specs.declared.Model.{Model}
use Rattle.model.specs.Record.{IsModel}
use Rattle.model.proofs.ModelLaw.{model_law}
use Rattle.std.proofs.Common.{Some, None}
use Rattle.model_table.specs.Table.{Entry, entry_of}
use Rattle.model_table_check.specs.Check.{BadRecord, Models, good_entry, all_models}

good_has : (n : ℕ) (e : Entry) → good_entry n e ≡ true → (m : Model) → e ≡ Some m → IsModel places n m
unfolding good_entry
good_has n e h m q = (model_law places n m).0 (rw q at h)

has_good : (n : ℕ) (e : Entry) → ((m : Model) → e ≡ Some m → IsModel places n m) → good_entry n e ≡ true
unfolding good_entry
has_good n None h = refl
has_good n (Some m) h = (model_law places n m).1 (h m refl)

pub models_law : (n : ℕ) (table : List ℕ) → (all_models n table ≡ true) ↔ Models n table
unfolding all_models
models_law n table =
    let law = all_law n (λ x. good_entry n (entry_of table x)) in
    (λ e x l. good_has n (entry_of table x) (law.0 e x l), λ h. law.1 (λ x l. has_good n (entry_of table x) (h x l)))

-- a test that does not hold below n fails at some number
fails_at : (n : ℕ) (test : ℕ → Bool) → every_below n test ≡ false → (x : ℕ) × (x < n) × (test x ≡ false)
unfolding every_below
fails_at zero test e = absurd (false≢true (sym e))
fails_at (suc n) test e = by (every_below n test) refl (λ h. let (x, l, f) = fails_at n test h in (x, omega arith, f))
  where
    by : (b : Bool) → every_below n test ≡ b → (every_below n test ≡ false → (x : ℕ) × (x < suc n) × (test x ≡ false)) →
        (x : ℕ) × (x < suc n) × (test x ≡ false)
    by true q ih = (n, omega arith, rw q at e)
    by false q ih = ih q

bad_has : (n : ℕ) (e : Entry) → good_entry n e ≡ false → (m : Model) × (e ≡ Some m) × (¬ IsModel places n m)
unfolding good_entry
bad_has n None h = absurd (false≢true (sym h))
bad_has n (Some m) h = (m, refl, λ i. false≢true (sym h ∙ (model_law places n m).1 i))

bad_record : (n : ℕ) (table : List ℕ) → all_models n table ≡ false → BadRecord n table
unfolding all_models
bad_record n table h = let (x, l, f) = fails_at n (λ x. good_entry n (entry_of table x)) h in (x, l, bad_has n (entry_of table x) f)

pub bad_law : (n : ℕ) (table : List ℕ) → (all_models n table ≡ false) ↔ BadRecord n table
bad_law n table = (bad_record n table, λ (x, l, (m, e, i)). by (all_models n table) refl (λ h. i ((models_law n table).0 h x l m e)))
  where
    by : (b : Bool) → all_models n table ≡ b → ¬ (all_models n table ≡ true) → all_models n table ≡ false
    by true q h = absurd (h q)
    by false q h = q

-- ---- the check, as a loop meets it

module _ (n : ℕ) (table : List ℕ) where
  -- whether the record of the name x passes
  abbrev pub good : ℕ → Bool
  good x = good_entry n (entry_of table x)

  pub models_start : every_below 0 good ≡ true
  unfolding every_below
  models_start = refl

  pub models_more : (x : ℕ) → every_below x good ≡ true → {r : Bool} → r ≡ good x → r ≡ true → every_below (x + 1) good ≡ true
  unfolding every_below
  models_more x h {r} e t = rw (add-one x, h, ← e, t)

  pub models_fail : (x : ℕ) → x < n → {r : Bool} → r ≡ good x → r ≡ false → false ≡ all_models n table
  unfolding all_models
  models_fail x l {r} e t = by (every_below n good) refl
    where
      by : (b : Bool) → every_below n good ≡ b → false ≡ every_below n good
      by true q = absurd (false≢true (sym t ∙ e ∙ (all_law n good).0 q x l))
      by false q = sym q

  pub models_done : (x : ℕ) → n ≤ x → every_below x good ≡ true → true ≡ all_models n table
  unfolding all_models
  models_done x l h = sym ((all_law n good).1 (λ k d. (all_law x good).0 h k (omega arith)))
