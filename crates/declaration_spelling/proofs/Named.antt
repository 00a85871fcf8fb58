-- The names of a declaration: what a test over all of them says, when the book has them, and when one comes twice.
-- Assumes nothing.
use Prim.Native.Nat.{ℕ, suc, ◌+◌, ◌≤◌, ◌<◌}
use mathlib.Core.Path.{◌≡◌, refl, sym, ◌∙◌, ap, subst}
use mathlib.Core.Bool.{Bool, true, false, cond, ◌&&◌, false≢true}
use mathlib.Core.List.Memᴰ
use mathlib.Core.List.{List, [], ◌∷◌, ◌++◌, Memᴰ}
use mathlib.Core.Logic.{◌↔◌, ◌⊎◌, inl, inr}
use native.Mathlib.Omega.{arith}
use lib.Dec.{eqb}
use lib.ListN.{length}
use borrow.Author.Tests.{eqb-true, eq-eqb}
use Rattle.std.specs.Ordering.{is_eq}
use Rattle.name_order.specs.Order.{order_of}
use Rattle.name_order.proofs.Ordering.{same_refl, same_equal}
use Rattle.std.specs.Prelude.{Some, is_some}
use Rattle.book.specs.Access.{number_from, number_in}
use Rattle.declaration_spelling.specs.House.{Factor, name_at}
use Rattle.declaration_spelling.specs.Spelled.{times}
use Rattle.declaration_spelling.specs.Stops.{Form, model_names, form_names, Twice}
use Rattle.declaration_spelling.specs.Read.{known, number_for}
use Rattle.declaration_spelling.proofs.Record.{numbers_for, numbered, all_names, all_factors, all_form, total}
use Rattle.declaration_spelling.proofs.Tests.{and_is}
use Rattle.declaration_spelling.proofs.Names.{is_same_lem, number_is}

-- ---- a test over all names

and_assoc : (a b c : Bool) → ((a && b) && c) ≡ (a && (b && c))
and_assoc true b c = refl
and_assoc false b c = refl

names_append : (test : List ℕ → Bool) (xs ys : List (List ℕ)) → all_names test (xs ++ ys) ≡ (all_names test xs && all_names test ys)
unfolding all_names
names_append test [] ys = refl
names_append test (x ∷ xs) ys = ap (λ (b : Bool). test x && b) (names_append test xs ys) ∙ sym (and_assoc (test x) (all_names test xs) (all_names test ys))

factors_names : (test : List ℕ → Bool) (fs : List (Factor (List ℕ))) → all_factors test fs ≡ all_names test (model_names fs)
unfolding all_factors model_names all_names
factors_names test [] = refl
factors_names test (f ∷ fs) = ap (λ (b : Bool). all_names test f.names && b) (factors_names test fs) ∙ sym (names_append test f.names (model_names fs))

form_names_lem : (test : List ℕ → Bool) (d : Form) → all_form test d ≡ all_names test (form_names d)
unfolding all_form form_names all_names
form_names_lem test d = ap (λ (b : Bool). test d.parent && b) (factors_names test d.factors)

all_in : (test : List ℕ → Bool) (xs : List (List ℕ)) → (all_names test xs ≡ true) ↔ ((x : List ℕ) → Memᴰ x xs → test x ≡ true)
unfolding all_names
all_in test [] = (λ e x m. absurd (Memᴰ.not-nil m), λ h. refl)
all_in test (y ∷ ys) = (
  λ e x m. let p = (and_is (test y) (all_names test ys)).0 e in go x p (all_in test ys).0 (Memᴰ.cases_cons m),
  λ h. (and_is (test y) (all_names test ys)).1 (h y (Memᴰ.head refl), (all_in test ys).1 (λ x m. h x (Memᴰ.tail m))),
)
  where
    go : (x : List ℕ) → (test y ≡ true) × (all_names test ys ≡ true) → (all_names test ys ≡ true → (x : List ℕ) → Memᴰ x ys → test x ≡ true) → (x ≡ y) ⊎ Memᴰ x ys → test x ≡ true
    go x p ih (inl q) = ap test q ∙ p.0
    go x p ih (inr m) = ih p.1 x m

some_in : (test : List ℕ → Bool) (xs : List (List ℕ)) → all_names test xs ≡ false → (x : List ℕ) × Memᴰ x xs × (test x ≡ false)
unfolding all_names
some_in test [] e = absurd (false≢true (sym e))
some_in test (y ∷ ys) e = go (test y) refl e (some_in test ys)
  where
    go : (b : Bool) → test y ≡ b → (b && all_names test ys) ≡ false → (all_names test ys ≡ false → (x : List ℕ) × Memᴰ x ys × (test x ≡ false)) → (x : List ℕ) × Memᴰ x (y ∷ ys) × (test x ≡ false)
    go true q f ih = let r = ih f in (r.0, Memᴰ.tail r.1, r.2)
    go false q f ih = (y, Memᴰ.head refl, q)

both_ways : (b : Bool) → b ≡ true → b ≡ false → ⊥
both_ways b p q = false≢true (sym q ∙ p)

refuted : (b : Bool) → (b ≡ true → ⊥) → b ≡ false
refuted true h = absurd (h refl)
refuted false h = refl

-- every name passes the test
pub all_law : (test : List ℕ → Bool) (d : Form) → (all_form test d ≡ true) ↔ ((x : List ℕ) → Memᴰ x (form_names d) → test x ≡ true)
all_law test d = (λ e. (all_in test (form_names d)).0 (sym (form_names_lem test d) ∙ e), λ h. form_names_lem test d ∙ (all_in test (form_names d)).1 h)

-- some name does not
pub some_law : (test : List ℕ → Bool) (d : Form) → (all_form test d ≡ false) ↔ ((x : List ℕ) × Memᴰ x (form_names d) × (test x ≡ false))
some_law test d = (
  λ e. some_in test (form_names d) (sym (form_names_lem test d) ∙ e),
  λ (x, m, q). refuted (all_form test d) (λ e. both_ways (test x) ((all_law test d).0 e x m) q),
)

-- ---- names of the book

known_from : (names : List (List ℕ)) (i : ℕ) (w : List ℕ) → (is_some (number_from i w names) ≡ true) ↔ Memᴰ w names
unfolding number_from
known_from [] i w = (λ e. absurd (false≢true e), λ m. absurd (Memᴰ.not-nil m))
known_from (v ∷ vs) i w = go (is_eq (order_of v w)) refl (known_from vs (suc i) w)
  where
    go : (b : Bool) → is_eq (order_of v w) ≡ b → (is_some (number_from (suc i) w vs) ≡ true) ↔ Memᴰ w vs
        → (is_some (cond b (Some i) (number_from (suc i) w vs)) ≡ true) ↔ Memᴰ w (v ∷ vs)
    go true q ih = (λ e. Memᴰ.head (sym (same_equal v w (is_same_lem (order_of v w) q))), λ m. refl)
    go false q ih = (λ e. Memᴰ.tail (ih.0 e), λ m. later (Memᴰ.cases_cons m))
      where
        later : (w ≡ v) ⊎ Memᴰ w vs → is_some (number_from (suc i) w vs) ≡ true
        later (inl p) = absurd (both_ways (is_eq (order_of v w)) (rw (← p, same_refl w)) q)
        later (inr m) = ih.1 m

-- a name is known exactly when the book has it
pub known_in : (names : List (List ℕ)) (w : List ℕ) → (known names w ≡ true) ↔ Memᴰ w names
unfolding known number_in
known_in names w = known_from names 0 w

pub unknown_in : (names : List (List ℕ)) (w : List ℕ) → (known names w ≡ false) ↔ (¬ Memᴰ w names)
unknown_in names w = (λ e m. both_ways (known names w) ((known_in names w).1 m) e, λ h. refuted (known names w) (λ e. h ((known_in names w).0 e)))

-- ---- a name twice

numbers_append : (names xs ys : List (List ℕ)) → numbers_for names (xs ++ ys) ≡ numbers_for names xs ++ numbers_for names ys
unfolding numbers_for
numbers_append names [] ys = refl
numbers_append names (x ∷ xs) ys = ap (λ (l : List ℕ). number_for names x ∷ l) (numbers_append names xs ys)

times_append : (k : ℕ) (xs ys : List ℕ) → times k (xs ++ ys) ≡ times k xs + times k ys
unfolding times
times_append k [] ys = omega arith
times_append k (x ∷ xs) ys = go (eqb k x) (times_append k xs ys)
  where
    go : (b : Bool) → times k (xs ++ ys) ≡ times k xs + times k ys → cond b (suc (times k (xs ++ ys))) (times k (xs ++ ys)) ≡ cond b (suc (times k xs)) (times k xs) + times k ys
    go true ih = omega arith
    go false ih = ih

total_times : (names : List (List ℕ)) (k : ℕ) (fs : List (Factor (List ℕ))) → total k (numbered names fs) ≡ times k (numbers_for names (model_names fs))
unfolding total numbered model_names numbers_for times
total_times names k [] = refl
total_times names k (f ∷ fs) =
    ap (λ (n : ℕ). times k (numbers_for names f.names) + n) (total_times names k fs)
    ∙ sym (ap (times k) (numbers_append names f.names (model_names fs)) ∙ times_append k (numbers_for names f.names) (numbers_for names (model_names fs)))

member_times : (names : List (List ℕ)) (v : List ℕ) (ws : List (List ℕ)) → Memᴰ v ws → 1 ≤ times (number_for names v) (numbers_for names ws)
unfolding times numbers_for
member_times names v [] m = absurd (Memᴰ.not-nil m)
member_times names v (w ∷ ws) m = go (Memᴰ.cases_cons m) (eqb (number_for names v) (number_for names w)) refl (member_times names v ws)
  where
    go : (v ≡ w) ⊎ Memᴰ v ws → (b : Bool) → eqb (number_for names v) (number_for names w) ≡ b → (Memᴰ v ws → 1 ≤ times (number_for names v) (numbers_for names ws))
        → 1 ≤ cond b (suc (times (number_for names v) (numbers_for names ws))) (times (number_for names v) (numbers_for names ws))
    go p true q ih = omega arith
    go (inl e) false q ih = absurd (both_ways _ (eq-eqb (number_for names v) (number_for names w) (ap (number_for names) e)) q)
    go (inr n) false q ih = ih n

times_member : (names : List (List ℕ)) (k : ℕ) (ws : List (List ℕ)) → 1 ≤ times k (numbers_for names ws) → (v : List ℕ) × Memᴰ v ws × (k ≡ number_for names v)
unfolding times numbers_for
times_member names k [] l = absurd (omega arith)
times_member names k (w ∷ ws) l = go (eqb k (number_for names w)) refl l (times_member names k ws)
  where
    go : (b : Bool) → eqb k (number_for names w) ≡ b → 1 ≤ cond b (suc (times k (numbers_for names ws))) (times k (numbers_for names ws))
        → (1 ≤ times k (numbers_for names ws) → (v : List ℕ) × Memᴰ v ws × (k ≡ number_for names v)) → (v : List ℕ) × Memᴰ v (w ∷ ws) × (k ≡ number_for names v)
    go true q h ih = (w, Memᴰ.head refl, eqb-true k (number_for names w) q)
    go false q h ih = let r = ih h in (r.0, Memᴰ.tail r.1, r.2)

-- known names with one number are one name
same_name : (names : List (List ℕ)) (v w : List ℕ) → known names v ≡ true → known names w ≡ true → number_for names v ≡ number_for names w → v ≡ w
same_name names v w p q e = sym (number_is names v p).1 ∙ ap (name_at names) e ∙ (number_is names w q).1

twice_to : (names xs : List (List ℕ)) → ((x : List ℕ) → Memᴰ x xs → known names x ≡ true) → Twice xs → (k : ℕ) × (k < length names) × (1 < times k (numbers_for names xs))
unfolding times numbers_for
twice_to names [] h t = elim t [ ]
twice_to names (w ∷ ws) h (inl m) =
    (number_for names w, (number_is names w (h w (Memᴰ.head refl))).0, rw (eq-eqb (number_for names w) (number_for names w) refl) (let k = member_times names w ws m in omega arith))
twice_to names (w ∷ ws) h (inr t) = go (twice_to names ws (λ x m. h x (Memᴰ.tail m)) t)
  where
    go : ((k : ℕ) × (k < length names) × (1 < times k (numbers_for names ws))) → (k : ℕ) × (k < length names) × (1 < times k (numbers_for names (w ∷ ws)))
    go (k, l, t) = (k, l, at (eqb k (number_for names w)))
      where
        at : (b : Bool) → 1 < cond b (suc (times k (numbers_for names ws))) (times k (numbers_for names ws))
        at true = omega arith
        at false = t

twice_from : (names xs : List (List ℕ)) → ((x : List ℕ) → Memᴰ x xs → known names x ≡ true) → (k : ℕ) → 1 < times k (numbers_for names xs) → Twice xs
unfolding times numbers_for
twice_from names [] h k l = absurd (omega arith)
twice_from names (w ∷ ws) h k l = go (eqb k (number_for names w)) refl l (twice_from names ws (λ x m. h x (Memᴰ.tail m)) k)
  where
    again : k ≡ number_for names w → ((v : List ℕ) × Memᴰ v ws × (k ≡ number_for names v)) → Memᴰ w ws
    again e (v, m, q) = subst (λ (u : List ℕ). Memᴰ u ws) (same_name names v w (h v (Memᴰ.tail m)) (h w (Memᴰ.head refl)) (sym q ∙ e)) m

    go : (b : Bool) → eqb k (number_for names w) ≡ b → 1 < cond b (suc (times k (numbers_for names ws))) (times k (numbers_for names ws))
        → (1 < times k (numbers_for names ws) → Twice ws) → Memᴰ w ws ⊎ Twice ws
    go true q g ih = inl (again (eqb-true k (number_for names w) q) (times_member names k ws (omega arith)))
    go false q g ih = inr (ih g)

-- of known names one comes twice exactly when its number does
pub twice_names : (names : List (List ℕ)) (fs : List (Factor (List ℕ))) → ((x : List ℕ) → Memᴰ x (model_names fs) → known names x ≡ true) →
    ((k : ℕ) × (k < length names) × (1 < total k (numbered names fs))) ↔ Twice (model_names fs)
twice_names names fs h = (
  λ (k, l, t). twice_from names (model_names fs) h k (subst (λ (n : ℕ). 1 < n) (total_times names k fs) t),
  λ t. let r = twice_to names (model_names fs) h t in (r.0, r.1, subst (λ (n : ℕ). 1 < n) (sym (total_times names r.0 fs)) r.2),
)
