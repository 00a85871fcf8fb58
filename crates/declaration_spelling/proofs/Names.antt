-- Names and their numbers.
-- Assumes nothing.
use Prim.Native.Nat.{ℕ, zero, suc, ◌+◌, ◌≤◌, ◌<◌}
use mathlib.Core.Path.{◌≡◌, refl, ◌∙◌, ap, ap₂}
use mathlib.Core.Bool.{Bool, true, false, cond, false≢true}
use mathlib.Core.List.{List, [], ◌∷◌}
use native.Mathlib.Omega.{arith}
use native.Mathlib.Nat.{le_of_suc-le-suc}
use lib.ListN.{length}
use Rattle.name.specs.Rule.{is_name}
use Rattle.std.specs.declared.cmp.Ordering.{Ordering}
use Rattle.std.specs.declared.cmp.Ordering.TheVariants.{Less, Equal, Greater}
use Rattle.std.specs.Ordering.{is_eq}
use Rattle.name_order.specs.Order.{order_of}
use Rattle.name_order.proofs.Ordering.{same_refl, same_equal}
use Rattle.std.specs.Prelude.{Option, Some, None, is_some}
use Rattle.std.specs.Option.{unwrap_or}
use Rattle.book.specs.Access.{number_from, number_in}
use Rattle.declaration_spelling.specs.House.{Factor, name_at, names_at, named}
use Rattle.declaration_spelling.specs.Read.{known, number_for}
use Rattle.declaration_spelling.proofs.Record.{numbers_for, numbered, all_names, all_factors}
use Rattle.declaration_spelling.proofs.Tests.{and_is}

-- only numbers below n
abbrev pub Below : ℕ → List ℕ → Type 0
Below n [] = Unit {0}
Below n (x ∷ xs) = (x < n) × Below n xs

abbrev pub AllBelow : ℕ → List (Factor ℕ) → Type 0
AllBelow n [] = Unit {0}
AllBelow n (f ∷ fs) = Below n f.names × AllBelow n fs

pub is_same_lem : (o : Ordering) → is_eq o ≡ true → o ≡ Equal
is_same_lem Less e = absurd (false≢true e)
is_same_lem Equal e = refl
is_same_lem Greater e = absurd (false≢true e)

-- a number that is found is that of the name
found_from : (names : List (List ℕ)) (i : ℕ) (w : List ℕ) (k : ℕ) → number_from i w names ≡ Some k → (j : ℕ) × (k ≡ i + j) × (j < length names) × (name_at names j ≡ w)
unfolding number_from name_at
found_from [] i w k e = absurd (false≢true cc)
found_from (v ∷ vs) i w k e = go (is_eq (order_of v w)) refl e (found_from vs (suc i) w k)
  where
    shift : ((j : ℕ) × (k ≡ suc i + j) × (j < length vs) × (name_at vs j ≡ w)) → (j : ℕ) × (k ≡ i + j) × (j < suc (length vs)) × (name_at (v ∷ vs) j ≡ w)
    shift (j, a, l, q) = (suc j, omega arith, omega arith, q)

    go : (b : Bool) → is_eq (order_of v w) ≡ b → cond b (Some i) (number_from (suc i) w vs) ≡ Some k
        → (number_from (suc i) w vs ≡ Some k → (j : ℕ) × (k ≡ suc i + j) × (j < length vs) × (name_at vs j ≡ w))
        → (j : ℕ) × (k ≡ i + j) × (j < suc (length vs)) × (name_at (v ∷ vs) j ≡ w)
    go true q f ih = (0, (let z : i ≡ k = cc in omega arith), omega arith, same_equal v w (is_same_lem (order_of v w) q))
    go false q f ih = shift (ih f)

-- a name of the list is found
finds_from : (names : List (List ℕ)) (i : ℕ) (w : List ℕ) (j : ℕ) → j < length names → name_at names j ≡ w → (k : ℕ) × (number_from i w names ≡ Some k)
unfolding number_from name_at
finds_from [] i w j l e = absurd (omega arith)
finds_from (v ∷ vs) i w zero l e = (i, rw (e, same_refl w))
finds_from (v ∷ vs) i w (suc j) l e = go (is_eq (order_of v w)) (finds_from vs (suc i) w j (le_of_suc-le-suc l) e)
  where
    go : (b : Bool) → ((k : ℕ) × (number_from (suc i) w vs ≡ Some k)) → (k : ℕ) × (cond b (Some i) (number_from (suc i) w vs) ≡ Some k)
    go true h = (i, refl)
    go false h = h

found_is : (names : List (List ℕ)) (w : List ℕ) (k : ℕ) → number_in names w ≡ Some k → (k < length names) × (name_at names k ≡ w)
unfolding number_in
found_is names w k e = go (found_from names 0 w k e)
  where
    go : ((j : ℕ) × (k ≡ 0 + j) × (j < length names) × (name_at names j ≡ w)) → (k < length names) × (name_at names k ≡ w)
    go (j, a, l, q) = let z : k ≡ j = omega arith in (omega arith, ap (name_at names) z ∙ q)

-- no name twice
abbrev pub Distinct : List (List ℕ) → Type 0
Distinct names = (x y : ℕ) → x < length names → y < length names → name_at names x ≡ name_at names y → x ≡ y

-- names of a book: at most as many as a record has places, 1 to 255, each by the rule, no two equal
pub record GoodNames (size : ℕ) (names : List (List ℕ)) : Type 0 where
  pub place : 0 < size
  pub small : size ≤ 255
  pub few : length names ≤ size
  pub good : (x : ℕ) → x < length names → is_name (name_at names x) ≡ true
  pub distinct : Distinct names

pub number_found : (names : List (List ℕ)) → Distinct names → (x : ℕ) → x < length names → number_in names (name_at names x) ≡ Some x
unfolding number_in
number_found names d x l = go (finds_from names 0 (name_at names x) x l refl)
  where
    go : ((k : ℕ) × (number_from 0 (name_at names x) names ≡ Some k)) → number_from 0 (name_at names x) names ≡ Some x
    go (k, e) = let p = found_is names (name_at names x) k e in e ∙ ap Some (d k x p.0 l p.1)

-- a known name has its number
pub number_is : (names : List (List ℕ)) (w : List ℕ) → known names w ≡ true → (number_for names w < length names) × (name_at names (number_for names w) ≡ w)
unfolding known number_for
number_is names w e = go (number_in names w) refl e
  where
    go : (f : Option ℕ) → number_in names w ≡ f → is_some f ≡ true → (unwrap_or f 0 < length names) × (name_at names (unwrap_or f 0) ≡ w)
    go (Some k) q e = found_is names w k q
    go None q e = absurd (false≢true e)

module _ (names : List (List ℕ)) (d : Distinct names) where
  pub name_number : (x : ℕ) → x < length names → number_for names (name_at names x) ≡ x
  unfolding number_for
  name_number x l = rw (number_found names d x l)

  pub name_known : (x : ℕ) → x < length names → known names (name_at names x) ≡ true
  unfolding known
  name_known x l = rw (number_found names d x l)

  numbers_back : (xs : List ℕ) → Below (length names) xs → numbers_for names (names_at names xs) ≡ xs
  unfolding numbers_for names_at
  numbers_back [] h = refl
  numbers_back (x ∷ xs) h = ap₂ (λ (a : ℕ) (b : List ℕ). a ∷ b) (name_number x h.0) (numbers_back xs h.1)

  pub factors_back : (fs : List (Factor ℕ)) → AllBelow (length names) fs → numbered names (named names fs) ≡ fs
  unfolding numbered named
  factors_back [] h = refl
  factors_back (f ∷ fs) h = ap₂ (λ (l : List ℕ) (k : List (Factor ℕ)). record { names = l; mode = f.mode } ∷ k) (numbers_back f.names h.0) (factors_back fs h.1)

-- known names are named again by their numbers
names_known : (names : List (List ℕ)) (xs : List (List ℕ)) → all_names (known names) xs ≡ true → (names_at names (numbers_for names xs) ≡ xs) × Below (length names) (numbers_for names xs)
unfolding all_names names_at numbers_for
names_known names [] e = (refl, tt)
names_known names (x ∷ xs) e = go ((and_is (known names x) (all_names (known names) xs)).0 e) (names_known names xs)
  where
    go : (known names x ≡ true) × (all_names (known names) xs ≡ true) → (all_names (known names) xs ≡ true → (names_at names (numbers_for names xs) ≡ xs) × Below (length names) (numbers_for names xs))
        → (name_at names (number_for names x) ∷ names_at names (numbers_for names xs) ≡ x ∷ xs) × ((number_for names x < length names) × Below (length names) (numbers_for names xs))
    go (p, q) ih =
        let l = number_is names x p in
        (ap₂ (λ (a : List ℕ) (b : List (List ℕ)). a ∷ b) l.1 (ih q).0, (l.0, (ih q).1))

pub factors_known : (names : List (List ℕ)) (fs : List (Factor (List ℕ))) → all_factors (known names) fs ≡ true → (named names (numbered names fs) ≡ fs) × AllBelow (length names) (numbered names fs)
unfolding all_factors named numbered
factors_known names [] e = (refl, tt)
factors_known names (f ∷ fs) e = go ((and_is (all_names (known names) f.names) (all_factors (known names) fs)).0 e) (factors_known names fs)
  where
    go : (all_names (known names) f.names ≡ true) × (all_factors (known names) fs ≡ true) → (all_factors (known names) fs ≡ true → (named names (numbered names fs) ≡ fs) × AllBelow (length names) (numbered names fs))
        → (named names (numbered names (f ∷ fs)) ≡ f ∷ fs) × AllBelow (length names) (numbered names (f ∷ fs))
    go (p, q) ih =
        let a = names_known names f.names p in
        (ap₂ (λ (l : List (List ℕ)) (k : List (Factor (List ℕ))). record { names = l; mode = f.mode } ∷ k) a.0 (ih q).0, (a.1, (ih q).1))

-- a test that holds of every name of the book holds of what is named
module _ (names : List (List ℕ)) (p : List ℕ → Bool) (h : (x : ℕ) → x < length names → p (name_at names x) ≡ true) where
  test_names : (xs : List ℕ) → Below (length names) xs → all_names p (names_at names xs) ≡ true
  unfolding all_names names_at
  test_names [] l = refl
  test_names (x ∷ xs) l = (and_is (p (name_at names x)) (all_names p (names_at names xs))).1 (h x l.0, test_names xs l.1)

  pub test_factors : (fs : List (Factor ℕ)) → AllBelow (length names) fs → all_factors p (named names fs) ≡ true
  unfolding all_factors named
  test_factors [] l = refl
  test_factors (f ∷ fs) l = (and_is (all_names p (names_at names f.names)) (all_factors p (named names fs))).1 (test_names f.names l.0, test_factors fs l.1)
