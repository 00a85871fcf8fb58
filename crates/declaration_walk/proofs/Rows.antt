-- Names placed in the rows, one factor after the other: what is filled then, and when nothing stands in the way.
-- Assumes nothing.
use Prim.Native.Nat.{ℕ, zero, suc, ◌≤◌, ◌<◌}
use mathlib.Core.Path.{◌≡◌, refl, sym, ◌∙◌, ap, subst}
use mathlib.Core.Bool.{Bool, true, false, cond}
use mathlib.Core.List.{List, [], ◌∷◌}
use mathlib.Core.Option.{Option, none, some}
use native.Mathlib.Omega.{arith}
use native.Mathlib.Decide.{ℕ_discrete}
use lib.Dec.{eqb, ltb}
use lib.ListN.{length, get_or, set, length-set}
use lib.Seq.{get_or-set_same, get_or-set_other}
use borrow.Author.Tests.{eq-eqb, ne_eqb, eqb-true, ltb-true, lt-ltb}
use Rattle.model.specs.Record.{no_factor}
use Rattle.declaration_spelling.specs.House.{Factor}
use Rattle.declaration_spelling.specs.Spelled.{times}
use Rattle.declaration_spelling.proofs.Tests.{none_some, some_injective}
use Rattle.declaration_spelling.proofs.Names.{Below}
use Rattle.declaration_spelling.proofs.Numbers.{times_more, times_first}
use Rattle.declaration_walk.specs.Gather.{Rows, is_free, with_name, next_factor, with_mode, and_then}

-- ---- by numbers

unfoldable pub place_names : List ℕ → Rows → Option Rows
place_names [] g = some g
place_names (x ∷ xs) g = and_then (with_name x g) (place_names xs)

unfoldable pub place_factor : Factor ℕ → Rows → Option Rows
place_factor f g = and_then (place_names f.names g) (λ h. some (with_mode f.mode h))

-- the factors behind the one that is filled
unfoldable pub place_others : ℕ → List (Factor ℕ) → Rows → Option Rows
place_others size [] g = some g
place_others size (f ∷ fs) g = and_then (next_factor size g) (λ h. and_then (place_factor f h) (place_others size fs))

-- both steps were taken
pub then_some : {A B : Type 0} (o : Option A) (next : A → Option B) (b : B) → and_then o next ≡ some b → (a : A) × (o ≡ some a) × (next a ≡ some b)
unfolding and_then
then_some none next b e = none_some e
then_some (some a) next b e = (a, refl, e)

pub then_join : {A B : Type 0} (o : Option A) (next : A → Option B) (a : A) (b : B) → o ≡ some a → next a ≡ some b → and_then o next ≡ some b
unfolding and_then
then_join none next a b p q = none_some p
then_join (some c) next a b p q = let z : c ≡ a = some_injective p in ap next z ∙ q

-- the factor that holds y
abbrev pub row : List ℕ → ℕ → ℕ
row factor y = get_or factor y no_factor

-- ---- the steps told

abbrev named : ℕ → Rows → Rows
named x g = record { index = g.index; factor = set g.factor x g.index; mode = g.mode }

name_told : (x : ℕ) (g h : Rows) → with_name x g ≡ some h → (row g.factor x ≡ no_factor) × (named x g ≡ h)
unfolding with_name is_free
name_told x g h e = go (eqb (row g.factor x) no_factor) refl e
  where
    go : (b : Bool) → eqb (row g.factor x) no_factor ≡ b → cond b (some (named x g)) none ≡ some h → (row g.factor x ≡ no_factor) × (named x g ≡ h)
    go true q f = (eqb-true (row g.factor x) no_factor q, some_injective f)
    go false q f = none_some f

name_free : (x : ℕ) (g : Rows) → row g.factor x ≡ no_factor → with_name x g ≡ some (named x g)
unfolding with_name is_free
name_free x g e = rw (eq-eqb (row g.factor x) no_factor e)

abbrev pub moved : Rows → Rows
moved g = record { index = suc g.index; factor = g.factor; mode = g.mode }

pub next_told : (size : ℕ) (g h : Rows) → next_factor size g ≡ some h → (suc g.index < size) × (moved g ≡ h)
unfolding next_factor
next_told size g h e = go (ltb (suc g.index) size) refl e
  where
    go : (b : Bool) → ltb (suc g.index) size ≡ b → cond b (some (moved g)) none ≡ some h → (suc g.index < size) × (moved g ≡ h)
    go true q f = (ltb-true (suc g.index) size q, some_injective f)
    go false q f = none_some f

pub next_free : (size : ℕ) (g : Rows) → suc g.index < size → next_factor size g ≡ some (moved g)
unfolding next_factor
next_free size g h = rw (lt-ltb (suc g.index) size h)

-- how often, with one name more
times_here : (y x : ℕ) (xs : List ℕ) → y ≡ x → times y (x ∷ xs) ≡ suc (times y xs)
unfolding times
times_here y x xs e = rw (eq-eqb y x e)

times_there : (y x : ℕ) (xs : List ℕ) → (y ≡ x → ⊥) → times y (x ∷ xs) ≡ times y xs
unfolding times
times_there y x xs e = rw (ne_eqb y x e)

times_nil : (y : ℕ) → times y [] ≡ 0
unfolding times
times_nil y = refl

-- ---- the names of one factor

pub record NamesFilled (xs : List ℕ) (g h : Rows) : Type 0 where
  pub index : h.index ≡ g.index
  pub mode : h.mode ≡ g.mode
  pub size : length h.factor ≡ length g.factor
  pub once : (y : ℕ) → times y xs ≤ 1
  pub fresh : (y : ℕ) → 0 < times y xs → row g.factor y ≡ no_factor
  pub held : (y : ℕ) → 0 < times y xs → row h.factor y ≡ g.index
  pub kept : (y : ℕ) → times y xs ≡ 0 → row h.factor y ≡ row g.factor y

placed_nil : (g : Rows) → NamesFilled [] g g
placed_nil g = record {
  index = refl;
  mode = refl;
  size = refl;
  once = λ y. omega (arith, times_nil y);
  fresh = λ y h. absurd (omega (arith, times_nil y));
  held = λ y h. absurd (omega (arith, times_nil y));
  kept = λ y h. refl;
}

-- one name more before them
module _ (x : ℕ) (xs : List ℕ) (g h : Rows) (small : g.index < no_factor) (inside : x < length g.factor) (free : row g.factor x ≡ no_factor) (P : NamesFilled xs (named x g) h) where
  here : row (set g.factor x g.index) x ≡ g.index
  here = get_or-set_same g.factor x g.index no_factor inside

  there : (y : ℕ) → (y ≡ x → ⊥) → row (set g.factor x g.index) y ≡ row g.factor y
  there y d = get_or-set_other g.factor x y g.index no_factor d

  no_more : times x xs ≡ 0
  no_more = go (times x xs) refl
    where
      go : (k : ℕ) → times x xs ≡ k → k ≡ 0
      go zero e = refl
      go (suc k) e = absurd (omega (arith, here, P.fresh x (omega arith)))

  once_more : (y : ℕ) → Dec (y ≡ x) → times y (x ∷ xs) ≤ 1
  once_more y (yes e) = let z : times y xs ≡ 0 = ap (λ (k : ℕ). times k xs) e ∙ no_more in omega (arith, times_here y x xs e)
  once_more y (no d) = omega (arith, times_there y x xs d, P.once y)

  fresh_more : (y : ℕ) → 0 < times y (x ∷ xs) → Dec (y ≡ x) → row g.factor y ≡ no_factor
  fresh_more y l (yes e) = ap (row g.factor) e ∙ free
  fresh_more y l (no d) = sym (there y d) ∙ P.fresh y (omega (arith, times_there y x xs d))

  held_more : (y : ℕ) → 0 < times y (x ∷ xs) → Dec (y ≡ x) → row h.factor y ≡ g.index
  held_more y l (yes e) = ap (row h.factor) e ∙ P.kept x no_more ∙ here
  held_more y l (no d) = P.held y (omega (arith, times_there y x xs d))

  kept_more : (y : ℕ) → times y (x ∷ xs) ≡ 0 → Dec (y ≡ x) → row h.factor y ≡ row g.factor y
  kept_more y l (yes e) = absurd (omega (arith, times_here y x xs e))
  kept_more y l (no d) = P.kept y (omega (arith, times_there y x xs d)) ∙ there y d

  placed_more : NamesFilled (x ∷ xs) g h
  placed_more = record {
    index = P.index;
    mode = P.mode;
    size = P.size ∙ length-set g.factor x g.index;
    once = λ y. once_more y (ℕ_discrete y x);
    fresh = λ y l. fresh_more y l (ℕ_discrete y x);
    held = λ y l. held_more y l (ℕ_discrete y x);
    kept = λ y l. kept_more y l (ℕ_discrete y x);
  }

below_set : (n : ℕ) (l : List ℕ) (x v : ℕ) → n ≤ length l → n ≤ length (set l x v)
below_set n l x v h = omega (arith, length-set l x v)

pub names_placed : (n : ℕ) (xs : List ℕ) (g h : Rows) → g.index < no_factor → n ≤ length g.factor → Below n xs → place_names xs g ≡ some h → NamesFilled xs g h
unfolding place_names
names_placed n [] g h s l b e = subst (NamesFilled [] g) (some_injective e) (placed_nil g)
names_placed n (x ∷ xs) g h s l b e = go (then_some (with_name x g) (place_names xs) h e) (λ k q. names_placed n xs (named x g) k s (below_set n g.factor x g.index l) b.1 q)
  where
    go : ((k : Rows) × (with_name x g ≡ some k) × (place_names xs k ≡ some h)) → ((k : Rows) → place_names xs (named x g) ≡ some k → NamesFilled xs (named x g) k) → NamesFilled (x ∷ xs) g h
    go (k, p, q) ih =
        let t = name_told x g k p in
        placed_more x xs g h s (omega (arith, b.0)) t.0 (ih h (ap (place_names xs) t.1 ∙ q))

-- nothing stands in the way of names that no factor holds
pub names_place : (n : ℕ) (xs : List ℕ) (g : Rows) → n ≤ length g.factor → Below n xs → ((y : ℕ) → times y xs ≤ 1) → ((y : ℕ) → 0 < times y xs → row g.factor y ≡ no_factor) →
    (h : Rows) × (place_names xs g ≡ some h)
unfolding place_names
names_place n [] g l b o f = (g, refl)
names_place n (x ∷ xs) g l b o f =
    let r = names_place n xs (named x g) (below_set n g.factor x g.index l) b.1 (λ y. omega (arith, times_more y x xs, o y)) (λ y k. free y k (ℕ_discrete y x)) in
    (r.0, then_join (with_name x g) (place_names xs) (named x g) r.0 (name_free x g (f x (times_first x xs))) r.1)
  where
    free : (y : ℕ) → 0 < times y xs → Dec (y ≡ x) → row (set g.factor x g.index) y ≡ no_factor
    free y k (yes e) = absurd (omega (arith, times_here y x xs e, o y))
    free y k (no d) = get_or-set_other g.factor x y g.index no_factor d ∙ f y (omega (arith, times_more y x xs))
