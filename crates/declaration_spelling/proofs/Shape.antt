-- The shape of factors: each has a name and one of the four modes, and they go with the text byte of the model.
-- Assumes nothing.
use Prim.Native.Nat.{ℕ, zero, suc, ◌≤◌}
use mathlib.Core.Path.{◌≡◌, refl, ap}
use mathlib.Core.Bool.{false≢true}
use mathlib.Core.List.{List, [], ◌∷◌}
use mathlib.Core.Logic.{◌⊎◌, inl, inr}
use native.Mathlib.Omega.{arith}
use Rattle.model.specs.declared.Chain.{Chain}
use Rattle.model.specs.Record.{MayHaveText}
use Rattle.declaration_spelling.specs.Token.{Token}
use Rattle.declaration_spelling.specs.House.{Factor, name_at, names_at, named}
use Rattle.declaration_spelling.specs.Spelled.{IsFactor, AreLater, IsPlain, IsMixed, IsContent, Reordered}
use Rattle.declaration_spelling.specs.Read.{number_for}
use Rattle.declaration_spelling.proofs.Record.{numbers_for, numbered}

-- every factor has a name
abbrev pub Full : {A : Type 0} → List (Factor A) → Type 0
Full [] = Unit {0}
Full {A} (f ∷ fs) = ((x : A) × (xs : List A) × (f.names ≡ x ∷ xs)) × Full fs

-- every mode is 0 to 3
abbrev pub Small : {A : Type 0} → List (Factor A) → Type 0
Small [] = Unit {0}
Small (f ∷ fs) = (f.mode ≤ 3) × Small fs

-- any factors go without text; with it none, or one that is starred
abbrev pub Goes : {A : Type 0} → ℕ → List (Factor A) → Type 0
Goes zero fs = Unit {0}
Goes (suc zero) [] = Unit {0}
Goes (suc zero) (f ∷ fs) = (fs ≡ []) × (f.mode ≡ 3)
Goes (suc (suc t)) fs = ⊥

-- ---- factors that are spelled

factor_shape : (f : Factor (List ℕ)) (after ts : List Token) → IsFactor f after ts → ((x : List ℕ) × (xs : List (List ℕ)) × (f.names ≡ x ∷ xs)) × (f.mode ≤ 3)
factor_shape f after ts (inl (x, e, l, q)) = ((x, [], e), l)
factor_shape f after ts (inr (x, xs, e, l, q)) = ((x, xs, e), l)

more_shape : (f : Factor (List ℕ)) (fs : List (Factor (List ℕ))) (after ts : List Token) → IsFactor f after ts → Full fs × Small fs → Full (f ∷ fs) × Small (f ∷ fs)
more_shape f fs after ts F (full, small) = let (x, l) = factor_shape f after ts F in ((x, full), (l, small))

later_shape : (fs : List (Factor (List ℕ))) (ts : List Token) → AreLater fs ts → Full fs × Small fs
later_shape [] ts e = (tt, tt)
later_shape (f ∷ fs) ts (us, after, e, F, L) = more_shape f fs after us F (later_shape fs after L)

plain_shape : (fs : List (Factor (List ℕ))) (ts : List Token) → IsPlain fs ts → Full fs × Small fs
plain_shape [] ts e = (tt, tt)
plain_shape (f ∷ fs) ts (inl (us, after, e, F, L)) = more_shape f fs after us F (later_shape fs after L)
plain_shape (f ∷ fs) ts (inr (e, (x, xs, q, l, r))) = rw e (((x, xs, q), tt), (l, tt))

mixed_shape : (fs : List (Factor (List ℕ))) (ts : List Token) → IsMixed fs ts → Full fs × Small fs × Goes 1 fs
mixed_shape [] ts e = (tt, tt, tt)
mixed_shape (f ∷ fs) ts (e, l, (x, xs, q, r)) = rw e (((x, xs, q), tt), (omega arith, tt), (refl, l))

pub model_shape : (t : ℕ) (fs : List (Factor (List ℕ))) (ts : List Token) → IsContent t fs ts → Full fs × Small fs × Goes t fs
model_shape zero fs ts m = let (full, small) = plain_shape fs ts m in (full, small, tt)
model_shape (suc zero) fs ts m = mixed_shape fs ts m
model_shape (suc (suc t)) fs ts m = absurd m

-- ---- the text byte of a record, and its factors

pub order_goes : (c : Chain) (t : ℕ) (fs : List (Factor ℕ)) → Reordered c 0 fs → (t ≡ 0) ⊎ ((t ≡ 1) × MayHaveText c) → Goes t fs
order_goes c zero fs o h = tt
order_goes c (suc zero) [] o h = tt
order_goes c (suc zero) (f ∷ fs) (l, mode, own, o) h = go fs o h
  where
    go : (gs : List (Factor ℕ)) → Reordered c 1 gs → (suc zero ≡ zero) ⊎ ((suc zero ≡ suc zero) × MayHaveText c) → (gs ≡ []) × (f.mode ≡ 3)
    go [] q (inl e) = absurd (omega arith)
    go [] q (inr (e, inl none)) = absurd (omega arith)
    go [] q (inr (e, inr (one, star))) = (refl, omega (arith, mode, star))
    go (g ∷ gs) q (inl e) = absurd (omega arith)
    go (g ∷ gs) q (inr (e, inl none)) = absurd (omega arith)
    go (g ∷ gs) (k, mode, own, q) (inr (e, inr (one, star))) = absurd (omega arith)
order_goes c (suc (suc t)) fs o (inl e) = absurd (omega arith)
order_goes c (suc (suc t)) fs o (inr (e, h)) = absurd (omega arith)

pub goes_text : (c : Chain) (t : ℕ) (fs : List (Factor ℕ)) → Reordered c 0 fs → Goes t fs → (t ≡ 0) ⊎ ((t ≡ 1) × MayHaveText c)
goes_text c zero fs o g = inl refl
goes_text c (suc zero) [] o g = inr (refl, inl (omega arith))
goes_text c (suc zero) (f ∷ fs) (l, mode, own, o) (e, star) = inr (refl, inr (count fs e o, omega (arith, mode, star)))
  where
    count : (gs : List (Factor ℕ)) → gs ≡ [] → Reordered c 1 gs → c.count ≡ 1
    count [] e q = omega arith
    count (g ∷ gs) e q = absurd (false≢true cc)
goes_text c (suc (suc t)) fs o g = absurd g

-- ---- names for numbers, and numbers for names
pub full_named : (names : List (List ℕ)) (fs : List (Factor ℕ)) → Full fs → Full (named names fs)
unfolding named names_at
full_named names [] h = tt
full_named names (f ∷ fs) ((x, xs, e), h) = ((name_at names x, names_at names xs, ap (names_at names) e), full_named names fs h)

pub small_named : (names : List (List ℕ)) (fs : List (Factor ℕ)) → Small fs → Small (named names fs)
unfolding named
small_named names [] h = tt
small_named names (f ∷ fs) h = (h.0, small_named names fs h.1)

pub full_numbered : (names : List (List ℕ)) (fs : List (Factor (List ℕ))) → Full fs → Full (numbered names fs)
unfolding numbered numbers_for
full_numbered names [] h = tt
full_numbered names (f ∷ fs) ((x, xs, e), h) = ((number_for names x, numbers_for names xs, ap (numbers_for names) e), full_numbered names fs h)

pub small_numbered : (names : List (List ℕ)) (fs : List (Factor (List ℕ))) → Small fs → Small (numbered names fs)
unfolding numbered
small_numbered names [] h = tt
small_numbered names (f ∷ fs) h = (h.0, small_numbered names fs h.1)

pub goes_named : (names : List (List ℕ)) (t : ℕ) (fs : List (Factor ℕ)) → Goes t fs → Goes t (named names fs)
unfolding named
goes_named names zero fs h = tt
goes_named names (suc zero) [] h = tt
goes_named names (suc zero) (f ∷ fs) (e, l) = (ap (named names) e, l)
goes_named names (suc (suc t)) fs h = h

pub goes_numbered : (names : List (List ℕ)) (t : ℕ) (fs : List (Factor (List ℕ))) → Goes t fs → Goes t (numbered names fs)
unfolding numbered
goes_numbered names zero fs h = tt
goes_numbered names (suc zero) [] h = tt
goes_numbered names (suc zero) (f ∷ fs) (e, l) = (ap (numbered names) e, l)
goes_numbered names (suc (suc t)) fs h = h
