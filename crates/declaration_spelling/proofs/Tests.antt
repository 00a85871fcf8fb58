-- What the tests mean.
-- Assumes nothing.
use Prim.Native.Nat.{ℕ}
use mathlib.Core.Path.{◌≡◌, refl, sym, ap₂}
use mathlib.Core.Bool.{Bool, true, false, cond, ◌&&◌, false≢true}
use mathlib.Core.List.{List, [], ◌∷◌, ◌++◌}
use mathlib.Core.Option.{none, some}
use mathlib.Core.Logic.{◌⊎◌, inl, inr, ◌↔◌}
use lib.Dec.{eqb}
use borrow.Author.Tests.{eq-eqb, eqb-true}
use Rattle.declaration_spelling.specs.Cut.{same, strip}

pub and_is : (a b : Bool) → ((a && b) ≡ true) ↔ ((a ≡ true) × (b ≡ true))
and_is true b = (λ e. (refl, e), λ p. p.1)
and_is false b = (λ e. absurd (false≢true e), λ p. p.0)

pub true_or_false : (b : Bool) → (b ≡ true) ⊎ (b ≡ false)
true_or_false true = inl refl
true_or_false false = inr refl

pub same_is : (v w : List ℕ) → same v w ≡ true → v ≡ w
unfolding same
same_is [] [] e = refl
same_is [] (b ∷ bs) e = absurd (false≢true e)
same_is (a ∷ v) [] e = absurd (false≢true e)
same_is (a ∷ v) (b ∷ w) e =
    let p = (and_is (eqb a b) (same v w)).0 e in
    ap₂ (λ (x : ℕ) (y : List ℕ). x ∷ y) (eqb-true a b p.0) (same_is v w p.1)

pub same_refl : (v : List ℕ) → same v v ≡ true
unfolding same
same_refl [] = refl
same_refl (a ∷ v) = (and_is (eqb a a) (same v v)).1 (eq-eqb a a refl, same_refl v)

pub none_some : {A C : Type 0} {a : A} → none ≡ some a → C
none_some e = absurd (false≢true cc)

pub some_injective : {A : Type 0} {a b : A} → some a ≡ some b → a ≡ b
some_injective e = cc

pub strip_join : (v t : List ℕ) → strip v (v ++ t) ≡ some t
unfolding strip
strip_join [] t = refl
strip_join (a ∷ v) t = rw (eq-eqb a a refl) (strip_join v t)

pub strip_is : (v t r : List ℕ) → strip v t ≡ some r → t ≡ v ++ r
unfolding strip
strip_is [] t r e = some_injective e
strip_is (a ∷ v) [] r e = none_some e
strip_is (a ∷ v) (b ∷ t) r e = go (eqb a b) refl e (strip_is v t r)
  where
    go : (c : Bool) → eqb a b ≡ c → cond c (strip v t) none ≡ some r → (strip v t ≡ some r → t ≡ v ++ r) → b ∷ t ≡ a ∷ (v ++ r)
    go true q f ih = ap₂ (λ (x : ℕ) (y : List ℕ). x ∷ y) (sym (eqb-true a b q)) (ih f)
    go false q f ih = none_some f
