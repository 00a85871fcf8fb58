-- What the check of a word's numbers means.
-- Assumes nothing.
use Prim.Native.Nat.{ℕ, ◌≤◌}
use mathlib.Core.Path.{◌≡◌, refl, sym, subst}
use mathlib.Core.Bool.{Bool, true, false, ◌&&◌, false≢true}
use mathlib.Core.List.Memᴰ
use mathlib.Core.List.{List, [], ◌∷◌, Memᴰ}
use mathlib.Core.Logic.{◌↔◌, ◌⊎◌, inl, inr}
use borrow.Author.Tests.{lt-ltb, le-ltb, ltb-true, ltb-false}
use lib.Dec.{ltb}
use Rattle.book.specs.Book.{all_below}
use Rattle.model.specs.Accept.{Names}
use Rattle.nameset.proofs.Tests.{both, and_left, and_right}

pub names_law : (n : ℕ) (w : List ℕ) → (all_below n w ≡ true) ↔ Names n w
unfolding all_below
names_law n [] = (λ e. tt, λ h. refl)
names_law n (x ∷ w) = (
  λ e. (ltb-true x n (and_left (ltb x n) (all_below n w) e), (names_law n w).0 (and_right (ltb x n) (all_below n w) e)),
  λ h. both (ltb x n) (all_below n w) (lt-ltb x n h.0) ((names_law n w).1 h.1),
)

-- some number of the word is not below n
pub not_below : (n : ℕ) (w : List ℕ) → (all_below n w ≡ false) ↔ ((x : ℕ) × Memᴰ x w × (n ≤ x))
unfolding all_below
not_below n [] = (λ e. absurd (false≢true (sym e)), λ (x, m, l). absurd (Memᴰ.not-nil m))
not_below n (y ∷ ys) = (λ e. to (ltb y n) refl e (not_below n ys).0, λ (x, m, l). from x (Memᴰ.cases_cons m) l (not_below n ys).1)
  where
    to : (b : Bool) → ltb y n ≡ b → (b && all_below n ys) ≡ false → (all_below n ys ≡ false → (x : ℕ) × Memᴰ x ys × (n ≤ x)) → (x : ℕ) × Memᴰ x (y ∷ ys) × (n ≤ x)
    to true q e ih = let r = ih e in (r.0, Memᴰ.tail r.1, r.2)
    to false q e ih = (y, Memᴰ.head refl, ltb-false y n q)

    from : (x : ℕ) → (x ≡ y) ⊎ Memᴰ x ys → n ≤ x → (((x : ℕ) × Memᴰ x ys × (n ≤ x)) → all_below n ys ≡ false) → (ltb y n && all_below n ys) ≡ false
    from x (inl q) l ih = rw (le-ltb y n (subst (λ (z : ℕ). n ≤ z) q l))
    from x (inr m) l ih = second (ltb y n) (ih (x, m, l))
      where
        second : (b : Bool) → all_below n ys ≡ false → (b && all_below n ys) ≡ false
        second true e = e
        second false e = refl
