-- The order of names is the library's order of slices, a strict order: equal bytes alone are the same, and below goes on.
-- Assumes nothing.
use Prim.Native.Nat.{ℕ}
use mathlib.Core.Path.{◌≡◌, refl, sym, ◌∙◌, ap}
use mathlib.Core.Bool.{true, cond, false≢true}
use mathlib.Core.List.{List, [], ◌∷◌}
use native.Mathlib.Omega.{arith}
use lib.Dec.{ltb}
use Rattle.std.specs.declared.cmp.Ordering.{Ordering}
use Rattle.std.specs.declared.cmp.Ordering.TheVariants.{Less, Equal, Greater}
use Rattle.std.specs.Ordering.{nat_cmp, ordering_then, ordering_reverse, is_lt}
use Rattle.std.specs.Cmp.Lexicographic.{slice_cmp, nat_list_cmp_total}
use Rattle.std.proofs.lemmas.Bool.Decides.{nat_tests}
use Rattle.std.proofs.lemmas.Map.Lookups.{exact_bytes}
use Rattle.name_order.specs.Order.{order_of, rises}

-- the first bytes decide, and where they are the same the other bytes do
first_decides : (x y : ℕ) (o p : Ordering) → o ≡ p → ordering_then (nat_cmp x y) o ≡ cond (ltb x y) Less (cond (ltb y x) Greater p)
first_decides x y o p e = grind (arith, nat_tests)

pub order_slices : (a b : List ℕ) → slice_cmp nat_cmp a b ≡ order_of a b
unfolding order_of
order_slices [] [] = refl
order_slices [] (y ∷ ys) = refl
order_slices (x ∷ xs) [] = refl
order_slices (x ∷ xs) (y ∷ ys) = first_decides x y _ _ (order_slices xs ys)

-- ---- laws

flipped : (a b : List ℕ) → order_of a b ≡ ordering_reverse (order_of b a)
flipped a b = sym (order_slices a b) ∙ nat_list_cmp_total.antisymm a b ∙ ap ordering_reverse (order_slices b a)

pub same_refl : (a : List ℕ) → order_of a a ≡ Equal
same_refl a = go (order_of a a) (flipped a a)
  where
    go : (o : Ordering) → o ≡ ordering_reverse o → o ≡ Equal
    go Less e = absurd (false≢true cc)
    go Equal e = refl
    go Greater e = absurd (false≢true cc)

pub same_equal : (a b : List ℕ) → order_of a b ≡ Equal → a ≡ b
same_equal a b e = exact_bytes a b (order_slices a b ∙ e)

pub above_flip : (a b : List ℕ) → order_of a b ≡ Greater → order_of b a ≡ Less
above_flip a b e = flipped b a ∙ ap ordering_reverse e

pub below_flip : (a b : List ℕ) → order_of a b ≡ Less → order_of b a ≡ Greater
below_flip a b e = flipped b a ∙ ap ordering_reverse e

pub below_trans : (a b c : List ℕ) → order_of a b ≡ Less → order_of b c ≡ Less → order_of a c ≡ Less
below_trans a b c p q =
    sym (order_slices a c) ∙ nat_list_cmp_total.trans a b c (order_slices a b ∙ p) (order_slices b c ∙ q)

-- `rises` is the same as below
pub rises_below : (a b : List ℕ) → rises a b ≡ true → order_of a b ≡ Less
unfolding rises
rises_below a b e = go (order_of a b) e
  where
    go : (o : Ordering) → is_lt o ≡ true → o ≡ Less
    go Less e = refl
    go Equal e = absurd (false≢true cc)
    go Greater e = absurd (false≢true cc)
