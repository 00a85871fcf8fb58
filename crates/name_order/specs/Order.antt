-- To be believed: the order of names (paper 01, "The book"): "compared byte by byte, a proper prefix first".
-- Assumes nothing.
use Rattle.std.specs.Prelude.{ℕ, Bool, cond, List, [], ◌∷◌, ltb}
use Rattle.std.specs.declared.cmp.Ordering.{Ordering}
use Rattle.std.specs.declared.cmp.Ordering.TheVariants.{Less, Equal, Greater}
use Rattle.std.specs.Ordering.{is_lt}

-- How the first byte string stands to the second: `Less` is below it, `Equal` the same, `Greater` above it.
unfoldable pub order_of : List ℕ → List ℕ → Ordering
order_of [] [] = Equal
order_of [] (y ∷ ys) = Less
order_of (x ∷ xs) [] = Greater
order_of (x ∷ xs) (y ∷ ys) = cond (ltb x y) Less (cond (ltb y x) Greater (order_of xs ys))

-- b comes after a, strictly
unfoldable pub rises : List ℕ → List ℕ → Bool
rises a b = is_lt (order_of a b)
