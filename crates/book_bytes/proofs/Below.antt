-- Each number of a word is below n where the largest is.
-- Assumes nothing.
use Prim.Native.Nat.{ℕ, ◌≤◌, ◌<◌, max}
use mathlib.Core.Path.{◌≡◌, ◌∙◌, ap}
use mathlib.Core.Bool.{Bool, ◌&&◌}
use mathlib.Core.List.{List, [], ◌∷◌}
use native.Mathlib.Omega.{arith}
use native.Mathlib.Decide.{dec_lt}
use lib.Dec.{ltb}
use borrow.Author.Tests.{lt-ltb, le-ltb}
use Rattle.byte_row.specs.Largest.{largest}
use Rattle.book.specs.Book.{all_below}

both_below : (n x y : ℕ) → ltb (max x y) n ≡ (ltb x n && ltb y n)
both_below n x y = go (dec_lt x n) (dec_lt y n)
  where
    go : Dec (x < n) → Dec (y < n) → ltb (max x y) n ≡ (ltb x n && ltb y n)
    go (yes h) (yes k) = let m : max x y < n = omega arith in rw (lt-ltb x n h, lt-ltb y n k, lt-ltb (max x y) n m)
    go (yes h) (no k) = let l : n ≤ y = omega arith in let m : n ≤ max x y = omega arith in rw (lt-ltb x n h, le-ltb y n l, le-ltb (max x y) n m)
    go (no h) k = let l : n ≤ x = omega arith in let m : n ≤ max x y = omega arith in rw (le-ltb x n l, le-ltb (max x y) n m)

below : (n : ℕ) (s : List ℕ) → 0 < n → ltb (largest s) n ≡ all_below n s
unfolding largest all_below
below n [] h = lt-ltb 0 n h
below n (x ∷ s) h = both_below n x (largest s) ∙ ap (λ (b : Bool). ltb x n && b) (below n s h)

pub judged : (n : ℕ) (s : List ℕ) (top : ℕ) → 0 < n → top ≡ largest s → ltb top n ≡ all_below n s
judged n s top h e = ap (λ (x : ℕ). ltb x n) e ∙ below n s h
