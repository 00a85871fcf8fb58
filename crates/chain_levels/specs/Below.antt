-- A means: searches below n for Reach.antt, Rank.antt and Chain.antt of this folder, whose laws join it as well.
-- Assumes nothing.
use Rattle.std.specs.Prelude.{ℕ, zero, suc, ◌+◌, max, Bool, cond}
-- `any_below n test`: some number below n passes the test.
unfoldable pub use Rattle.nameset.specs.Tests.{any_below}

-- How many numbers below n pass the test.
unfoldable pub count_below : ℕ → (ℕ → Bool) → ℕ
count_below zero test = 0
count_below (suc n) test = count_below n test + cond (test n) 1 0

-- The smallest number below n that passes the test, or n.
unfoldable pub first_below : ℕ → (ℕ → Bool) → ℕ
first_below zero test = 0
first_below (suc n) test = cond (test 0) 0 (suc (first_below n (λ k. test (suc k))))

-- The largest value at a number below n that passes the test, or 0.
unfoldable pub largest_below : ℕ → (ℕ → Bool) → (ℕ → ℕ) → ℕ
largest_below zero test value = 0
largest_below (suc n) test value = max (largest_below n test value) (cond (test n) (value n) 0)
