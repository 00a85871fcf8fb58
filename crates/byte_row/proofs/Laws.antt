-- A row's largest number bounds every number of it, and is the least that does.
-- Assumes nothing.
use Prim.Native.Nat.{ℕ, zero, suc, ◌+◌, ◌-◌, ◌≤◌, ◌<◌, max, min}
use mathlib.Core.Path.{◌≡◌, refl}
use mathlib.Core.List.{List, [], ◌∷◌}
use mathlib.Core.Logic.{◌↔◌}
use native.Mathlib.Omega.{arith}
use native.Mathlib.Numerals.{add-one}
use native.Mathlib.Decide.{dec_le}
use lib.ListN.{length, get_or, take, drop, length-drop, drop_of_length-le}
use lib.Seq.{get_or-drop, drop-cons, take_all, take-nil, drop-length}
use Rattle.byte_row.specs.Largest.{largest}

pub each_most : (s : List ℕ) (k : ℕ) → largest s ≤ k → (i : ℕ) → get_or s i 0 ≤ k
unfolding largest
each_most [] k h i = omega arith
each_most (x ∷ s) k h zero = omega arith
each_most (x ∷ s) k h (suc i) = each_most s k (omega arith) i

pub most_each : (s : List ℕ) (k : ℕ) → ((i : ℕ) → get_or s i 0 ≤ k) → largest s ≤ k
unfolding largest
most_each [] k h = omega arith
most_each (x ∷ s) k h = omega (arith, h 0, most_each s k (λ i. h (suc i)))

-- The largest from a place on is at most k exactly where every number from there on is.
pub most_law : (s : List ℕ) (from k : ℕ) → (largest (drop from s) ≤ k) ↔ ((i : ℕ) → get_or s (from + i) 0 ≤ k)
most_law s from k = (
  λ h i. rw (← get_or-drop from s i 0) (each_most (drop from s) k h i),
  λ h. most_each (drop from s) k (λ i. rw (get_or-drop from s i 0) (h i)),
)

-- ---- the largest byte by byte: the larger of what was found and what is to come

pub most_begin : (s : List ℕ) (from cut : ℕ) → cut ≡ min from (length s) →
    largest (drop from s) ≡ max 0 (largest (take (length s - cut) (drop cut s)))
unfolding largest
most_begin s from cut e = go (dec_le from (length s))
  where
    go : Dec (from ≤ length s) → largest (drop from s) ≡ max 0 (largest (take (length s - cut) (drop cut s)))
    go (yes h) =
        let c : cut ≡ from = omega arith in
        rw (c, take_all (length s - from) (drop from s) (omega (arith, length-drop from s))) (omega arith)
    go (no h) =
        let c : cut ≡ length s = omega arith in
        let l : length s ≤ from = omega arith in
        rw (c, drop_of_length-le s l, drop-length s, take-nil (length s - length s)) refl

pub most_next : (s : List ℕ) (i top new : ℕ) → i < length s → new ≡ max top (get_or s i 0) →
    max top (largest (drop i s)) ≡ max new (largest (drop (i + 1) s))
unfolding largest
most_next s i top new h e = rw (add-one i, drop-cons s i 0 h) (omega arith)

pub most_done : (s : List ℕ) (i top : ℕ) → length s ≤ i → max top (largest (drop i s)) ≡ top
unfolding largest
most_done s i top h = rw (drop_of_length-le s h) (omega arith)
