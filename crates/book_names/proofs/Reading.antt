-- The names read so far stand in the table, and what is left to read decides the rest of the answer.
-- Assumes nothing.
use Rattle.std.specs.Prelude.{Ok, Err}
use Prim.Native.Nat.{ℕ, suc, ◌+◌, ◌-◌, ◌≤◌, ◌<◌}
use mathlib.Core.Path.{◌≡◌, refl}
use mathlib.Core.List.{List, [], ◌∷◌}
use native.Mathlib.Omega.{arith}
use native.Mathlib.Numerals.{add-one}
use lib.ListN.{length, take, drop, set}
use lib.Seq.{sets}
use Rattle.refusal.specs.declared.Refusal.{Refusal}
use Rattle.refusal.specs.Answer.{Answer, onward}
use Rattle.book_names.specs.declared.NameTable.{NameTable}
use Rattle.book.specs.Field.{Field, field, count_size}
use Rattle.book.specs.Book.{name_of, names_of}
use Rattle.book.specs.Layout.{no_offsets, offset_table, offsets_from, end_from}
use Rattle.book_names.specs.Tables.{name_table}
use Rattle.book_names.proofs.Steps.{NameRead}

-- the answer, where i names stand in the table and the next is due at `at`
pub onwards : List ℕ → ℕ → ℕ → Answer (Field (List (List ℕ))) → Answer NameTable
onwards table i at (Ok names) =
    Ok
    record {
      names = i + length names.value;
      offsets = sets table i (offsets_from at names.value);
      end = end_from at names.value;
    }
onwards table i at (Err r) = Err r

first : (a : Answer (Field (List (List ℕ)))) → name_table a ≡ onwards no_offsets 0 count_size a
unfolding name_table onwards offset_table
first (Ok names) = let e : 0 + length names.value ≡ length names.value = omega arith in rw e
first (Err r) = refl

pub begin : (n : ℕ) (s : List ℕ) → name_table (names_of n [] (drop count_size s)) ≡ onwards no_offsets 0 count_size (names_of (n - 0) (take (count_size - count_size) (drop count_size s)) (drop count_size s))
begin n s = let e : n - 0 ≡ n = omega arith in rw e (first (names_of n [] (drop count_size s)))

one_more : (table : List ℕ) (i at : ℕ) (x : List ℕ) (a : Answer (Field (List (List ℕ)))) →
    onwards table i at (onward a (λ others. Ok (field (x ∷ others.value) others.rest)))
    ≡ onwards (set table i at) (i + 1) (at + 1 + length x) a
unfolding onwards offsets_from end_from
one_more table i at x (Ok names) =
    let e : i + suc (length names.value) ≡ suc i + length names.value = omega arith in
    rw (add-one i, e)
one_more table i at x (Err r) = refl

pub done : (table : List ℕ) (i at n : ℕ) (before s : List ℕ) → n ≤ i → i ≤ n →
    onwards table i at (names_of (n - i) before s) ≡ Ok (record { names = n; offsets = table; end = at })
unfolding names_of onwards offsets_from end_from
done table i at n before s h l =
    let k : n - i ≡ 0 = omega arith in
    let j : i + 0 ≡ n = omega arith in
    rw (k, j)

-- a turn of the loop, where the name before stands from `from` up to `at`
module _ (table : List ℕ) (i from at n : ℕ) (before s : List ℕ) (h : i < n) (b : before ≡ take (at - from) (drop from s)) where
  pub stop : (r : Refusal) → name_of before (drop at s) ≡ Err r →
      onwards table i at (names_of (n - i) (take (at - from) (drop from s)) (drop at s)) ≡ Err r
  unfolding names_of onwards
  stop r e = let k : n - i ≡ suc (n - (i + 1)) = omega arith in rw (← b, k, e)

  pub next : (size : ℕ) → NameRead before s at size →
      onwards table i at (names_of (n - i) (take (at - from) (drop from s)) (drop at s))
      ≡ onwards (set table i at) (i + 1) (at + 1 + size)
      (names_of (n - (i + 1)) (take (at + 1 + size - (at + 1)) (drop (at + 1) s)) (drop (at + 1 + size) s))
  unfolding names_of
  next size t =
      let k : n - i ≡ suc (n - (i + 1)) = omega arith in
      let d : at + 1 + size - (at + 1) ≡ size = omega arith in
      rw (← b, k, t.read, d, t.value, t.rest, ← t.size) (one_more table i at t.name.value (names_of (n - (i + 1)) t.name.value t.name.rest))
