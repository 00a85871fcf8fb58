-- The laws of the sets, for the proofs of callers: what members each operation gives, that sets with the same members
-- are equal, that a set of code is `Sized` and stays so, the smallest member, and that a set without it is smaller.
-- Assumes nothing.
use Rattle.std.proofs.Common.{◌≡◌, ℕ, zero, suc, ◌+◌, ◌-◌, ◌/◌, ◌%◌, ◌^◌, ◌<◌, ◌≤◌, Bool, true, false, not, ◌&&◌, ◌||◌, eqb, ltb, List, [], ◌∷◌, map, get_or, sym, ap, ◌∙◌, map-id, lt_of_le_of_lt, div-le_self, arith, pow_pos, le-ltb, lt-ltb, eq-eqb, eqb-true}
use native.Mathlib.Decide.{dec_lt}
use lib.Bits.{bit_and, and_zero_l, and_le_l, xor_zero_l, xor_lt}
use lib.Count.{count_trailing_zeros, trailing_le}
use mir.Val.{Val}
use base.Fml.{Fml}
use denote.Shadow.{shadow}
use denote.Array.{each}
use denote.Struct.Declared.{row}
use borrow.Author.Tests.{eqb-false}
use Rattle.nameset.specs.declared.NameSet.{NameSet}
use Rattle.nameset.specs.Set.{capacity, member, Sized, empty, full, below, with, without, union, both, minus, is_empty, first, rest, size}
use Rattle.nameset.specs.contracts.NameSet.{the_type, the_field}
use Rattle.nameset.proofs.Digits.{bit, bit_or_lem, bit_and_lem, bit_diff, bit_zero, bit_pow, bit_all, bit_shifted, same_bits, zeros_below, lowest_one, cleared, bit_cleared, ones_cleared}

-- ---- members

pub member_empty : (j : ℕ) → member empty j ≡ false
unfolding member bit
member_empty = bit_zero

pub member_full : (j : ℕ) → member full j ≡ ltb j capacity
unfolding member bit
member_full = bit_all capacity

pub member_below : (n j : ℕ) → n ≤ capacity → member (below n) j ≡ ltb j n
unfolding member below bit
member_below n j h = bit_shifted (2 ^ capacity - 1) (capacity - n) j ∙ bit_all capacity (capacity - n + j) ∙ same (dec_lt j n)
  where
    same : Dec (j < n) → ltb (capacity - n + j) capacity ≡ ltb j n
    same (yes l) = lt-ltb (capacity - n + j) capacity (omega arith) ∙ sym (lt-ltb j n l)
    same (no l) = le-ltb (capacity - n + j) capacity (omega arith) ∙ sym (le-ltb j n (omega arith))

pub member_with : (s : NameSet) (i j : ℕ) → member (with s i) j ≡ (member s j || eqb i j)
unfolding member with bit
member_with s i j = bit_or_lem s.bits (2 ^ i) j ∙ ap (λ (x : Bool). member s j || x) (bit_pow i j)

pub member_without : (s : NameSet) (i j : ℕ) → member (without s i) j ≡ (member s j && not (eqb i j))
unfolding member without bit
member_without s i j = bit_diff s.bits (2 ^ i) j ∙ ap (λ (x : Bool). member s j && not x) (bit_pow i j)

pub member_union : (a b : NameSet) (j : ℕ) → member (union a b) j ≡ (member a j || member b j)
unfolding member union bit
member_union a b = bit_or_lem a.bits b.bits

pub member_both : (a b : NameSet) (j : ℕ) → member (both a b) j ≡ (member a j && member b j)
unfolding member both bit
member_both a b = bit_and_lem a.bits b.bits

pub member_minus : (a b : NameSet) (j : ℕ) → member (minus a b) j ≡ (member a j && not (member b j))
unfolding member minus bit
member_minus a b = bit_diff a.bits b.bits

pub member_rest : (s : NameSet) (j : ℕ) → member (rest s) j ≡ (member s j && not (eqb (first s) j))
unfolding rest
member_rest s j =
    member_minus s (with empty (first s)) j
    ∙ ap (λ (x : Bool). member s j && not x) (member_with empty (first s) j ∙ ap (λ (x : Bool). x || eqb (first s) j) (member_empty j))

-- ---- `Sized`

-- Each set that code holds is `Sized`. In a caller's proof `search rules` shows it of a parameter, `Sized c.args.s`, and
-- of what a call gave, `Sized c.union.result`, since `c` has it of both. Of a set that was read from an array
-- `sized_element` shows it, and `sized_field` where the array is a field of a struct.

pub sized_empty : Sized empty
sized_empty = pow_pos capacity

pub sized_below : (n : ℕ) → Sized (below n)
unfolding below
sized_below n = let h : (2 ^ capacity - 1) / 2 ^ (capacity - n) ≤ 2 ^ capacity - 1 = div-le_self (2 ^ capacity - 1) (2 ^ (capacity - n)) in omega arith

pub sized_both : (a b : NameSet) → Sized a → Sized (both a b)
unfolding both
sized_both a b h = lt_of_le_of_lt (and_le_l a.bits b.bits) h

pub sized_minus : (a b : NameSet) → Sized a → Sized (minus a b)
unfolding minus both
sized_minus a b h = xor_lt capacity a.bits (both a b).bits h (sized_both a b h)

pub sized_without : (s : NameSet) (i : ℕ) → Sized s → Sized (without s i)
unfolding without
sized_without s i h = xor_lt capacity s.bits (bit_and s.bits (2 ^ i)) h (lt_of_le_of_lt (and_le_l s.bits (2 ^ i)) h)

pub sized_rest : (s : NameSet) → Sized s → Sized (rest s)
unfolding rest
sized_rest s = sized_minus s (with empty (first s))

-- what owning an array tells of each element
module _ {X D : Type 0} (own : D → List Val → Fml) (into : X → D) (P : X → Type 0) (tells : (x : X) (u : Val) → shadow (own (into x) (u ∷ [])) → P x) where
  each_element : (d : X) → P d → (xs : List X) (us : List Val) (i : ℕ) → shadow (each D own (map into xs) us) → P (get_or xs i d)
  each_element d pd [] us i p = pd
  each_element d pd (x ∷ xs) [] i p = absurd p
  each_element d pd (x ∷ xs) (u ∷ us) zero p = tells x u p.0
  each_element d pd (x ∷ xs) (u ∷ us) (suc i) p = each_element d pd xs us i p.1

pub sized_element : (xs : List NameSet) (us : List Val) (i : ℕ) → shadow (each NameSet (row the_type).own_val xs us) → Sized (get_or xs i empty)
sized_element xs us i p =
    each_element (row the_type).own_val (λ x. x) Sized (λ x u q. q.1.1.0.1) empty sized_empty xs us i (rw map-id p)

pub sized_field : (xs : List NameSet) (us : List Val) (i : ℕ) → shadow (each the_field.row.Denot the_field.row.own_val (map the_field.into xs) us) → Sized (get_or xs i empty)
sized_field = each_element the_field.row.own_val the_field.into Sized (λ x u q. q.1.1.0.1) empty sized_empty

-- ---- sets with the same members

same : (a b : NameSet) → a.bits ≡ b.bits → a ≡ b
same a b e = ap (λ (n : ℕ). record { bits = n }) e

pub ext : (a b : NameSet) → Sized a → Sized b → ((j : ℕ) → j < capacity → member a j ≡ member b j) → a ≡ b
unfolding member bit
ext a b ha hb h = same a b (same_bits capacity a.bits b.bits ha hb h)

-- ---- empty or not

pub is_empty_is : (s : NameSet) → is_empty s ≡ true → s ≡ empty
unfolding is_empty
is_empty_is s e = same s empty (eqb-true s.bits 0 e)

pub is_empty_none : (s : NameSet) → is_empty s ≡ true → (j : ℕ) → member s j ≡ false
is_empty_none s e j = rw (is_empty_is s e) (member_empty j)

-- Nothing is taken out of the empty set.
pub without_empty : (i : ℕ) → without empty i ≡ empty
unfolding without
without_empty i = ap (λ (n : ℕ). record { bits = n }) (xor_zero_l (bit_and 0 (2 ^ i)) ∙ and_zero_l (2 ^ i))

pub none_is_empty : (s : NameSet) → Sized s → ((j : ℕ) → j < capacity → member s j ≡ false) → is_empty s ≡ true
unfolding is_empty
none_is_empty s hs h = eq-eqb s.bits 0 (ap (λ (t : NameSet). t.bits) (ext s empty hs sized_empty (λ j l. h j l ∙ sym (member_empty j))))

-- ---- the smallest member

pub first_bound : (s : NameSet) → first s ≤ capacity
unfolding first
first_bound s = trailing_le capacity s.bits

pub first_least : (s : NameSet) (j : ℕ) → j < first s → member s j ≡ false
unfolding first member bit
first_least s = zeros_below capacity s.bits

pub first_none : (s : NameSet) → is_empty s ≡ true → first s ≡ capacity
unfolding first count_trailing_zeros
first_none s e = ap first (is_empty_is s e)

positive : (s : NameSet) → is_empty s ≡ false → 0 < s.bits
unfolding is_empty
positive s e = let f = eqb-false s.bits 0 e in omega arith

pub first_in : (s : NameSet) → Sized s → is_empty s ≡ false → (first s < capacity) × (member s (first s) ≡ true)
unfolding first member bit
first_in s h e = lowest_one capacity s.bits (positive s e) h

-- ---- the set without it

-- as the code has it: the lowest 1 cleared
pub rest_bits : (s : NameSet) → Sized s → (rest s).bits ≡ cleared s.bits
unfolding member bit first
rest_bits s h =
    same_bits capacity (rest s).bits (cleared s.bits) (sized_rest s h) (lt_of_le_of_lt (and_le_l s.bits (s.bits - 1)) h)
    (λ j l. member_rest s j ∙ sym (bit_cleared capacity s.bits j h))

pub rest_smaller : (s : NameSet) → Sized s → is_empty s ≡ false → size (rest s) < size s
unfolding size
rest_smaller s h e = rw (rest_bits s h) (ones_cleared capacity s.bits (positive s e) h)

-- one less, wrapped at 0, where the other side of the `&` is 0
less_one : (n : ℕ) → n < 2 ^ 64 → bit_and n ((n + 18446744073709551615) % 18446744073709551616) ≡ bit_and n (n - 1)
less_one zero h = and_zero_l 18446744073709551615 ∙ sym (and_zero_l 0)
less_one (suc n) h = ap (bit_and (suc n)) (omega arith)

-- as the code has it: the `&` with one less
pub rest_lowered : (s : NameSet) → Sized s → record { bits = bit_and s.bits ((s.bits + 18446744073709551615) % 18446744073709551616) } ≡ rest s
rest_lowered s h = same _ (rest s) (less_one s.bits h ∙ sym (rest_bits s h))
