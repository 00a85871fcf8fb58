-- A means: sets of name numbers, and what each operation of this crate computes. The laws in proofs/Laws.antt say which
-- members each result has.
-- Assumes nothing.
use Rattle.std.specs.Prelude.{ℕ, ◌-◌, ◌/◌, ◌%◌, ◌^◌, ◌<◌, Bool, ◌==◌, bit_and, bit_or, bit_xor, count_ones}
use Rattle.std.specs.Int.Count.{count_trailing_zeros}
use Rattle.nameset.specs.declared.NameSet.{NameSet}

-- How many numbers a set has room for, those below it: the bits of a machine word. Each name has a number below
-- `places`, and so below it: `names_fit` in proofs/Count.antt.
abbrev pub capacity : ℕ
capacity = 64

-- The number i is in s where the binary digit i is 1.
unfoldable pub member : NameSet → ℕ → Bool
member s i = s.bits / 2 ^ i % 2 == 1

-- No digit stands at or past the capacity, as in every set that code holds.
abbrev pub Sized : NameSet → Type 0
Sized s = s.bits < 2 ^ capacity

-- The set with no member.
abbrev pub empty : NameSet
empty = record { bits = 0 }

-- The set with every number below the capacity.
abbrev pub full : NameSet
full = record { bits = 2 ^ capacity - 1 }

-- The set with every number below n, which is at most the capacity.
unfoldable pub below : ℕ → NameSet
below n = record { bits = (2 ^ capacity - 1) / 2 ^ (capacity - n) }

-- The set s with the name i put in.
unfoldable pub with : NameSet → ℕ → NameSet
with s i = record { bits = bit_or s.bits (2 ^ i) }

-- The set s with the name i taken out.
unfoldable pub without : NameSet → ℕ → NameSet
without s i = record { bits = bit_xor s.bits (bit_and s.bits (2 ^ i)) }

-- The names in a or in b.
unfoldable pub union : NameSet → NameSet → NameSet
union a b = record { bits = bit_or a.bits b.bits }

-- The names in a and in b.
unfoldable pub both : NameSet → NameSet → NameSet
both a b = record { bits = bit_and a.bits b.bits }

-- The names in a and not in b.
unfoldable pub minus : NameSet → NameSet → NameSet
minus a b = record { bits = bit_xor a.bits (bit_and a.bits b.bits) }

-- Whether there is no member.
unfoldable pub is_empty : NameSet → Bool
is_empty s = s.bits == 0

-- The smallest member, or the capacity where there is none.
unfoldable pub first : NameSet → ℕ
first s = count_trailing_zeros capacity s.bits

-- The set without its smallest member.
unfoldable pub rest : NameSet → NameSet
rest s = minus s (with empty (first s))

-- The number of members.
unfoldable pub size : NameSet → ℕ
size s = count_ones s.bits
