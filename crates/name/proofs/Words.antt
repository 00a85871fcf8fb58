-- The bytes of words: a name is made of them, a byte's class tells them, and no sign of a declaration is one.
-- Assumes nothing.
use Prim.Native.Nat.{ℕ, zero, suc, ◌≤◌, ◌<◌}
use mathlib.Core.Path.{◌≡◌, refl}
use mathlib.Core.Bool.{Bool, true, false, ◌&&◌, false≢true}
use mathlib.Core.List.{List, [], ◌∷◌}
use native.Mathlib.Omega.{arith}
use native.Mathlib.Nat.{le_of_suc-le-suc}
use lib.Dec.{leb}
use lib.ListN.{length, get_or}
use borrow.Author.Tests.{leb-true}
use Rattle.name.specs.Class.{between, start_byte, later_byte}
use Rattle.name.specs.Rule.{longest_name, good_length, all_later, good_bytes, is_name}
use Rattle.name.specs.Word.{word_byte}

both : (a b : Bool) → (a && b) ≡ true → (a ≡ true) × (b ≡ true)
both true b e = (refl, e)
both false b e = absurd (false≢true e)

-- a byte of names is in words
later_word : (byte : ℕ) → later_byte byte ≡ true → word_byte byte ≡ true
unfolding word_byte
later_word byte e = rw e

-- ---- a name

later_bytes : (bs : List ℕ) → all_later bs ≡ true → (k : ℕ) → k < length bs → word_byte (get_or bs k 0) ≡ true
unfolding all_later
later_bytes [] e k h = absurd (omega arith)
later_bytes (b ∷ bs) e zero h = later_word b (both (later_byte b) (all_later bs) e).0
later_bytes (b ∷ bs) e (suc k) h = later_bytes bs (both (later_byte b) (all_later bs) e).1 k (le_of_suc-le-suc h)

start_word : (b : ℕ) → start_byte b ≡ true → word_byte b ≡ true
unfolding later_byte
start_word b e = later_word b (rw e)

-- each byte of a name is a byte of words
pub name_bytes_lem : (w : List ℕ) → is_name w ≡ true → (k : ℕ) → k < length w → word_byte (get_or w k 0) ≡ true
unfolding is_name good_bytes
name_bytes_lem [] e k h = absurd (omega arith)
name_bytes_lem (b ∷ bs) e zero h = start_word b (both (start_byte b) (all_later bs) (both (good_length (length (b ∷ bs))) (good_bytes (b ∷ bs)) e).1).0
name_bytes_lem (b ∷ bs) e (suc k) h =
    later_bytes bs (both (start_byte b) (all_later bs) (both (good_length (length (b ∷ bs))) (good_bytes (b ∷ bs)) e).1).1 k (le_of_suc-le-suc h)

good_size : (n : ℕ) → good_length n ≡ true → (1 ≤ n) × (n ≤ longest_name)
unfolding good_length
good_size n e = let p = both (leb 1 n) (leb n longest_name) e in (leb-true 1 n p.0, leb-true n longest_name p.1)

-- a name has 1 to 32 bytes
pub name_size : (w : List ℕ) → is_name w ≡ true → (1 ≤ length w) × (length w ≤ longest_name)
unfolding is_name
name_size w e = good_size (length w) (both (good_length (length w)) (good_bytes w) e).0

-- ---- the signs

-- none of these is a byte of words
abbrev pub NoWord : List ℕ → Type 0
NoWord [] = Unit {0}
NoWord (b ∷ bs) = (word_byte b ≡ false) × NoWord bs

-- white space: space, tab, CR, LF
pub space_no_word : NoWord (32 ∷ 9 ∷ 13 ∷ 10 ∷ [])
unfolding word_byte later_byte start_byte between
space_no_word = (refl, (refl, (refl, (refl, tt))))

-- what stands for the end of a text, and ( ) , | > ? + *
pub no_word_lem : NoWord (256 ∷ 40 ∷ 41 ∷ 44 ∷ 124 ∷ 62 ∷ 63 ∷ 43 ∷ 42 ∷ [])
unfolding word_byte later_byte start_byte between
no_word_lem = (refl, (refl, (refl, (refl, (refl, (refl, (refl, (refl, (refl, tt)))))))))
