-- The count at a place of the book.
-- Assumes nothing.
use Rattle.std.specs.Prelude.{Ok, Err}
use Prim.Native.Nat.{ℕ, ◌+◌, ◌≤◌, ◌<◌}
use mathlib.Core.Path.{◌≡◌}
use mathlib.Core.List.{List}
use native.Mathlib.Omega.{arith}
use lib.Dec.{lit<}
use lib.ListN.{length, drop, length-drop}
use lib.Seq.{get_or-take, get_or-drop, drop-drop}
use borrow.Author.Tests.{lt-ltb, le-ltb}
use Rattle.refusal.specs.declared.Refusal.TheVariants.{BytesMissing}
use Rattle.book.specs.Field.{field, bytes_of, count_size, count_at, count_of}

pub count_missing : (s : List ℕ) (at : ℕ) → length s < at + count_size → count_of (drop at s) ≡ Err BytesMissing
unfolding count_of bytes_of
count_missing s at h =
    let l : length (drop at s) < count_size = rw (length-drop at s) (omega arith) in
    rw (lt-ltb (length (drop at s)) count_size l)

pub count_given : (s : List ℕ) (at : ℕ) → at + count_size ≤ length s → count_of (drop at s) ≡ Ok (field (count_at s at) (drop (at + count_size) s))
unfolding count_of bytes_of
count_given s at h =
    let l : count_size ≤ length (drop at s) = rw (length-drop at s) (omega arith) in
    let z : at + 0 ≡ at = omega arith in
    rw (
      le-ltb (length (drop at s)) count_size l,
      get_or-take count_size (drop at s) 0 0 (lit< tt),
      get_or-take count_size (drop at s) 1 0 (lit< tt),
      get_or-drop at s 0 0,
      get_or-drop at s 1 0,
      z,
      drop-drop count_size at s,
    )
