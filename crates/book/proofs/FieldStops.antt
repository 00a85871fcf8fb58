-- When exactly bytes and counts are refused.
-- Assumes nothing.
use Rattle.std.specs.Prelude.{Ok, Err}
use Prim.Native.Nat.{ℕ, ◌≤◌, ◌<◌}
use mathlib.Core.Path.{◌≡◌}
use mathlib.Core.List.{List, ◌++◌}
use mathlib.Core.Logic.{⊎_elim}
use native.Mathlib.Omega.{arith}
use lib.Dec.{ltb}
use lib.ListN.{length, length-append}
use lib.Seq.{take-append_seam, drop-append_seam}
use borrow.Author.Tests.{lt-ltb, le-ltb, ltb-true}
use Rattle.refusal.specs.declared.Refusal.{Refusal}
use Rattle.refusal.specs.declared.Refusal.TheVariants.{BytesMissing}
use Rattle.refusal.proofs.Answers.{given_refused, onward_refused, check_refused}
use Rattle.book.specs.Field.{field, bytes_of, count_size, count_of}

pub bytes_missing : (n : ℕ) (s : List ℕ) → length s < n → bytes_of n s ≡ Err BytesMissing
unfolding bytes_of
bytes_missing n s h = rw (lt-ltb (length s) n h)

pub bytes_given : (x rest : List ℕ) → bytes_of (length x) (x ++ rest) ≡ Ok (field x rest)
unfolding bytes_of
bytes_given x rest =
    let l : length x ≤ length (x ++ rest) = omega (arith, length-append x rest) in
    rw (le-ltb (length (x ++ rest)) (length x) l, take-append_seam x rest, drop-append_seam x rest)

pub bytes_stop : (n : ℕ) (s : List ℕ) (r : Refusal) → bytes_of n s ≡ Err r → (length s < n) × (BytesMissing ≡ r)
unfolding bytes_of
bytes_stop n s r e = ⊎_elim (λ h. (ltb-true (length s) n h.0, h.1)) (λ h. absurd (given_refused _ r h.1)) (check_refused (ltb (length s) n) BytesMissing _ r e)

pub count_stop : (s : List ℕ) (r : Refusal) → count_of s ≡ Err r → (length s < count_size) × (BytesMissing ≡ r)
unfolding count_of
count_stop s r e = ⊎_elim (bytes_stop count_size s r) (λ h. absurd (given_refused _ r h.2)) (onward_refused (bytes_of count_size s) _ r e)
