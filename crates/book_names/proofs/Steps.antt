-- What the answer of one step tells of the book's bytes from a place on.
-- Assumes nothing.
use Rattle.std.specs.Prelude.{Ok, Err}
use Prim.Native.Nat.{ℕ, ◌+◌, ◌≤◌}
use mathlib.Core.Path.{◌≡◌, refl}
use mathlib.Core.Bool.{false≢true}
use mathlib.Core.List.{List}
use lib.ListN.{length, take, drop}
use Rattle.refusal.specs.declared.Refusal.{Refusal}
use Rattle.refusal.specs.Answer.{Answer}
use Rattle.book.specs.Field.{Field}
use Rattle.book.specs.Book.{name_of}
use Rattle.book.proofs.Told.{name_told}
use Rattle.book.proofs.Placed.{name_placed}
use Rattle.book_names.specs.Tables.{name_step}

-- a name of k bytes was read at `at`
pub record NameRead (before s : List ℕ) (at k : ℕ) : Type 0 where
  pub name : Field (List ℕ)
  pub read : name_of before (drop at s) ≡ Ok name
  pub size : length name.value ≡ k
  pub fits : at + 1 + k ≤ length s
  pub value : take k (drop (at + 1) s) ≡ name.value
  pub rest : drop (at + 1 + k) s ≡ name.rest

pub name_read : (before s : List ℕ) (at size : ℕ) → name_step (name_of before (drop at s)) ≡ Ok size → NameRead before s at size
unfolding name_step
name_read before s at size e = go (name_of before (drop at s)) refl e
  where
    go : (a : Answer (Field (List ℕ))) → name_of before (drop at s) ≡ a → name_step a ≡ Ok size → NameRead before s at size
    go (Ok name) q e =
        let z : length name.value ≡ size = cc in
        let p = name_placed s at name.value name.rest (name_told before (drop at s) name q).bytes in
        record {
          name = name;
          read = q;
          size = z;
          fits = rw (← z) p.0;
          value = rw (← z) p.1;
          rest = rw (← z) p.2;
        }
    go (Err r) q e = absurd (false≢true cc)

pub name_stopped : (a : Answer (Field (List ℕ))) (r : Refusal) → name_step a ≡ Err r → a ≡ Err r
unfolding name_step
name_stopped (Ok name) r e = absurd (false≢true cc)
name_stopped (Err q) r e = cc
