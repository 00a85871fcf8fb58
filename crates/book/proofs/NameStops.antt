-- When exactly a name and names are refused: what a refusal tells, and what leads to one.
-- Assumes nothing.
use Rattle.std.specs.Prelude.{Ok, Err}
use Prim.Native.Nat.{ℕ, zero, suc, ◌<◌}
use mathlib.Core.Path.{◌≡◌, refl, ◌∙◌, ap}
use mathlib.Core.Bool.{true, not}
use mathlib.Core.List.{List, [], ◌∷◌}
use mathlib.Core.Logic.{◌⊎◌, inl, inr, ⊎_elim}
use native.Mathlib.Omega.{arith}
use native.Mathlib.Nat.{le_of_suc-le-suc}
use lib.ListN.{length}
use borrow.Author.Tests.{not-true, not-false}
use Rattle.refusal.specs.declared.Refusal.{Refusal}
use Rattle.refusal.specs.declared.Refusal.TheVariants.{BytesMissing, BadName, NameNotAbove}
use Rattle.refusal.specs.Answer.{onward}
use Rattle.refusal.proofs.Answers.{refused_same, given_refused, onward_refused, check_refused}
use Rattle.name.specs.Rule.{good_length, good_bytes}
use Rattle.name_order.specs.Order.{rises}
use Rattle.book.specs.Field.{Field, field, byte_of, bytes_of}
use Rattle.book.specs.Book.{name_of, names_of}
use Rattle.book.specs.Bytes.{name_bytes, names_bytes}
use Rattle.book.specs.Stops.{Rising, none, one, last_of, NameMissing, NameBad, NameLow}
use Rattle.book.proofs.Told.{bytes_told, judged, joined, name_told}
use Rattle.book.proofs.FieldStops.{bytes_missing, bytes_given, bytes_stop}

-- ---- a name

-- what is wrong with the name at the head of `rest`, and its number
pub data NameStop (last rest : List ℕ) (r : Refusal) : Type 0 where
  missing : NameMissing rest → BytesMissing ≡ r → NameStop last rest r
  bad : NameBad rest → BadName ≡ r → NameStop last rest r
  low : NameLow last rest → NameNotAbove ≡ r → NameStop last rest r

pub name_stop : (last s : List ℕ) (r : Refusal) → name_of last s ≡ Err r → NameStop last s r
unfolding name_of byte_of name_bytes
name_stop last [] r e = missing (inl refl) (refused_same {A = Field (List ℕ)} BytesMissing r e)
name_stop last (size ∷ more) r e =
    ⊎_elim (λ h. bad (inl (size, more, refl, not-true (good_length size) h.0)) h.1) (λ h. whole (not-false (good_length size) h.0) h.1)
    (check_refused (not (good_length size)) BadName _ r e)
  where
    read : good_length size ≡ true → (name : Field (List ℕ)) → bytes_of size more ≡ Ok name → judged last name ≡ Err r → NameStop last (size ∷ more) r
    read g name b e =
        let t = bytes_told size more name b in
        let s : (size ∷ more) ≡ name_bytes name.value name.rest = rw (t.0, t.1) refl in
        let l : good_length (length name.value) ≡ true = rw t.1 g in
        ⊎_elim (λ h. bad (inr (name.value, name.rest, s, l, not-true _ h.0)) h.1)
        (λ h. ⊎_elim (λ k. low (name.value, name.rest, s, l, not-false _ h.0, not-true _ k.0) k.1) (λ k. absurd (given_refused _ r k.1))
        (check_refused (not (rises last name.value)) NameNotAbove _ r h.1))
        (check_refused (not (good_bytes name.value)) BadName _ r e)

    whole : good_length size ≡ true → onward (bytes_of size more) (judged last) ≡ Err r → NameStop last (size ∷ more) r
    whole g e =
        ⊎_elim (λ h. let k = bytes_stop size more r h in missing (inr (size, more, refl, g, k.0)) k.1) (λ h. read g h.0 h.1 h.2)
        (onward_refused (bytes_of size more) (judged last) r e)

pub name_missing : (last rest : List ℕ) → NameMissing rest → name_of last rest ≡ Err BytesMissing
unfolding name_of byte_of
name_missing last rest (inl e) = rw e
name_missing last rest (inr (size, more, e, g, l)) = rw (e, g, bytes_missing size more l)

pub name_bad : (last rest : List ℕ) → NameBad rest → name_of last rest ≡ Err BadName
unfolding name_of byte_of name_bytes
name_bad last rest (inl (size, more, e, g)) = rw (e, g)
name_bad last rest (inr (x, more, e, g, b)) = rw (e, g, bytes_given x more, b)

pub name_low : (last rest : List ℕ) → NameLow last rest → name_of last rest ≡ Err NameNotAbove
unfolding name_of byte_of name_bytes
name_low last rest (x, more, e, g, b, a) = rw (e, g, bytes_given x more, b, a)

name_given : (before x rest : List ℕ) → good_length (length x) ≡ true → good_bytes x ≡ true → rises before x ≡ true → name_of before (name_bytes x rest) ≡ Ok (field x rest)
unfolding name_of byte_of name_bytes
name_given before x rest g b a = rw (g, bytes_given x rest, b, a)

-- ---- names

-- some names stand in order, and the one behind them is refused
pub record NamesStop (k : ℕ) (before s : List ℕ) (r : Refusal) : Type 0 where
  pub names : List (List ℕ)
  pub rest : List ℕ
  pub rising : Rising before names
  pub stand : s ≡ names_bytes names rest
  pub fewer : length names < k
  pub at : name_of (last_of before names) rest ≡ Err r

pub names_stop : (k : ℕ) (before s : List ℕ) (r : Refusal) → names_of k before s ≡ Err r → NamesStop k before s r
unfolding names_of names_bytes last_of
names_stop zero before s r e = absurd (given_refused _ r e)
names_stop (suc k) before s r e = more (λ b t h. names_stop k b t r h) (onward_refused (name_of before s) _ r e)
  where
    behind : (x : Field (List ℕ)) → name_of before s ≡ Ok x → NamesStop k x.value x.rest r → NamesStop (suc k) before s r
    behind x h u =
        let t = name_told before s x h in
        record {
          names = x.value ∷ u.names;
          rest = u.rest;
          rising = one t.long t.good t.above u.rising;
          stand = t.bytes ∙ ap (name_bytes x.value) u.stand;
          fewer = omega (arith, u.fewer);
          at = u.at;
        }

    more : ((b t : List ℕ) → names_of k b t ≡ Err r → NamesStop k b t r) →
        (name_of before s ≡ Err r) ⊎ ((x : Field (List ℕ)) × (name_of before s ≡ Ok x) × (onward (names_of k x.value x.rest) (joined x) ≡ Err r)) →
        NamesStop (suc k) before s r
    more again (inl h) = record { names = []; rest = s; rising = none; stand = refl; fewer = omega arith; at = h }
    more again (inr (x, h, e)) =
        ⊎_elim (λ q. behind x h (again x.value x.rest q)) (λ q. absurd (given_refused _ r q.2))
        (onward_refused (names_of k x.value x.rest) (joined x) r e)

pub names_refused : (before : List ℕ) (xs : List (List ℕ)) (rest : List ℕ) (r : Refusal) (k : ℕ) → Rising before xs → length xs < k → name_of (last_of before xs) rest ≡ Err r →
    names_of k before (names_bytes xs rest) ≡ Err r
unfolding names_of names_bytes last_of
names_refused before [] rest r zero none l e = absurd (omega arith)
names_refused before [] rest r (suc k) none l e = rw e
names_refused before (x ∷ xs) rest r zero (one g b a R) l e = absurd (omega arith)
names_refused before (x ∷ xs) rest r (suc k) (one g b a R) l e = rw (name_given before x (names_bytes xs rest) g b a, names_refused x xs rest r k R (le_of_suc-le-suc l) e)

pub names_given : (before : List ℕ) (xs : List (List ℕ)) (rest : List ℕ) → Rising before xs → names_of (length xs) before (names_bytes xs rest) ≡ Ok (field xs rest)
unfolding names_of names_bytes
names_given before [] rest none = refl
names_given before (x ∷ xs) rest (one g b a R) = rw (name_given before x (names_bytes xs rest) g b a, names_given x xs rest R)
