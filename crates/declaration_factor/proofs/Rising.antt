-- The members of a set, rising: the smallest, then those of the set without it. For the set of a factor's names they
-- are the factor's members.
-- Assumes nothing.
use Prim.Native.Nat.{ℕ, zero, suc, ◌+◌, ◌≤◌, ◌<◌}
use mathlib.Core.Path.{◌≡◌, refl, sym, ◌∙◌, ap}
use mathlib.Core.Bool.{Bool, true, false, cond, ◌&&◌, ◌||◌, not, and-true, and-false, false≢true}
use mathlib.Core.List.{List, [], ◌∷◌, ◌++◌, append_assoc}
use native.Mathlib.Omega.{arith}
use native.Mathlib.Decide.{ℕ_discrete, dec_lt}
use borrow.Author.Tests.{lt-ltb, le-ltb, eq-eqb, ne_eqb}
use lib.Dec.{eqb, ltb}
use lib.ListN.{length}
use Rattle.nameset.specs.declared.NameSet.{NameSet}
use Rattle.nameset.specs.Set.{member, Sized, is_empty, first, rest}
use Rattle.nameset.specs.Promise.{Smallest}
use Rattle.nameset.specs.Names.{Given}
use Rattle.nameset.proofs.Laws.{member_rest, sized_rest, is_empty_none, none_is_empty, first_bound, first_least, first_in}
use Rattle.model.specs.declared.Chain.{Chain}
use Rattle.model.specs.Record.{factor_of}
use Rattle.declaration_spelling.specs.House.{members, name_at, names_at}
use Rattle.byte_buffer.specs.Put.{shown}
use Rattle.model_factors.specs.Names.{NamesOf}
use Rattle.declaration_factor.specs.Parts.{lead_byte, member_text, names_text, rising, MembersBelow, leads, set_text, many_in}

-- ---- the list of a set

pub rising_none : (s : NameSet) (k r : ℕ) → ((j : ℕ) → member s j ≡ false) → rising s k r ≡ []
unfolding rising
rising_none s k zero h = refl
rising_none s k (suc r) h = rw (h k) (rising_none s (suc k) r h)

rising_same : (s t : NameSet) (k r : ℕ) → ((j : ℕ) → k ≤ j → member s j ≡ member t j) → rising s k r ≡ rising t k r
unfolding rising
rising_same s t k zero h = refl
rising_same s t k (suc r) h = rw (h k (omega arith), rising_same s t (suc k) r (λ j l. h j (omega arith)))

-- the smallest member x first, then those of the set t without it
rising_first : (s t : NameSet) (x : ℕ) → member s x ≡ true → ((j : ℕ) → j < x → member s j ≡ false) → ((j : ℕ) → member t j ≡ (member s j && not (eqb x j))) →
    (k r : ℕ) → k ≤ x → x < k + r → rising s k r ≡ x ∷ rising t k r
unfolding rising
rising_first s t x here least law k zero h l = absurd (omega arith)
rising_first s t x here least law k (suc r) h l = go (ℕ_discrete k x) (rising_first s t x here least law (suc k) r)
  where
    behind : (j : ℕ) → suc x ≤ j → member s j ≡ member t j
    behind j b = sym (law j ∙ rw (ne_eqb x j (λ q. omega arith)) (and-true (member s j)))

    go : Dec (k ≡ x) → (suc k ≤ x → x < suc k + r → rising s (suc k) r ≡ x ∷ rising t (suc k) r) → rising s k (suc r) ≡ x ∷ rising t k (suc r)
    go (yes q) ih = rw (q, here, law x, eq-eqb x x refl, and-false (member s x), rising_same s t (suc x) r behind)
    go (no q) ih = rw (law k, least k (omega arith)) (ih (omega arith) (omega arith))

pub rising_next : (n : ℕ) (s : NameSet) (x : ℕ) → Smallest s x → is_empty s ≡ false → MembersBelow n s → rising s 0 n ≡ x ∷ rising (rest s) 0 n
rising_next n s x f e w =
    let m : member s x ≡ true = (f.found e).1 in
    rising_first s (rest s) x m f.least (λ j. member_rest s j ∙ ap (λ (y : ℕ). member s j && not (eqb y j)) (sym f.same)) 0 n (omega arith) (let l = w x m in omega arith)

-- the same at a turn of a loop over the members
pub rising_given : (n : ℕ) (s : NameSet) (x : ℕ) (t : NameSet) → Given s x t → MembersBelow n s → rising s 0 n ≡ x ∷ rising (rest s) 0 n
rising_given n s x t g w = rising_next n s x g.least g.some w

pub within_rest : (n : ℕ) (s t : NameSet) → t ≡ rest s → MembersBelow n s → MembersBelow n t
within_rest n s t e w x m = w x (left (member s x) (not (eqb (first s) x)) (sym (ap (λ (u : NameSet). member u x) e ∙ member_rest s x) ∙ m))
  where
    left : (a b : Bool) → (a && b) ≡ true → a ≡ true
    left true b e = refl
    left false b e = e

-- ---- whether it has more than one name

smallest : (s : NameSet) → Sized s → Smallest s (first s)
smallest s h = record { same = refl; bound = first_bound s; least = first_least s; found = first_in s h }

pub more_than_one : (n : ℕ) (s : NameSet) → Sized s → MembersBelow n s → not (is_empty (rest s)) ≡ ltb 1 (length (rising s 0 n))
more_than_one n s h w = go (is_empty s) (is_empty (rest s)) refl refl
  where
    go : (a b : Bool) → is_empty s ≡ a → is_empty (rest s) ≡ b → not (is_empty (rest s)) ≡ ltb 1 (length (rising s 0 n))
    go true b e f =
        let z : is_empty (rest s) ≡ true = none_is_empty (rest s) (sized_rest s h) (λ j l. member_rest s j ∙ rw (is_empty_none s e j)) in
        rw (z, rising_none s 0 n (is_empty_none s e)) (sym (le-ltb 1 0 (omega arith)))
    go false true e f =
        rw (f, rising_next n s (first s) (smallest s h) e w, rising_none (rest s) 0 n (is_empty_none (rest s) f)) (sym (le-ltb 1 1 (omega arith)))
    go false false e f =
        let c : rising (rest s) 0 n ≡ first (rest s) ∷ rising (rest (rest s)) 0 n =
        rising_next n (rest s) (first (rest s)) (smallest (rest s) (sized_rest s h)) f (within_rest n s (rest s) refl w)
        in
        rw (f, rising_next n s (first s) (smallest s h) e w, c) (sym (lt-ltb 1 (suc (suc (length (rising (rest (rest s)) 0 n)))) (omega arith)))

-- ---- the set of a factor's names

-- the names of a factor as a list, each behind its lead
pub names_leads : (names : List (List ℕ)) (m : Chain) (i : ℕ) (many some : Bool) (k r : ℕ) → names_text names m i many some k r ≡ leads many some (names_at names (members m i k r))
unfolding names_text leads names_at members member_text
names_leads names m i many some k zero = refl
names_leads names m i many some k (suc r) = go (eqb (factor_of m k) i) (names_leads names m i many true (suc k) r) (names_leads names m i many some (suc k) r)
  where
    go : (b : Bool) → names_text names m i many true (suc k) r ≡ leads many true (names_at names (members m i (suc k) r))
        → names_text names m i many some (suc k) r ≡ leads many some (names_at names (members m i (suc k) r))
        → member_text b (lead_byte many some) (name_at names k) ++ names_text names m i many (b || some) (suc k) r
        ≡ leads many some (names_at names (cond b (k ∷ members m i (suc k) r) (members m i (suc k) r)))
    go true p q =
        ap (λ (t : List ℕ). (shown (lead_byte many some) ++ name_at names k) ++ t) p
        ∙ append_assoc (shown (lead_byte many some)) (name_at names k) (leads many true (names_at names (members m i (suc k) r)))
    go false p q = q

module _ (m : Chain) (n i : ℕ) (s : NameSet) (holds : NamesOf m n i s) where
  pub names_within : MembersBelow n s
  names_within x e = go (dec_lt x n)
    where
      go : Dec (x < n) → x < n
      go (yes l) = l
      go (no l) =
          let b : ◌≡◌ {A = Bool} true false = sym e ∙ holds.law x ∙ rw (le-ltb x n (omega arith)) in
          absurd (false≢true cc)

  rising_members : (k r : ℕ) → k + r ≤ n → rising s k r ≡ members m i k r
  unfolding rising members
  rising_members k zero h = refl
  rising_members k (suc r) h =
      let e : member s k ≡ eqb (factor_of m k) i = holds.law k ∙ rw (lt-ltb k n (omega arith)) in
      rw (e, rising_members (suc k) r (omega arith))

  -- its names, as they are put, are the factor's
  pub names_of_set : (names : List (List ℕ)) (many some : Bool) → set_text names n s many some ≡ names_text names m i many some 0 n
  unfolding set_text
  names_of_set names many some =
      ap (λ (xs : List ℕ). leads many some (names_at names xs)) (rising_members 0 n (omega arith)) ∙ sym (names_leads names m i many some 0 n)

  -- it has more than one where the factor has
  pub many_is : Sized s → (t : NameSet) (b : Bool) → t ≡ rest s → b ≡ is_empty t → not b ≡ many_in n m i
  unfolding many_in
  many_is h t b e f =
      rw (f, e) (more_than_one n s h names_within) ∙ ap (λ (xs : List ℕ). ltb 1 (length xs)) (rising_members 0 n (omega arith))
