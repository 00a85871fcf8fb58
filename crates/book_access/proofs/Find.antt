-- Finding a name among names that rise.
-- Assumes nothing.
use Prim.Native.Nat.{ℕ, zero, suc, ◌+◌, ◌≤◌, ◌<◌, suc-le-suc}
use mathlib.Core.Path.{◌≡◌, refl, sym, ◌∙◌, ap, subst}
use mathlib.Core.Bool.{false}
use mathlib.Core.List.{List, [], ◌∷◌}
use native.Mathlib.Omega.{arith}
use native.Mathlib.Decide.{dec_lt}
use native.Mathlib.Nat.{le_of_suc-le-suc, zero-lt-suc, zero-add}
use lib.ListN.{length, get_or, take, drop}
use Rattle.std.specs.Prelude.{Some, None}
use Rattle.std.specs.declared.cmp.Ordering.{Ordering}
use Rattle.std.specs.declared.cmp.Ordering.TheVariants.{Less, Equal, Greater}
use Rattle.std.specs.Ordering.{is_eq}
use Rattle.name_order.specs.Order.{order_of}
use Rattle.name_order.proofs.Ordering.{same_equal, above_flip, below_flip, below_trans}
use Rattle.book.specs.declared.Layout.{Layout}
use Rattle.book.specs.Book.{names_in}
use Rattle.book.specs.Access.{LaidOut, number_from, number_in}
use Rattle.book.specs.Stops.{Rising}
use Rattle.book.proofs.Laws.{names_rise, name_laid, name_count, names_rising}

-- every name before this place is below the text
abbrev pub AllBelow : List (List ℕ) → List ℕ → ℕ → Type 0
AllBelow names text low = (k : ℕ) → k < low → order_of (get_or names k []) text ≡ Less

-- every name from one place up to another is above the text
abbrev pub AllAbove : List (List ℕ) → List ℕ → ℕ → ℕ → Type 0
AllAbove names text high end = (k : ℕ) → high ≤ k → k < end → order_of (get_or names k []) text ≡ Greater

-- the first name that is the text
first_same : (text : List ℕ) (xs : List (List ℕ)) (from i : ℕ) → i < length xs →
    ((j : ℕ) → j < i → is_eq (order_of (get_or xs j []) text) ≡ false) → order_of (get_or xs i []) text ≡ Equal → number_from from text xs ≡ Some (from + i)
unfolding number_from
first_same text [] from i l differ e = absurd (omega arith)
first_same text (x ∷ xs) from zero l differ e = let z : from + 0 ≡ from = omega arith in rw (e, z)
first_same text (x ∷ xs) from (suc i) l differ e =
    let z : from + suc i ≡ suc from + i = omega arith in
    rw (differ 0 (zero-lt-suc i), z) (first_same text xs (suc from) i (le_of_suc-le-suc l) (λ j h. differ (suc j) (suc-le-suc h)) e)

none_same : (text : List ℕ) (xs : List (List ℕ)) (from : ℕ) → ((j : ℕ) → j < length xs → is_eq (order_of (get_or xs j []) text) ≡ false) →
    number_from from text xs ≡ None
unfolding number_from
none_same text [] from differ = refl
none_same text (x ∷ xs) from differ = rw (differ 0 (zero-lt-suc (length xs))) (none_same text xs (suc from) (λ j h. differ (suc j) (suc-le-suc h)))

module _ (names : List (List ℕ)) (rising : Rising [] names) (text : List ℕ) where
  pub found : (i : ℕ) → i < length names → order_of (get_or names i []) text ≡ Equal → number_in names text ≡ Some i
  unfolding number_in
  found i l e =
      let t : get_or names i [] ≡ text = same_equal (get_or names i []) text e in
      first_same text names 0 i l (λ j h. ap is_eq (ap (order_of (get_or names j [])) (sym t) ∙ names_rise [] names rising j i h l)) e
      ∙ ap Some (zero-add i)

  module _ (low high : ℕ) (meet : high ≤ low) (below : (k : ℕ) → k < low → order_of (get_or names k []) text ≡ Less)
      (above : (k : ℕ) → high ≤ k → k < length names → order_of (get_or names k []) text ≡ Greater) where
    pub missing : number_in names text ≡ None
    unfolding number_in
    missing = none_same text names 0 (λ j h. go j h (dec_lt j low))
      where
        go : (j : ℕ) → j < length names → Dec (j < low) → is_eq (order_of (get_or names j []) text) ≡ false
        go j h (yes k) = ap is_eq (below j k)
        go j h (no k) = ap is_eq (above j (omega arith) h)

  module _ (middle : ℕ) (l : middle < length names) where
    -- what lies below a name that is below the text
    pub lower : order_of (get_or names middle []) text ≡ Less → (k : ℕ) → k < middle + 1 → order_of (get_or names k []) text ≡ Less
    lower e k h = go (dec_lt k middle)
      where
        go : Dec (k < middle) → order_of (get_or names k []) text ≡ Less
        go (yes j) = below_trans (get_or names k []) (get_or names middle []) text (names_rise [] names rising k middle j l) e
        go (no j) = let z : k ≡ middle = omega arith in rw z e

    -- what lies above a name that is above the text
    pub upper : order_of (get_or names middle []) text ≡ Greater → (k : ℕ) → middle ≤ k → k < length names → order_of (get_or names k []) text ≡ Greater
    upper e k h j = go (dec_lt middle k)
      where
        go : Dec (middle < k) → order_of (get_or names k []) text ≡ Greater
        go (yes i) =
            below_flip text (get_or names k [])
            (below_trans text (get_or names middle []) (get_or names k []) (above_flip (get_or names middle []) text e) (names_rise [] names rising middle k i j))
        go (no i) = let z : k ≡ middle = omega arith in rw z e

-- ---- the names of a book

-- name i stands where its offset says
module _ (s : List ℕ) (l : Layout) (laid : LaidOut s l) (i : ℕ) (h : i < l.names) (at : ℕ) (e : at ≡ get_or l.offsets i 0) where
  pub stands : (at + 1 ≤ length s) × (at + 1 + get_or s at 0 ≤ length s)
  stands = let t = name_laid s l laid i h in rw e (t.size, t.whole)

  pub named : take (get_or s at 0) (drop (at + 1) s) ≡ get_or (names_in s) i []
  named = rw e (name_laid s l laid i h).bytes

module _ (s : List ℕ) (l : Layout) (laid : LaidOut s l) (text : List ℕ) where
  among : (i : ℕ) → i < l.names → i < length (names_in s)
  among i h = subst (λ (n : ℕ). i < n) (name_count s l laid) h

  -- what comparing the bytes where name i stands tells of name i
  pub told : (i : ℕ) → i < l.names → (at : ℕ) → at ≡ get_or l.offsets i 0 → (o p : Ordering) →
      o ≡ order_of (take (get_or s at 0) (drop (at + 1) s)) text → o ≡ p → order_of (get_or (names_in s) i []) text ≡ p
  told i h at a o p e k = ap (λ (x : List ℕ). order_of x text) (sym (named s l laid i h at a)) ∙ sym e ∙ k

  pub hit : (i : ℕ) → i < l.names → order_of (get_or (names_in s) i []) text ≡ Equal → Some i ≡ number_in (names_in s) text
  hit i h e = sym (found (names_in s) (names_rising s l laid) text i (among i h) e)

  pub miss : (low high : ℕ) → high ≤ low → AllBelow (names_in s) text low → AllAbove (names_in s) text high l.names → None ≡ number_in (names_in s) text
  miss low high m b a =
      sym (missing (names_in s) (names_rising s l laid) text low high m b (λ k h j. a k h (subst (λ (n : ℕ). k < n) (sym (name_count s l laid)) j)))

  pub below : (i : ℕ) → i < l.names → order_of (get_or (names_in s) i []) text ≡ Less → AllBelow (names_in s) text (i + 1)
  below i h = lower (names_in s) (names_rising s l laid) text i (among i h)

  pub above : (i : ℕ) → i < l.names → order_of (get_or (names_in s) i []) text ≡ Greater → AllAbove (names_in s) text i l.names
  above i h e k m j = upper (names_in s) (names_rising s l laid) text i (among i h) e k m (among k j)
