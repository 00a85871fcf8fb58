-- Adding a word as the code does it: its first name, its last name, and its pairs from left to right.
-- Assumes nothing.
use Prim.Native.Nat.{ℕ, suc, ◌+◌, ◌-◌, ◌≤◌, ◌<◌}
use mathlib.Core.Path.{◌≡◌, refl, sym, ◌∙◌, ap}
use mathlib.Core.Bool.{Bool, false, ◌||◌, or-false}
use mathlib.Core.List.{List, [], ◌∷◌}
use native.Mathlib.Omega.{arith}
use native.Mathlib.Numerals.{add-one}
use lib.ListN.{length, get_or, drop, drop_of_length-le}
use lib.Seq.{drop-cons}
use lib.Dec.{eqb-suc-zero}
use Rattle.std.proofs.Common.{◌==◌}
use Rattle.nameset.specs.declared.NameSet.{NameSet}
use Rattle.nameset.specs.Set.{with}
use Rattle.nameset.specs.Rows.{row_at, put_row}
use Rattle.follow.specs.declared.Facts.{Facts}
use Rattle.follow.specs.Follow.{is_empty}
use Rattle.follow.specs.Adding.{with_first, with_last, with_pair, with_pairs, with_word}

-- ---- a word with no name

pub no_name_lem : (w : List ℕ) → length w ≡ 0 → w ≡ []
no_name_lem [] e = refl
no_name_lem (x ∷ w) e = absurd (omega arith)

pub first_none : (s : NameSet) (w : List ℕ) → length w ≡ 0 → s ≡ with_first s w
unfolding with_first
first_none s w e = rw (no_name_lem w e)

pub last_none : (s : NameSet) (w : List ℕ) → length w ≡ 0 → s ≡ with_last s w
unfolding with_last
last_none s w e = rw (no_name_lem w e)

-- ---- a word with a name

pub first_some : (s r : NameSet) (w : List ℕ) (a : ℕ) → (length w ≡ 0 → ⊥) → a ≡ get_or w 0 0 → r ≡ with s a → r ≡ with_first s w
unfolding with_first
first_some s r [] a h ea er = absurd (h refl)
first_some s r (x ∷ w) a h ea er = er ∙ ap (with s) ea

last_at : (s : NameSet) (x : ℕ) (w : List ℕ) → with_last s (x ∷ w) ≡ with s (get_or (x ∷ w) (length w) 0)
unfolding with_last
last_at s x [] = refl
last_at s x (y ∷ w) = last_at s y w

pub last_some : (s r : NameSet) (w : List ℕ) (a : ℕ) → (length w ≡ 0 → ⊥) → a ≡ get_or w (length w - 1) 0 → r ≡ with s a → r ≡ with_last s w
last_some s r [] a h ea er = absurd (h refl)
last_some s r (x ∷ w) a h ea er =
    let k : suc (length w) - 1 ≡ length w = omega arith in
    er ∙ ap (with s) (ea ∙ ap (λ (i : ℕ). get_or (x ∷ w) i 0) k) ∙ sym (last_at s x w)

pub empty_is : (b r : Bool) (w : List ℕ) → b ≡ false → r ≡ (length w == 0) → r ≡ (b || is_empty w)
unfolding is_empty
empty_is b r [] f e = rw f e
empty_is b r (x ∷ w) f e = rw f (e ∙ eqb-suc-zero (length w))

pub empty_some : (b : Bool) (w : List ℕ) → (length w ≡ 0 → ⊥) → b ≡ (b || is_empty w)
unfolding is_empty
empty_some b [] h = absurd (h refl)
empty_some b (x ∷ w) h = sym (or-false b)

-- ---- its pairs

-- the rows in the end, where a is the name before place i
pub pairs_left : List ℕ → ℕ → List ℕ → ℕ → List ℕ
pairs_left rows a w i = with_pairs rows (a ∷ drop i w)

pub pairs_none : (rows w : List ℕ) → w ≡ [] → rows ≡ with_pairs rows w
unfolding with_pairs
pairs_none rows w e = rw e

pub pairs_begin : (rows word : List ℕ) (a : ℕ) (w : List ℕ) → word ≡ a ∷ w → with_pairs rows word ≡ pairs_left rows a w 0
unfolding pairs_left
pairs_begin rows word a w e = ap (with_pairs rows) e

pub pairs_next : (rows next w : List ℕ) (i a b : ℕ) (r s : NameSet) → i < length w → b ≡ get_or w i 0 →
    r ≡ row_at rows a → s ≡ with r b → next ≡ put_row rows a s → pairs_left rows a w i ≡ pairs_left next b w (i + 1)
unfolding pairs_left with_pairs with_pair
pairs_next rows next w i a b r s h eb er es en = rw (en, es, er, add-one i, drop-cons w i 0 h, ← eb)

pub pairs_done : (rows w : List ℕ) (a i : ℕ) → length w ≤ i → pairs_left rows a w i ≡ rows
unfolding pairs_left with_pairs
pairs_done rows w a i h = rw (drop_of_length-le w h)

-- ---- all that it adds

-- the struct with a word added, field by field
pub word_added : (facts : Facts) (s e : NameSet) (r w : List ℕ) (b : Bool) →
    s ≡ with_first facts.starts w → e ≡ with_last facts.ends w → r ≡ with_pairs facts.follows w → b ≡ (facts.empty || is_empty w) →
    record { starts = s; ends = e; follows = r; empty = b } ≡ with_word facts w
unfolding with_word
word_added facts s e r w b es ee er eb = rw (es, ee, er, eb)
