-- The length of a declaration, and that it is at most 2,253 bytes.
-- Assumes nothing.
use Prim.Native.Nat.{ℕ, zero, suc, ◌+◌, ◌*◌, ◌≤◌, ◌<◌}
use mathlib.Core.Path.{◌≡◌, refl, ap, subst}
use mathlib.Core.Bool.{true}
use mathlib.Core.List.{List, [], ◌∷◌}
use native.Mathlib.Omega.{arith}
use native.Mathlib.Decide.{ℕ_discrete}
use lib.ListN.{length, length-append}
use borrow.Author.Tests.{eq-eqb, ne_eqb}
use Rattle.nameset.specs.Places.{places}
use Rattle.name.specs.Rule.{is_name}
use Rattle.model.specs.declared.Chain.{Chain}
use Rattle.model.specs.declared.Model.{Model}
use Rattle.model.specs.Record.{factor_of, IsModel}
use Rattle.declaration_spelling.specs.House.{Factor, members, factors_from, factors_of, name_at, names_at, named, opening, empty_word, pcdata_word, mark_text, bars_text, group_text, factor_text, others_text, body_text, mixed_text, content_text, house_text, declaration}
use Rattle.declaration_spelling.specs.Length.{longest_declaration, mark_length, names_length, group_length, factors_length, body_length, mixed_length, content_length, declaration_length}
use Rattle.name.proofs.Words.{name_size}
use Rattle.declaration_spelling.proofs.Names.{Below, AllBelow}
use Rattle.declaration_spelling.proofs.Shape.{Full}
use Rattle.declaration_spelling.proofs.House.{house_order}
use Rattle.declaration_spelling.proofs.Numbers.{order_below, order_full}

-- ---- the length

mark_length_lem : (m : ℕ) (k : List ℕ) → length (mark_text m k) ≡ mark_length m + length k
unfolding mark_text mark_length
mark_length_lem zero k = omega arith
mark_length_lem (suc m) k = omega arith

bars_length : (xs : List (List ℕ)) (k : List ℕ) → length (bars_text xs k) ≡ names_length xs + 1 + length k
unfolding bars_text names_length
bars_length [] k = omega arith
bars_length (x ∷ xs) k = omega (arith, length-append x (bars_text xs k), bars_length xs k)

pub group_length_lem : (xs : List (List ℕ)) (k : List ℕ) → length (group_text xs k) ≡ group_length xs + length k
unfolding group_text group_length names_length
group_length_lem [] k = omega arith
group_length_lem (x ∷ []) k = length-append x k
group_length_lem (x ∷ y ∷ xs) k = omega (arith, length-append x (bars_text (y ∷ xs) k), bars_length (y ∷ xs) k)

pub factor_length : (f : Factor (List ℕ)) (k : List ℕ) → length (factor_text f k) ≡ group_length f.names + mark_length f.mode + length k
unfolding factor_text
factor_length f k = omega (arith, group_length_lem f.names (mark_text f.mode k), mark_length_lem f.mode k)

others_length : (fs : List (Factor (List ℕ))) → length (others_text fs) ≡ factors_length fs + 2
unfolding others_text factors_length
others_length [] = omega arith
others_length (f ∷ fs) = omega (arith, factor_length f (others_text fs), others_length fs)

body_length_lem : (fs : List (Factor (List ℕ))) → length (body_text fs) ≡ body_length fs
unfolding body_text body_length factors_length empty_word
body_length_lem [] = refl
body_length_lem (f ∷ fs) = omega (arith, factor_length f (others_text fs), others_length fs)

content_length_lem : (t : ℕ) (fs : List (Factor (List ℕ))) → length (content_text t fs) ≡ content_length t fs
unfolding content_text content_length mixed_text mixed_length pcdata_word
content_length_lem zero fs = body_length_lem fs
content_length_lem (suc t) [] = refl
content_length_lem (suc t) (f ∷ fs) = omega (arith, bars_length f.names (42 ∷ 62 ∷ []))

house_length : (parent : List ℕ) (t : ℕ) (fs : List (Factor (List ℕ))) → length (house_text parent t fs) ≡ 11 + length parent + content_length t fs
unfolding house_text opening
house_length parent t fs = omega (arith, length-append parent (32 ∷ content_text t fs), content_length_lem t fs)

pub declaration_length_lem : (names : List (List ℕ)) (p : ℕ) (m : Model) → length (declaration names p m) ≡ declaration_length names p m
unfolding declaration declaration_length
declaration_length_lem names p m = house_length (name_at names p) m.text (named names (factors_of m.chain (length names)))

-- ---- the bound

-- the names that stand in the factors
count_names : List (Factor ℕ) → ℕ
count_names [] = 0
count_names (f ∷ fs) = length f.names + count_names fs

module _ (names : List (List ℕ)) (good : (x : ℕ) → x < length names → is_name (name_at names x) ≡ true) where
  short : (x : ℕ) → x < length names → length (name_at names x) ≤ 32
  short x l = (name_size (name_at names x) (good x l)).1

  names_bound : (xs : List ℕ) → Below (length names) xs → names_length (names_at names xs) ≤ 33 * length xs
  unfolding names_length names_at
  names_bound [] h = omega arith
  names_bound (x ∷ xs) h = omega (arith, short x h.0, names_bound xs h.1)

  -- a factor and its comma take at most 34 bytes for each name, and half a byte more where the names are two
  group_bound : (x : ℕ) (xs : List ℕ) → Below (length names) (x ∷ xs) → 2 * (group_length (names_at names (x ∷ xs)) + 2) ≤ 69 * suc (length xs)
  unfolding group_length names_at names_length
  group_bound x [] h = omega (arith, short x h.0)
  group_bound x (y ∷ xs) h = omega (arith, short x h.0, short y h.1.0, names_bound xs h.1.1)

  mark_bound : (m : ℕ) → mark_length m ≤ 1
  unfolding mark_length
  mark_bound zero = omega arith
  mark_bound (suc m) = omega arith

  factors_bound : (fs : List (Factor ℕ)) → AllBelow (length names) fs → Full fs → 2 * factors_length (named names fs) ≤ 69 * count_names fs
  unfolding factors_length named count_names
  factors_bound [] b u = omega arith
  factors_bound (f ∷ fs) (b, bs) ((x, xs, e), u) =
      let g = group_bound x xs (subst (Below (length names)) e b) in
      let a : group_length (names_at names f.names) ≡ group_length (names_at names (x ∷ xs)) = ap (λ (l : List ℕ). group_length (names_at names l)) e in
      let c : length f.names ≡ suc (length xs) = ap length e in
      omega (arith, g, a, c, mark_bound f.mode, factors_bound fs bs u)

-- a name stands in one factor only
count_from : Chain → ℕ → ℕ → ℕ → ℕ → ℕ
count_from m k s i zero = 0
count_from m k s i (suc r) = length (members m i k s) + count_from m k s (suc i) r

member_here : (m : Chain) (i k s : ℕ) → factor_of m k ≡ i → length (members m i k (suc s)) ≡ suc (length (members m i (suc k) s))
unfolding members
member_here m i k s e = rw (eq-eqb (factor_of m k) i e)

member_not : (m : Chain) (i k s : ℕ) → (factor_of m k ≡ i → ⊥) → length (members m i k (suc s)) ≡ length (members m i (suc k) s)
unfolding members
member_not m i k s d = rw (ne_eqb (factor_of m k) i d)

count_out : (m : Chain) (k s i r : ℕ) → factor_of m k < i → count_from m k (suc s) i r ≡ count_from m (suc k) s i r
unfolding count_from
count_out m k s i zero h = refl
count_out m k s i (suc r) h = omega (arith, member_not m i k s (λ e. omega arith), count_out m k s (suc i) r (omega arith))

count_more : (m : Chain) (k s i r : ℕ) → count_from m k (suc s) i r ≤ suc (count_from m (suc k) s i r)
unfolding count_from
count_more m k s i zero = omega arith
count_more m k s i (suc r) = go (ℕ_discrete (factor_of m k) i) (count_more m k s (suc i) r)
  where
    go : Dec (factor_of m k ≡ i) → count_from m k (suc s) (suc i) r ≤ suc (count_from m (suc k) s (suc i) r)
        → length (members m i k (suc s)) + count_from m k (suc s) (suc i) r ≤ suc (length (members m i (suc k) s) + count_from m (suc k) s (suc i) r)
    go (yes e) ih = omega (arith, member_here m i k s e, count_out m k s (suc i) r (omega arith))
    go (no d) ih = omega (arith, member_not m i k s d)

count_none : (m : Chain) (k i r : ℕ) → count_from m k 0 i r ≡ 0
unfolding count_from members
count_none m k i zero = refl
count_none m k i (suc r) = omega (arith, count_none m k (suc i) r)

count_bound : (m : Chain) (s k i r : ℕ) → count_from m k s i r ≤ s
count_bound m zero k i r = omega (arith, count_none m k i r)
count_bound m (suc s) k i r = omega (arith, count_more m k s i r, count_bound m s (suc k) i r)

count_is : (m : Chain) (n i r : ℕ) → count_names (factors_from m n i r) ≡ count_from m 0 n i r
unfolding count_names factors_from count_from
count_is m n i zero = refl
count_is m n i (suc r) = ap (λ (k : ℕ). length (members m i 0 n) + k) (count_is m n (suc i) r)

body_bound : (fs : List (Factor (List ℕ))) → factors_length fs ≤ 2208 → body_length fs ≤ 2210
unfolding body_length
body_bound [] h = omega arith
body_bound (f ∷ fs) h = omega arith

-- with text: the names of the first factor, each with its `|`, in at most 33 bytes
mixed_bound : (names : List (List ℕ)) → ((x : ℕ) → x < length names → is_name (name_at names x) ≡ true) → (fs : List (Factor ℕ)) → AllBelow (length names) fs
    → count_names fs ≤ 64 → mixed_length (named names fs) ≤ 2123
unfolding mixed_length named count_names
mixed_bound names good [] b few = omega arith
mixed_bound names good (f ∷ fs) (b, bs) few = omega (arith, names_bound names good f.names b)

content_bound : (t : ℕ) (fs : List (Factor (List ℕ))) → body_length fs ≤ 2210 → mixed_length fs ≤ 2123 → content_length t fs ≤ 2210
unfolding content_length
content_bound zero fs body mixed = body
content_bound (suc t) fs body mixed = omega arith

-- "The longest has 2,253 bytes."
pub longest_declaration_lem : (names : List (List ℕ)) (p : ℕ) (m : Model) → length names ≤ places → ((x : ℕ) → x < length names → is_name (name_at names x) ≡ true)
    → p < length names → IsModel places (length names) m → length (declaration names p m) ≤ longest_declaration
unfolding declaration_length factors_of
longest_declaration_lem names p m few good l is =
    let n = length names in
    let c = m.chain in
    let fs = factors_from c n 0 c.count in
    let order = house_order places n (omega arith) c is.chain c.count 0 (omega arith) in
    let low = order_below places n (omega arith) c is.chain 0 fs order in
    let full = order_full places n (omega arith) c is.chain 0 fs order in
    let count : count_names fs ≤ 64 = omega (arith, count_is c n 0 c.count, count_bound c n 0 0 c.count) in
    let many : factors_length (named names fs) ≤ 2208 = omega (arith, factors_bound names good fs low full) in
    let content = content_bound m.text (named names fs) (body_bound (named names fs) many) (mixed_bound names good fs low count) in
    omega (arith, declaration_length_lem names p m, short names good p l, content)
