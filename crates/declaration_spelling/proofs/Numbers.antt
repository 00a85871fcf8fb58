-- Factors by numbers, and the record that they give.
-- Assumes nothing.
use Prim.Native.Nat.{ℕ, zero, suc, ◌+◌, ◌≤◌, ◌<◌}
use mathlib.Core.Path.{◌≡◌, refl, sym, ◌∙◌, ap, ap₂, subst}
use mathlib.Core.Bool.{Bool, true, false, cond}
use mathlib.Core.List.{List, [], ◌∷◌}
use mathlib.Core.Logic.{◌⊎◌, inl, inr, ⊎_elim}
use native.Mathlib.Omega.{arith}
use native.Mathlib.Nat.{le_of_suc-le-suc, add-zero, zero-add, add-suc, suc-add}
use native.Mathlib.Decide.{ℕ_discrete, dec_lt}
use lib.Dec.{eqb, leb}
use lib.ListN.{length, get_or, get_or-eq_default}
use borrow.Author.Tests.{eq-eqb, eqb-true, le-leb, leb-true, ne_eqb}
use Rattle.model.specs.declared.Chain.{Chain}
use Rattle.model.specs.Record.{factor_of, mode_of, IsChain}
use Rattle.declaration_spelling.specs.House.{Factor}
use Rattle.declaration_spelling.specs.Spelled.{times, Reordered}
use Rattle.declaration_spelling.proofs.Record.{total, none_twice, values_from, place_from, mode_at, record_of}
use Rattle.declaration_spelling.proofs.Tests.{and_is}
use Rattle.declaration_spelling.proofs.Names.{Below, AllBelow}
use Rattle.declaration_spelling.proofs.Shape.{Full, Small}

-- how often
pub times_more : (x y : ℕ) (ys : List ℕ) → times x ys ≤ times x (y ∷ ys)
unfolding times
times_more x y ys = go (eqb x y)
  where
    go : (b : Bool) → times x ys ≤ cond b (suc (times x ys)) (times x ys)
    go true = omega arith
    go false = omega arith

pub times_first : (y : ℕ) (ys : List ℕ) → 0 < times y (y ∷ ys)
unfolding times
times_first y ys = rw (eq-eqb y y refl) (omega arith)

times_some : (x : ℕ) (ys : List ℕ) → 0 < times x ys → (y : ℕ) × (zs : List ℕ) × (ys ≡ y ∷ zs)
unfolding times
times_some x [] h = absurd (omega arith)
times_some x (y ∷ ys) h = (y, ys, refl)

below_all : (n : ℕ) (ys : List ℕ) → ((x : ℕ) → 0 < times x ys → x < n) → Below n ys
below_all n [] h = tt
below_all n (y ∷ ys) h = (h y (times_first y ys), below_all n ys (λ x l. h x (omega (arith, times_more x y ys))))

times_none : (n x : ℕ) (ys : List ℕ) → Below n ys → n ≤ x → times x ys ≡ 0
unfolding times
times_none n x [] b h = refl
times_none n x (y ∷ ys) b h = rw (ne_eqb x y (λ e. omega (arith, b.0))) (times_none n x ys b.1 h)

cond_pos : (b : Bool) → 0 < cond b 1 0 → b ≡ true
cond_pos true h = refl
cond_pos false h = absurd (omega arith)

-- the test is 1 or 0
here : (a i : ℕ) → a ≡ i → cond {A = ℕ} (eqb a i) 1 0 ≡ 1
here a i e = ap (λ (b : Bool). cond {A = ℕ} b 1 0) (eq-eqb a i e)

elsewhere : (a i : ℕ) → (a ≡ i → ⊥) → cond {A = ℕ} (eqb a i) 1 0 ≡ 0
elsewhere a i d = ap (λ (b : Bool). cond {A = ℕ} b 1 0) (ne_eqb a i d)

pub once_all : (n : ℕ) (fs : List (Factor ℕ)) → ((x : ℕ) → total x fs ≤ 1) → none_twice n fs ≡ true
unfolding none_twice
once_all zero fs h = refl
once_all (suc n) fs h = (and_is (leb (total n fs) 1) (none_twice n fs)).1 (le-leb (total n fs) 1 (h n), once_all n fs h)

all_once : (n : ℕ) (fs : List (Factor ℕ)) → none_twice n fs ≡ true → (x : ℕ) → x < n → total x fs ≤ 1
unfolding none_twice
all_once zero fs e x h = absurd (omega arith)
all_once (suc n) fs e x h = go ((and_is (leb (total n fs) 1) (none_twice n fs)).0 e) (ℕ_discrete x n) (λ q l. all_once n fs q x l)
  where
    go : (leb (total n fs) 1 ≡ true) × (none_twice n fs ≡ true) → Dec (x ≡ n) → (none_twice n fs ≡ true → x < n → total x fs ≤ 1) → total x fs ≤ 1
    go (p, q) (yes d) ih = rw d (leb-true (total n fs) 1 p)
    go (p, q) (no d) ih = ih q (omega arith)

-- lists by their entries
pub values_length : (i n : ℕ) (f : ℕ → ℕ) → length (values_from i n f) ≡ n
unfolding values_from
values_length i zero f = refl
values_length i (suc n) f = ap suc (values_length (suc i) n f)

pub values_from_lem : (i n k : ℕ) (f : ℕ → ℕ) (d : ℕ) → k < n → get_or (values_from i n f) k d ≡ f (i + k)
unfolding values_from
values_from_lem i zero k f d h = absurd (omega arith)
values_from_lem i (suc n) zero f d h = rw add-zero
values_from_lem i (suc n) (suc k) f d h = values_from_lem (suc i) n k f d (le_of_suc-le-suc h) ∙ rw (suc-add, add-suc)

values_at : (n k : ℕ) (f : ℕ → ℕ) (d : ℕ) → (n ≤ k → f k ≡ d) → get_or (values_from 0 n f) k d ≡ f k
values_at n k f d h = go (dec_lt k n)
  where
    go : Dec (k < n) → get_or (values_from 0 n f) k d ≡ f k
    go (yes l) = values_from_lem 0 n k f d l ∙ rw zero-add
    go (no l) = get_or-eq_default (values_from 0 n f) d (omega (arith, values_length 0 n f)) ∙ sym (h (omega arith))

pub values_is : (i n : ℕ) (f : ℕ → ℕ) (d : ℕ) (l : List ℕ) → length l ≡ n → ((k : ℕ) → k < n → f (i + k) ≡ get_or l k d) → values_from i n f ≡ l
unfolding values_from
values_is i zero f d [] e h = refl
values_is i zero f d (x ∷ l) e h = absurd (omega arith)
values_is i (suc n) f d [] e h = absurd (omega arith)
values_is i (suc n) f d (x ∷ l) e h =
    ap₂ (λ (a : ℕ) (b : List ℕ). a ∷ b) (ap f (sym (add-zero i)) ∙ h 0 (omega arith))
    (values_is (suc i) n f d l (omega arith) (λ k q. let p : suc i + k ≡ i + suc k = omega arith in ap f p ∙ h (suc k) (omega arith)))

pub mode_beyond : (fs : List (Factor ℕ)) (k : ℕ) → length fs ≤ k → mode_at fs k ≡ 0
unfolding mode_at
mode_beyond [] k h = refl
mode_beyond (f ∷ fs) zero h = absurd (omega arith)
mode_beyond (f ∷ fs) (suc k) h = mode_beyond fs k (le_of_suc-le-suc h)

-- from a chain to its factors in any order, and back
module _ (size n : ℕ) (fits : size ≤ 255) (m : Chain) (c : IsChain size n m) where
  held_below : (i x : ℕ) → i < m.count → factor_of m x ≡ i → x < n
  held_below i x l e = go (dec_lt x n)
    where
      go : Dec (x < n) → x < n
      go (yes h) = h
      go (no h) = absurd (omega (arith, c.others x (omega arith), c.few))

  held : (i x : ℕ) (f : Factor ℕ) → times x f.names ≡ cond (eqb (factor_of m x) i) 1 0 → 0 < times x f.names → factor_of m x ≡ i
  held i x f e h = eqb-true (factor_of m x) i (cond_pos (eqb (factor_of m x) i) (omega arith))

  pub order_below : (i : ℕ) (fs : List (Factor ℕ)) → Reordered m i fs → AllBelow n fs
  order_below i [] r = tt
  order_below i (f ∷ fs) (l, e, t, r) = (below_all n f.names (λ x h. held_below i x l (held i x f (t x) h)), order_below (suc i) fs r)

  pub order_full : (i : ℕ) (fs : List (Factor ℕ)) → Reordered m i fs → Full fs
  order_full i [] r = tt
  order_full i (f ∷ fs) (l, e, t, r) =
      let u = c.named i l in
      (times_some u.0 f.names (omega (arith, t u.0, here (factor_of m u.0) i u.2)), order_full (suc i) fs r)

  pub order_small : (i : ℕ) (fs : List (Factor ℕ)) → Reordered m i fs → Small fs
  order_small i [] r = tt
  order_small i (f ∷ fs) (l, e, t, r) = (omega (arith, c.known i l), order_small (suc i) fs r)

  order_length : (i : ℕ) (fs : List (Factor ℕ)) → Reordered m i fs → i + length fs ≡ m.count
  order_length i [] r = omega arith
  order_length i (f ∷ fs) (l, e, t, r) = omega (arith, order_length (suc i) fs r)

  total_out : (i x : ℕ) (fs : List (Factor ℕ)) → Reordered m i fs → factor_of m x < i → total x fs ≡ 0
  unfolding total
  total_out i x [] r h = refl
  total_out i x (f ∷ fs) (l, e, t, r) h = omega (arith, t x, elsewhere (factor_of m x) i (λ q. omega arith), total_out (suc i) x fs r (omega arith))

  total_one : (i x : ℕ) (fs : List (Factor ℕ)) → Reordered m i fs → total x fs ≤ 1
  unfolding total
  total_one i x [] r = omega arith
  total_one i x (f ∷ fs) (l, e, t, r) = go (ℕ_discrete (factor_of m x) i) (total_one (suc i) x fs r)
    where
      go : Dec (factor_of m x ≡ i) → total x fs ≤ 1 → times x f.names + total x fs ≤ 1
      go (yes d) ih = omega (arith, t x, here (factor_of m x) i d, total_out (suc i) x fs r (omega arith))
      go (no d) ih = omega (arith, t x, elsewhere (factor_of m x) i d)

  pub order_once : (fs : List (Factor ℕ)) → Reordered m 0 fs → none_twice n fs ≡ true
  order_once fs r = once_all n fs (λ x. total_one 0 x fs r)

  order_place : (i x : ℕ) (fs : List (Factor ℕ)) → Reordered m i fs → i ≤ factor_of m x
      → (factor_of m x < m.count → place_from i fs x ≡ factor_of m x) × (m.count ≤ factor_of m x → place_from i fs x ≡ 255)
  unfolding place_from
  order_place i x [] r h = (λ q. absurd (omega arith), λ q. refl)
  order_place i x (f ∷ fs) (l, e, t, r) h = go (ℕ_discrete (factor_of m x) i) (λ q. order_place (suc i) x fs r q)
    where
      go : Dec (factor_of m x ≡ i) → (suc i ≤ factor_of m x → (factor_of m x < m.count → place_from (suc i) fs x ≡ factor_of m x) × (m.count ≤ factor_of m x → place_from (suc i) fs x ≡ 255))
          → (factor_of m x < m.count → cond (eqb (times x f.names) 0) (place_from (suc i) fs x) i ≡ factor_of m x) × (m.count ≤ factor_of m x → cond (eqb (times x f.names) 0) (place_from (suc i) fs x) i ≡ 255)
      go (yes d) ih = rw (t x, here (factor_of m x) i d) (λ q. sym d, λ q. absurd (omega arith))
      go (no d) ih = rw (t x, elsewhere (factor_of m x) i d) (ih (omega arith))

  order_mode : (i k : ℕ) (fs : List (Factor ℕ)) → Reordered m i fs → mode_at fs k ≡ mode_of m (i + k)
  unfolding mode_at
  order_mode i k [] r = sym (c.rest (i + k) (omega arith))
  order_mode i zero (f ∷ fs) (l, e, t, r) = e ∙ ap (mode_of m) (sym (add-zero i))
  order_mode i (suc k) (f ∷ fs) (l, e, t, r) = let q : suc i + k ≡ i + suc k = omega arith in order_mode (suc i) k fs r ∙ ap (mode_of m) q

  place_is : (x : ℕ) (fs : List (Factor ℕ)) → Reordered m 0 fs → place_from 0 fs x ≡ factor_of m x
  place_is x fs r = go (dec_lt (factor_of m x) m.count) (order_place 0 x fs r (omega arith)) (dec_lt x n)
    where
      outside : Dec (x < n) → m.count ≤ factor_of m x → factor_of m x ≡ 255
      outside (yes l) h = ⊎_elim (λ e. e) (λ e. absurd (omega arith)) (c.placed x l)
      outside (no l) h = c.others x (omega arith)

      go : Dec (factor_of m x < m.count) → (factor_of m x < m.count → place_from 0 fs x ≡ factor_of m x) × (m.count ≤ factor_of m x → place_from 0 fs x ≡ 255) → Dec (x < n) → place_from 0 fs x ≡ factor_of m x
      go (yes l) (a, b) d = a l
      go (no l) (a, b) d = b (omega arith) ∙ sym (outside d (omega arith))

  -- the factors of a chain, in any order, give its record
  pub model_back : (fs : List (Factor ℕ)) → Reordered m 0 fs → record_of size fs ≡ m
  unfolding factor_of mode_of
  model_back fs r =
      let p : length fs ≡ m.count = omega (arith, order_length 0 fs r) in
      let q : values_from 0 size (place_from 0 fs) ≡ m.factor = values_is 0 size (place_from 0 fs) 255 m.factor c.factors (λ k h. ap (place_from 0 fs) (zero-add k) ∙ place_is k fs r) in
      let s : values_from 0 size (mode_at fs) ≡ m.mode = values_is 0 size (mode_at fs) 0 m.mode c.modes (λ k h. ap (mode_at fs) (zero-add k) ∙ order_mode 0 k fs r ∙ ap (mode_of m) (zero-add k)) in
      λ i. record { count = p i; factor = q i; mode = s i }

-- from factors without repeats to a chain
total_none : (n x : ℕ) (fs : List (Factor ℕ)) → AllBelow n fs → n ≤ x → total x fs ≡ 0
unfolding total
total_none n x [] b h = refl
total_none n x (f ∷ fs) b h = omega (arith, times_none n x f.names b.0 h, total_none n x fs b.1 h)

pub place_none : (i x : ℕ) (fs : List (Factor ℕ)) → total x fs ≡ 0 → place_from i fs x ≡ 255
unfolding total place_from
place_none i x [] h = refl
place_none i x (f ∷ fs) h =
    let p : times x f.names ≡ 0 = omega arith in
    rw p (place_none (suc i) x fs (omega arith))

place_high : (i x : ℕ) (fs : List (Factor ℕ)) → i + length fs ≤ 255 → i ≤ place_from i fs x
unfolding place_from
place_high i x [] h = omega arith
place_high i x (f ∷ fs) h = go (eqb (times x f.names) 0) (place_high (suc i) x fs (omega arith))
  where
    go : (b : Bool) → suc i ≤ place_from (suc i) fs x → i ≤ cond b (place_from (suc i) fs x) i
    go true l = omega arith
    go false l = omega arith

place_range : (i x : ℕ) (fs : List (Factor ℕ)) → (place_from i fs x ≡ 255) ⊎ (place_from i fs x < i + length fs)
unfolding place_from
place_range i x [] = inl refl
place_range i x (f ∷ fs) = go (eqb (times x f.names) 0) (place_range (suc i) x fs)
  where
    go : (b : Bool) → (place_from (suc i) fs x ≡ 255) ⊎ (place_from (suc i) fs x < suc i + length fs)
        → (cond b (place_from (suc i) fs x) i ≡ 255) ⊎ (cond b (place_from (suc i) fs x) i < i + suc (length fs))
    go true (inl e) = inl e
    go true (inr l) = inr (omega arith)
    go false h = inr (omega arith)

-- the names are at least as many as the factors
sum : ℕ → (ℕ → ℕ) → ℕ
sum zero f = 0
sum (suc n) f = f n + sum n f

sum_le : (n : ℕ) (f g : ℕ → ℕ) → ((x : ℕ) → f x ≤ g x) → sum n f ≤ sum n g
unfolding sum
sum_le zero f g h = omega arith
sum_le (suc n) f g h = omega (arith, h n, sum_le n f g h)

sum_lt : (n : ℕ) (f g : ℕ → ℕ) → ((x : ℕ) → f x ≤ g x) → (y : ℕ) → y < n → f y < g y → sum n f < sum n g
unfolding sum
sum_lt zero f g h y l k = absurd (omega arith)
sum_lt (suc n) f g h y l k = go (ℕ_discrete y n) (λ q. sum_lt n f g h y q k)
  where
    go : Dec (y ≡ n) → (y < n → sum n f < sum n g) → f n + sum n f < g n + sum n g
    go (yes e) ih = let p : f n < g n = rw e at k in omega (arith, sum_le n f g h)
    go (no d) ih = omega (arith, ih (omega arith), h n)

sum_ones : (n : ℕ) → sum n (λ x. 1) ≡ n
unfolding sum
sum_ones zero = refl
sum_ones (suc n) = omega (arith, sum_ones n)

many : (n : ℕ) (fs : List (Factor ℕ)) → Full fs → AllBelow n fs → length fs ≤ sum n (λ x. total x fs)
unfolding total
many n [] f b = omega arith
many n (f ∷ fs) ((y, ys, e), k) (b, bs) =
    let p : Below n (y ∷ ys) = subst (Below n) e b in
    let q : 0 < times y f.names = subst (λ (l : List ℕ). 0 < times y l) (sym e) (times_first y ys) in
    omega (arith, many n fs k bs, sum_lt n (λ x. total x fs) (λ x. times x f.names + total x fs) (λ x. omega arith) y p.0 (omega arith))

-- what is known of x before the factors gs, the first of which is factor i
abbrev Seen : Chain → ℕ → List (Factor ℕ) → ℕ → Type 0
Seen m i gs x = (total x gs ≤ 1) × ((factor_of m x ≡ place_from i gs x) ⊎ ((total x gs ≡ 0) × (factor_of m x < i)))

seen_on : (m : Chain) (i x : ℕ) (g : Factor ℕ) (gs : List (Factor ℕ)) → Seen m i (g ∷ gs) x → Seen m (suc i) gs x
unfolding total place_from
seen_on m i x g gs (l, h) = (omega arith, go (times x g.names) refl l h)
  where
    go : (t : ℕ) → times x g.names ≡ t → t + total x gs ≤ 1 → (factor_of m x ≡ cond (eqb (times x g.names) 0) (place_from (suc i) gs x) i) ⊎ ((times x g.names + total x gs ≡ 0) × (factor_of m x < i))
        → (factor_of m x ≡ place_from (suc i) gs x) ⊎ ((total x gs ≡ 0) × (factor_of m x < suc i))
    go zero e b (inl p) = inl (rw e at p)
    go (suc t) e b (inl p) =
        let q : factor_of m x ≡ i = p ∙ ap (λ (b : Bool). cond b (place_from (suc i) gs x) i) (ne_eqb (times x g.names) 0 (λ z. omega arith)) in
        inr (omega arith, omega arith)
    go t e b (inr p) = inr (omega arith, omega arith)

seen_here : (m : Chain) (i x : ℕ) (g : Factor ℕ) (gs : List (Factor ℕ)) → suc i + length gs ≤ 255 → Seen m i (g ∷ gs) x → times x g.names ≡ cond (eqb (factor_of m x) i) 1 0
unfolding total place_from
seen_here m i x g gs f (l, h) = go (times x g.names) refl l h
  where
    go : (t : ℕ) → times x g.names ≡ t → t + total x gs ≤ 1 → (factor_of m x ≡ cond (eqb (times x g.names) 0) (place_from (suc i) gs x) i) ⊎ ((times x g.names + total x gs ≡ 0) × (factor_of m x < i))
        → times x g.names ≡ cond (eqb (factor_of m x) i) 1 0
    go zero e b (inl p) =
        let q : factor_of m x ≡ place_from (suc i) gs x = rw e at p in
        e ∙ sym (elsewhere (factor_of m x) i (λ z. omega (arith, place_high (suc i) x gs f)))
    go (suc t) e b (inl p) =
        let q : factor_of m x ≡ i = p ∙ ap (λ (b : Bool). cond b (place_from (suc i) gs x) i) (ne_eqb (times x g.names) 0 (λ z. omega arith)) in
        let w : times x g.names ≡ 1 = omega arith in
        w ∙ sym (here (factor_of m x) i q)
    go t e b (inr p) =
        let w : times x g.names ≡ 0 = omega arith in
        w ∙ sym (elsewhere (factor_of m x) i (λ z. omega arith))

reorder : (m : Chain) (i : ℕ) (gs : List (Factor ℕ)) → i + length gs ≡ m.count → m.count ≤ 255 → ((x : ℕ) → Seen m i gs x) → ((k : ℕ) → mode_of m (i + k) ≡ mode_at gs k) → Reordered m i gs
unfolding mode_at
reorder m i [] e f h k = omega arith
reorder m i (g ∷ gs) e f h k = (
  omega arith,
  sym (k 0) ∙ ap (mode_of m) (add-zero i),
  λ x. seen_here m i x g gs (omega arith) (h x),
  reorder m (suc i) gs (omega arith) f (λ x. seen_on m i x g gs (h x)) (λ j. let q : suc i + j ≡ i + suc j = omega arith in ap (mode_of m) q ∙ k (suc j)),
)

-- a factor has a name and a mode
order_used : (n : ℕ) (m : Chain) (i : ℕ) (gs : List (Factor ℕ)) → Reordered m i gs → Full gs → AllBelow n gs → Small gs → (j : ℕ) → i ≤ j → j < m.count
    → ((x : ℕ) × (x < n) × (factor_of m x ≡ j)) × (mode_of m j ≤ 3)
order_used n m i [] r f b s j h l = absurd (omega arith)
order_used n m i (g ∷ gs) (c, e, t, r) ((y, ys, q), f) (b, bs) (s, ss) j h l = go (ℕ_discrete j i) (λ p. order_used n m (suc i) gs r f bs ss j p l)
  where
    go : Dec (j ≡ i) → (suc i ≤ j → ((x : ℕ) × (x < n) × (factor_of m x ≡ j)) × (mode_of m j ≤ 3)) → ((x : ℕ) × (x < n) × (factor_of m x ≡ j)) × (mode_of m j ≤ 3)
    go (yes d) ih =
        let p : Below n (y ∷ ys) = subst (Below n) q b in
        let w : 0 < times y g.names = subst (λ (k : List ℕ). 0 < times y k) (sym q) (times_first y ys) in
        let v : factor_of m y ≡ i = eqb-true (factor_of m y) i (cond_pos (eqb (factor_of m y) i) (omega (arith, t y))) in
        rw d ((y, p.0, v), omega (arith, e, s))
    go (no d) ih = ih (omega arith)

module _ (size n : ℕ) (fits : size ≤ 255) (names : n ≤ size) (fs : List (Factor ℕ)) (full : Full fs) (low : AllBelow n fs) (small : Small fs) (single : none_twice n fs ≡ true) where
  pub total_le : (x : ℕ) → total x fs ≤ 1
  total_le x = go (dec_lt x n)
    where
      go : Dec (x < n) → total x fs ≤ 1
      go (yes h) = all_once n fs single x h
      go (no h) = omega (arith, total_none n x fs low (omega arith))

  pub few_factors : length fs ≤ n
  few_factors = omega (arith, many n fs full low, sum_le n (λ x. total x fs) (λ x. 1) total_le, sum_ones n)

  factor_is : (x : ℕ) → factor_of (record_of size fs) x ≡ place_from 0 fs x
  unfolding factor_of
  factor_is x = values_at size x (place_from 0 fs) 255 (λ h. place_none 0 x fs (total_none n x fs low (omega arith)))

  mode_is : (k : ℕ) → mode_of (record_of size fs) k ≡ mode_at fs k
  unfolding mode_of
  mode_is k = values_at size k (mode_at fs) 0 (λ h. mode_beyond fs k (omega (arith, few_factors)))

  -- they are the factors of their record
  pub from_order : Reordered (record_of size fs) 0 fs
  from_order = reorder (record_of size fs) 0 fs (omega arith) (omega (arith, few_factors)) (λ x. (total_le x, inl (factor_is x))) (λ k. ap (mode_of (record_of size fs)) (zero-add k) ∙ mode_is k)

  -- and the record is a chain
  pub from_chain : IsChain size n (record_of size fs)
  from_chain = record {
    factors = values_length 0 size (place_from 0 fs);
    modes = values_length 0 size (mode_at fs);
    few = omega (arith, few_factors);
    placed = λ x h. ⊎_elim (λ e. inl (factor_is x ∙ e)) (λ l. inr (omega (arith, factor_is x))) (place_range 0 x fs);
    others = λ x h. factor_is x ∙ place_none 0 x fs (total_none n x fs low h);
    named = λ i l. (order_used n (record_of size fs) 0 fs from_order full low small i (omega arith) l).0;
    known = λ i l. (order_used n (record_of size fs) 0 fs from_order full low small i (omega arith) l).1;
    rest = λ i l. mode_is i ∙ mode_beyond fs i l;
  }
