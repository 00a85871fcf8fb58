-- Which names the blocks of a book use: the tests say what is meant.
-- Assumes nothing.
use Prim.Native.Nat.{ℕ, ◌≤◌, ◌<◌}
use mathlib.Core.Path.{◌≡◌, refl, sym, ◌∙◌, ap, subst}
use mathlib.Core.Bool.{Bool, true, false, ◌||◌, not, false≢true}
use mathlib.Core.List.Memᴰ
use mathlib.Core.List.{List, [], ◌∷◌, Memᴰ}
use mathlib.Core.Logic.{◌↔◌, ◌⊎◌, inl, inr, ⊎_elim}
use lib.Dec.{eqb}
use lib.ListN.{length}
use borrow.Author.Tests.{eqb-true, eq-eqb, not-true}
use Rattle.nameset.proofs.Tests.{or_split, or_right, any_law}
use Rattle.book.specs.Book.{Block, Book}
use Rattle.book.specs.Used.{Used, AllUsed, Unused, is_child, uses, is_used, some_unused, has_unused}

-- ---- one name

child_law : (i : ℕ) (w : List ℕ) → (is_child i w ≡ true) ↔ Memᴰ i w
unfolding is_child
child_law i [] = (λ e. absurd (false≢true e), λ m. absurd (Memᴰ.not-nil m))
child_law i (x ∷ w) = (λ e. to (child_law i w) (or_split (eqb x i) (is_child i w) e), λ m. from (child_law i w) (Memᴰ.cases_cons m))
  where
    to : (is_child i w ≡ true) ↔ Memᴰ i w → (eqb x i ≡ true) ⊎ (is_child i w ≡ true) → Memᴰ i (x ∷ w)
    to rest (inl e) = Memᴰ.head (sym (eqb-true x i e))
    to rest (inr e) = Memᴰ.tail (rest.0 e)

    from : (is_child i w ≡ true) ↔ Memᴰ i w → (i ≡ x) ⊎ Memᴰ i w → (eqb x i || is_child i w) ≡ true
    from rest (inl e) = rw (eq-eqb x i (sym e))
    from rest (inr m) = or_right (eqb x i) (is_child i w) (rest.1 m)

-- a block uses a name
abbrev UsedBy : Block → ℕ → Type 0
UsedBy k i = (k.parent ≡ i) ⊎ Memᴰ i k.word

block_law : (k : Block) (i : ℕ) → (uses k i ≡ true) ↔ UsedBy k i
unfolding uses
block_law k i = (
  λ e. ⊎_elim (λ p. inl (eqb-true k.parent i p)) (λ c. inr ((child_law i k.word).0 c)) (or_split (eqb k.parent i) (is_child i k.word) e),
  ⊎_elim (λ p. rw (eq-eqb k.parent i p)) (λ c. or_right (eqb k.parent i) (is_child i k.word) ((child_law i k.word).1 c)),
)

used_law : (bs : List Block) (i : ℕ) → (is_used bs i ≡ true) ↔ Used bs i
unfolding is_used
used_law [] i = (λ e. absurd (false≢true e), λ (k, m, u). absurd (Memᴰ.not-nil m))
used_law (c ∷ bs) i = (λ e. to (used_law bs i) (or_split (uses c i) (is_used bs i) e), λ (k, m, u). from (used_law bs i) k u (Memᴰ.cases_cons m))
  where
    to : (is_used bs i ≡ true) ↔ Used bs i → (uses c i ≡ true) ⊎ (is_used bs i ≡ true) → Used (c ∷ bs) i
    to rest (inl e) = (c, Memᴰ.head refl, (block_law c i).0 e)
    to rest (inr e) = let (k, m, u) = rest.0 e in (k, Memᴰ.tail m, u)

    from : (is_used bs i ≡ true) ↔ Used bs i → (k : Block) → UsedBy k i → (k ≡ c) ⊎ Memᴰ k bs → (uses c i || is_used bs i) ≡ true
    from rest k u (inl e) = let own : uses c i ≡ true = (block_law c i).1 (subst (λ (x : Block). UsedBy x i) e u) in rw own
    from rest k u (inr m) = or_right (uses c i) (is_used bs i) (rest.1 (k, m, u))

-- ---- all names below n

-- some name below n is not used
pub some_unused_lem : (n : ℕ) (bs : List Block) → some_unused n bs ≡ true → (i : ℕ) × (i < n) × (is_used bs i ≡ false)
unfolding some_unused
some_unused_lem n bs e = let (i, l, h) = (any_law n (λ i. not (is_used bs i))).0 e in (i, l, not-true (is_used bs i) h)

-- each is used
pub none_unused : (n : ℕ) (bs : List Block) → some_unused n bs ≡ false → (i : ℕ) → i < n → is_used bs i ≡ true
unfolding some_unused
none_unused n bs e i l = go (is_used bs i) refl
  where
    go : (u : Bool) → is_used bs i ≡ u → is_used bs i ≡ true
    go true q = q
    go false q = absurd (false≢true (sym e ∙ (any_law n (λ j. not (is_used bs j))).1 (i, l, ap not q)))

-- ---- the names of a book

module _ (b : Book) where
  neither : (i : ℕ) → Unused b i → ¬ Used b.blocks i
  neither i u (k, m, h) = ⊎_elim (u.no_parent k m) (u.no_child k m) h

  not_used : (i : ℕ) → i < length b.names → is_used b.blocks i ≡ false → Unused b i
  not_used i l h =
      let never : ¬ Used b.blocks i = λ u. false≢true (sym h ∙ (used_law b.blocks i).1 u) in
      record { name = l; no_parent = λ k m p. never (k, m, inl p); no_child = λ k m c. never (k, m, inr c) }

  -- The test finds a name exactly where one is unused,
  pub unused_law : (has_unused b ≡ true) ↔ ((i : ℕ) × Unused b i)
  unfolding has_unused
  unused_law = (λ e. let (i, l, h) = some_unused_lem (length b.names) b.blocks e in (i, not_used i l h), λ (i, u). from i u (has_unused b) refl)
    where
      from : (i : ℕ) → Unused b i → (t : Bool) → has_unused b ≡ t → has_unused b ≡ true
      from i u true e = e
      from i u false e = absurd (neither i u ((used_law b.blocks i).0 (none_unused (length b.names) b.blocks e i u.name)))

  -- and none exactly where all are used.
  pub all_used_law : (has_unused b ≡ false) ↔ AllUsed b
  unfolding has_unused
  all_used_law = (λ e i l. (used_law b.blocks i).0 (none_unused (length b.names) b.blocks e i l), λ f. from f (has_unused b) refl)
    where
      from : AllUsed b → (t : Bool) → has_unused b ≡ t → has_unused b ≡ false
      from f true e = let (i, u) = unused_law.0 e in absurd (neither i u (f i u.name))
      from f false e = e

  -- A book without a block has a name that none uses.
  pub no_block_unused : 1 ≤ length b.names → b.blocks ≡ [] → Unused b 0
  no_block_unused l e =
      let none : (k : Block) → ¬ Memᴰ k b.blocks = λ k m. Memᴰ.not-nil (subst (Memᴰ k) e m) in
      record { name = l; no_parent = λ k m p. none k m; no_child = λ k m c. none k m }

  -- A name is used or unused, and not both.
  pub used_or_unused : (i : ℕ) → i < length b.names → (Used b.blocks i × (¬ Unused b i)) ⊎ (Unused b i × (¬ Used b.blocks i))
  used_or_unused i l = go (is_used b.blocks i) refl
    where
      go : (t : Bool) → is_used b.blocks i ≡ t → (Used b.blocks i × (¬ Unused b i)) ⊎ (Unused b i × (¬ Used b.blocks i))
      go true e = let u = (used_law b.blocks i).0 e in inl (u, λ n. neither i n u)
      go false e = let n = not_used i l e in inr (n, neither i n)
