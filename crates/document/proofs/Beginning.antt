-- Pairs have no fault exactly where they begin the document of a tree that is admitted. So the first fault is where no
-- such tree is left.
-- Assumes nothing.
use Rattle.std.specs.Prelude.{Ok, Err}
use Prim.Native.Nat.{ℕ, ◌%◌, ◌<◌}
use mathlib.Core.Path.{◌≡◌, refl, sym, ◌∙◌, ap}
use mathlib.Core.Bool.{Bool, true}
use mathlib.Core.List.{List, [], ◌∷◌, ◌++◌}
use mathlib.Core.Logic.{◌↔◌}
use native.Mathlib.Omega.{arith}
use lib.ListN.{length}
use Rattle.refusal.specs.Answer.{Answer}
use Rattle.refusal.proofs.Answers.{onward_given, given_same, given_refused}
use Rattle.std.proofs.Common.{None}
use Rattle.model_table.specs.Table.{Entry}
use Rattle.document.specs.Tree.{Tree, document_of, Admitted}
use Rattle.document.specs.Fault.{Open, unbegun, inside, over, around, Fine, the_root, an_open, its_close, some_text, Leads, done, onto}
use Rattle.document.specs.Walk.{Place, before, within, behind, Progress, progress, one_pair, ended, walk, start}
use Rattle.document.proofs.Forward.{walk_tree}
use Rattle.document.proofs.Backward.{has_tree}
use Rattle.document.proofs.Faults.{open_at, Right, pair_right, fine_given}

-- Any models will do.
none : ℕ → Entry
none x = None

-- The closes of these elements.
closes : List ℕ → List ℕ
closes [] = []
closes (y ∷ ys) = 1 ∷ y ∷ closes ys

-- What makes a document of pairs after which q is open.
rest_of : Open → List ℕ
rest_of unbegun = 0 ∷ 0 ∷ 1 ∷ 0 ∷ []
rest_of (inside y ys) = closes (y ∷ ys)
rest_of over = []

-- The names of all open elements are below n.
AllBelow : ℕ → List ℕ → Type 0
AllBelow n [] = Unit {0}
AllBelow n (y ∷ ys) = (y < n) × AllBelow n ys

OpenBelow : ℕ → Open → Type 0
OpenBelow n unbegun = Unit {0}
OpenBelow n (inside y ys) = AllBelow n (y ∷ ys)
OpenBelow n over = Unit {0}

module _ (n : ℕ) where
  around_below : (ys : List ℕ) → AllBelow n ys → OpenBelow n (around ys)
  unfolding AllBelow OpenBelow
  around_below [] h = tt
  around_below (y ∷ ys) h = h

  fine_below : (o q : Open) (k x : ℕ) → OpenBelow n o → Fine n o k x q → OpenBelow n q
  unfolding OpenBelow AllBelow
  fine_below o q k x h (the_root e l p r) = rw r (l, tt)
  fine_below o q k x h (an_open y ys e l p d r) = rw r (l, rw p at h)
  fine_below o q k x h (its_close ys e l p r) = rw r (around_below ys (second (rw p at h)))
    where
      second : (x < n) × AllBelow n ys → AllBelow n ys
      second (a, b) = b
  fine_below o q k x h (some_text y ys e l z p r) = rw r h

  leads_below : {o q : Open} {p : List ℕ} → OpenBelow n o → Leads n o p q → OpenBelow n q
  leads_below h done = h
  leads_below h (onto {o = o} {q = q} {kind = k} {x = x} f l) = leads_below (fine_below o q k x h f) l

  -- The walk over such pairs goes on where they lead to.
  abbrev GoesOn : Progress → List ℕ → Open → List ℕ → Type 0
  GoesOn s p q w = (t : Progress) × (open_at t.place ≡ q) × (walk n none s (p ++ w) ≡ walk n none t w)

  goes_on_lem : {o q : Open} {p : List ℕ} → Leads n o p q → (w : List ℕ) (s : Place) (g : Bool) → open_at s ≡ o → GoesOn (progress s g) p q w
  unfolding walk
  goes_on_lem done w s g e = (progress s g, e, refl)
  goes_on_lem (onto {q = q} {s = r} {kind = k} {x = x} {p = p} f l) w s g e = by (fine_given n none k x s g q (rw e f)) (λ t h. goes_on_lem l w t.place t.good h)
    where
      by : (t : Progress) × (one_pair n none (progress s g) k x ≡ Ok t) × (open_at t.place ≡ q) → ((t : Progress) → open_at t.place ≡ q → GoesOn t p r w) → GoesOn (progress s g) (k ∷ x ∷ p) r w
      by (t, a, b) ih = let i = ih t b in (i.0, i.1, rw a i.2)

  -- All elements closed, the walk is not refused.
  abbrev NotRefused : Progress → List ℕ → Type 0
  NotRefused s w = (b : Bool) × (walk n none s w ≡ Ok b)

  at_over : (s : Place) (g : Bool) → open_at s ≡ over → NotRefused (progress s g) []
  unfolding walk ended open_at
  at_over before g e = absurd (let z : ◌≡◌ {A = ℕ} 0 1 = cc in omega arith)
  at_over (within f fs) g e = absurd (let z : ◌≡◌ {A = ℕ} 0 1 = cc in omega arith)
  at_over behind g e = (g, refl)

  close_all : (ys : List ℕ) (s : Place) (g : Bool) → AllBelow n ys → open_at s ≡ around ys → NotRefused (progress s g) (closes ys)
  unfolding walk closes AllBelow
  close_all [] s g h e = at_over s g e
  close_all (y ∷ ys) s g h e = by (fine_given n none 1 y s g (around ys) (its_close ys refl h.0 e refl)) (λ t q. close_all ys t.place t.good h.1 q)
    where
      by : (t : Progress) × (one_pair n none (progress s g) 1 y ≡ Ok t) × (open_at t.place ≡ around ys) → ((t : Progress) → open_at t.place ≡ around ys → NotRefused t (closes ys)) →
          NotRefused (progress s g) (1 ∷ y ∷ closes ys)
      by (t, a, b) ih = let i = ih t b in (i.0, rw a i.1)

  end_all : 0 < n → (q : Open) (s : Place) (g : Bool) → OpenBelow n q → open_at s ≡ q → NotRefused (progress s g) (rest_of q)
  unfolding rest_of OpenBelow
  end_all l unbegun s g h e =
      let k = goes_on_lem (onto {q = inside 0 []} (the_root refl l refl refl) (onto {q = over} (its_close [] refl l refl refl) done)) [] s g e in
      let i = at_over k.0.place k.0.good k.1 in
      (i.0, k.2 ∙ i.1)
  end_all l (inside y ys) s g h e = close_all (y ∷ ys) s g h e
  end_all l over s g h e = at_over s g e

  -- ---- and the other way

  is_fine : (o : Open) (k x : ℕ) (a : Answer Progress) → Right n none o k x a → (t : Progress) → a ≡ Ok t → Fine n o k x (open_at t.place)
  unfolding Right
  is_fine o k x (Ok t) f u e = rw (← given_same t u e) f
  is_fine o k x (Err r) f u e = absurd (given_refused u r (sym e))

  given_leads : (p w : List ℕ) (s : Place) (g b : Bool) → length p % 2 ≡ 0 → walk n none (progress s g) (p ++ w) ≡ Ok b → (q : Open) × Leads n (open_at s) p q
  unfolding walk
  given_leads [] w s g b even e = (open_at s, done)
  given_leads (k ∷ []) w s g b even e = absurd (omega arith)
  given_leads (k ∷ x ∷ p) w s g b even e =
      let h = onward_given (one_pair n none (progress s g) k x) (λ t. walk n none t (p ++ w)) b e in
      let i = given_leads p w h.0.place h.0.good b (omega arith) h.2 in
      (i.0, onto (is_fine (open_at s) k x (one_pair n none (progress s g) k x) (pair_right n none k x s g) h.0 h.1) i.1)

  -- ---- the law

  pub beginning : 0 < n → (p : List ℕ) → length p % 2 ≡ 0 →
      ((q : Open) × Leads n unbegun p q) ↔ ((t : Tree) × (more : List ℕ) × Admitted n t × (p ++ more ≡ document_of t))
  unfolding open_at OpenBelow
  beginning some p even = (to, from)
    where
      to : (q : Open) × Leads n unbegun p q → (t : Tree) × (more : List ℕ) × Admitted n t × (p ++ more ≡ document_of t)
      to (q, l) =
          let k = goes_on_lem l (rest_of q) before true refl in
          let i = end_all some q k.0.place k.0.good (leads_below tt l) k.1 in
          let t = has_tree n none (p ++ rest_of q) i.0 (k.2 ∙ i.1) in
          (t.0, rest_of q, t.1, t.2)

      from : (t : Tree) × (more : List ℕ) × Admitted n t × (p ++ more ≡ document_of t) → (q : Open) × Leads n unbegun p q
      from (t, more, a, e) = given_leads p more before true _ even (ap (walk n none start) e ∙ walk_tree n none some t a)
