-- The walk is refused exactly for the first fault of the pairs.
-- Assumes nothing.
use Rattle.std.specs.Prelude.{Ok, Err}
use Prim.Native.Nat.{ℕ, zero, suc, ◌%◌, ◌≤◌, ◌<◌}
use mathlib.Core.Path.{◌≡◌, refl, sym, ◌∙◌, ap}
use mathlib.Core.Bool.{Bool, true, false, not}
use mathlib.Core.List.{List, [], ◌∷◌, map}
use native.Mathlib.Omega.{arith}
use native.Mathlib.Decide.{ℕ_discrete, dec_lt}
use borrow.Author.Tests.{lt-ltb, le-ltb, le-leb, lt-leb, eq-eqb, ne_eqb}
use lib.Dec.{ltb}
use lib.ListN.{length, length-map}
use Rattle.refusal.specs.declared.Refusal.{Refusal}
use Rattle.refusal.specs.declared.Refusal.TheVariants.{BadDocument, TooDeep}
use Rattle.refusal.specs.Answer.{Answer, onward, refuse_if}
use Rattle.refusal.proofs.Answers.{refused_same, given_refused}
use Rattle.model_table.specs.Table.{Entry}
use Rattle.document.specs.declared.Frame.{Frame}
use Rattle.document.specs.Tree.{deepest}
use Rattle.document.specs.Fault.{Open, unbegun, inside, over, around, Outside, Fault, kind_above_2, number_not_below, text_with_number, close_unlike_open, close_with_none_open, text_outside_root, second_root, depth_33, Fine, the_root, an_open, its_close, some_text, FirstFault, here, later, no_root, open_left}
use Rattle.document.specs.Walk.{Place, before, within, behind, Progress, progress, out_of, opened, closed, texted, by_kind, one_pair, ended, walk}

-- What is open at a place of the walk.
pub names : List Frame → List ℕ
names fs = map (λ f. f.name) fs

unfoldable pub open_at : Place → Open
open_at before = unbegun
open_at (within f fs) = inside f.name (names fs)
open_at behind = over

names_length_lem : (fs : List Frame) → length (names fs) ≡ length fs
unfolding names
names_length_lem fs = length-map fs (λ f. f.name)

out_around : (fs : List Frame) → open_at (out_of fs) ≡ around (names fs)
unfolding open_at out_of names
out_around [] = refl
out_around (f ∷ fs) = refl

-- What a pair does where o is open: it has a fault, or it is fine.
module _ (n : ℕ) (entries : ℕ → Entry) where
  -- The answer a of a pair is right, where o is open before it.
  unfoldable pub Right : Open → ℕ → ℕ → Answer Progress → Type 0
  Right o kind x (Ok t) = Fine n o kind x (open_at t.place)
  Right o kind x (Err r) = Fault n o kind x r

  open_right : (x : ℕ) (p : Place) (g : Bool) → x < n → Right (open_at p) 0 x (opened entries x p g)
  unfolding Right opened open_at names
  open_right x before g l = the_root refl l refl refl
  open_right x (within f fs) g l = go (dec_lt (suc (length fs)) deepest)
    where
      go : Dec (suc (length fs) < deepest) → Right (open_at (within f fs)) 0 x (opened entries x (within f fs) g)
      go (yes d) = rw (lt-leb deepest (suc (length fs)) d) (an_open f.name (names fs) refl l refl (rw (names_length_lem fs) d) refl)
      go (no d) =
          let m : deepest ≤ suc (length fs) = omega arith in
          rw (le-leb deepest (suc (length fs)) m) (depth_33 f.name (names fs) refl l refl (rw (names_length_lem fs) m))
  open_right x behind g l = second_root refl refl

  close_right : (x : ℕ) (p : Place) (g : Bool) → x < n → Right (open_at p) 1 x (closed entries x p g)
  unfolding Right closed open_at names
  close_right x before g l = close_with_none_open refl tt
  close_right x (within f fs) g l = go (ℕ_discrete x f.name)
    where
      go : Dec (x ≡ f.name) → Right (open_at (within f fs)) 1 x (closed entries x (within f fs) g)
      go (yes e) = rw (eq-eqb x f.name e) (its_close (names fs) refl l (rw e) (out_around fs))
      go (no e) = rw (ne_eqb x f.name e) (close_unlike_open f.name (names fs) refl refl e)
  close_right x behind g l = close_with_none_open refl tt

  text_right : (x : ℕ) (p : Place) (g : Bool) → x < n → Right (open_at p) 2 x (texted entries x p g)
  unfolding Right texted open_at names
  text_right x before g l = text_outside_root refl tt
  text_right x (within f fs) g l = go (ℕ_discrete x 0)
    where
      go : Dec (x ≡ 0) → Right (open_at (within f fs)) 2 x (texted entries x (within f fs) g)
      go (yes e) = rw (eq-eqb x 0 e) (some_text f.name (names fs) refl l e refl refl)
      go (no e) = rw (ne_eqb x 0 e) (text_with_number refl e)
  text_right x behind g l = text_outside_root refl tt

  kind_right : (kind x : ℕ) (p : Place) (g : Bool) → x < n → Right (open_at p) kind x (by_kind entries x kind p g)
  unfolding by_kind Right
  kind_right zero x p g l = open_right x p g l
  kind_right (suc zero) x p g l = close_right x p g l
  kind_right (suc (suc zero)) x p g l = text_right x p g l
  kind_right (suc (suc (suc k))) x p g l = kind_above_2 (omega arith)

  pub pair_right : (kind x : ℕ) (p : Place) (g : Bool) → Right (open_at p) kind x (one_pair n entries (progress p g) kind x)
  unfolding one_pair Right
  pair_right kind x p g = go (dec_lt x n)
    where
      go : Dec (x < n) → Right (open_at p) kind x (one_pair n entries (progress p g) kind x)
      go (yes l) = rw (lt-ltb x n l) (kind_right kind x p g l)
      go (no l) = let m : n ≤ x = omega arith in rw (le-ltb x n m) (number_not_below m)

  -- ---- and the other way

  no_open : {y : ℕ} {ys : List ℕ} → unbegun ≡ inside y ys → ⊥
  no_open e = let z : ◌≡◌ {A = ℕ} 0 1 = cc in omega arith

  none_over : {y : ℕ} {ys : List ℕ} → over ≡ inside y ys → ⊥
  none_over e = let z : ◌≡◌ {A = ℕ} 0 1 = cc in omega arith

  same_name : {x y : ℕ} {xs ys : List ℕ} → inside x xs ≡ inside y ys → x ≡ y
  same_name e = cc

  same_names : {x y : ℕ} {xs ys : List ℕ} → inside x xs ≡ inside y ys → xs ≡ ys
  same_names e = cc

  -- 18, whether the number is below n or not.
  always : (b : Bool) → refuse_if {A = Progress} b BadDocument (Err BadDocument) ≡ Err BadDocument
  always true = refl
  always false = refl

  either_way : (kind x : ℕ) (p : Place) (g : Bool) → by_kind entries x kind p g ≡ Err BadDocument → one_pair n entries (progress p g) kind x ≡ Err BadDocument
  unfolding one_pair
  either_way kind x p g e = rw e (always (not (ltb x n)))

  high_kind : (k x : ℕ) (p : Place) (g : Bool) → 2 < k → by_kind entries x k p g ≡ Err BadDocument
  unfolding by_kind
  high_kind zero x p g l = absurd (omega arith)
  high_kind (suc zero) x p g l = absurd (omega arith)
  high_kind (suc (suc zero)) x p g l = absurd (omega arith)
  high_kind (suc (suc (suc k))) x p g l = refl

  number_high : (kind x : ℕ) (p : Place) (g : Bool) → n ≤ x → one_pair n entries (progress p g) kind x ≡ Err BadDocument
  unfolding one_pair
  number_high kind x p g l = rw (le-ltb x n l)

  text_numbered : (x : ℕ) (p : Place) (g : Bool) → (x ≡ 0 → ⊥) → by_kind entries x 2 p g ≡ Err BadDocument
  unfolding by_kind texted
  text_numbered x before g h = refl
  text_numbered x (within f fs) g h = rw (ne_eqb x 0 h)
  text_numbered x behind g h = refl

  text_out : (x : ℕ) (p : Place) (g : Bool) → Outside (open_at p) → by_kind entries x 2 p g ≡ Err BadDocument
  unfolding by_kind texted open_at
  text_out x before g h = refl
  text_out x (within f fs) g h = absurd h
  text_out x behind g h = refl

  close_out : (x : ℕ) (p : Place) (g : Bool) → Outside (open_at p) → by_kind entries x 1 p g ≡ Err BadDocument
  unfolding by_kind closed open_at
  close_out x before g h = refl
  close_out x (within f fs) g h = absurd h
  close_out x behind g h = refl

  close_unlike : (x : ℕ) (p : Place) (g : Bool) (y : ℕ) (ys : List ℕ) → open_at p ≡ inside y ys → (x ≡ y → ⊥) → by_kind entries x 1 p g ≡ Err BadDocument
  unfolding by_kind closed open_at
  close_unlike x before g y ys e h = absurd (no_open e)
  close_unlike x (within f fs) g y ys e h = rw (ne_eqb x f.name (λ q. h (q ∙ same_name e)))
  close_unlike x behind g y ys e h = absurd (none_over e)

  root_again : (x : ℕ) (p : Place) (g : Bool) → open_at p ≡ over → by_kind entries x 0 p g ≡ Err BadDocument
  unfolding by_kind opened open_at
  root_again x before g e = absurd (let z : ◌≡◌ {A = ℕ} 0 1 = cc in omega arith)
  root_again x (within f fs) g e = absurd (none_over (sym e))
  root_again x behind g e = refl

  too_deep : (x : ℕ) (p : Place) (g : Bool) (y : ℕ) (ys : List ℕ) → x < n → open_at p ≡ inside y ys → deepest ≤ length (y ∷ ys) → one_pair n entries (progress p g) 0 x ≡ Err TooDeep
  unfolding one_pair by_kind opened open_at
  too_deep x before g y ys l e d = absurd (no_open e)
  too_deep x (within f fs) g y ys l e d =
      let m : length (names fs) ≡ length ys = ap length (same_names e) in
      let q : deepest ≤ suc (length fs) = omega (arith, names_length_lem fs) in
      rw (lt-ltb x n l, le-leb deepest (suc (length fs)) q)
  too_deep x behind g y ys l e d = absurd (none_over e)

  pub fault_refused : (kind x : ℕ) (p : Place) (g : Bool) {r : Refusal} → Fault n (open_at p) kind x r → one_pair n entries (progress p g) kind x ≡ Err r
  fault_refused kind x p g (kind_above_2 l) = either_way kind x p g (high_kind kind x p g l)
  fault_refused kind x p g (number_not_below l) = number_high kind x p g l
  fault_refused kind x p g (text_with_number k h) = either_way kind x p g (rw k (text_numbered x p g h))
  fault_refused kind x p g (close_unlike_open y ys k e h) = either_way kind x p g (rw k (close_unlike x p g y ys e h))
  fault_refused kind x p g (close_with_none_open k h) = either_way kind x p g (rw k (close_out x p g h))
  fault_refused kind x p g (text_outside_root k h) = either_way kind x p g (rw k (text_out x p g h))
  fault_refused kind x p g (second_root k e) = either_way kind x p g (rw k (root_again x p g e))
  fault_refused kind x p g (depth_33 y ys k l e d) = rw k (too_deep x p g y ys l e d)

  -- A pair that is fine is not refused, and what is then open is what the walk has open.
  abbrev pub LeadsTo : Answer Progress → Open → Type 0
  LeadsTo a q = (t : Progress) × (a ≡ Ok t) × (open_at t.place ≡ q)

  fine_root : (x : ℕ) (p : Place) (g : Bool) (q : Open) → x < n → open_at p ≡ unbegun → q ≡ inside x [] → LeadsTo (one_pair n entries (progress p g) 0 x) q
  unfolding one_pair by_kind opened open_at names
  fine_root x before g q l e f = rw (lt-ltb x n l) (_, refl, sym f)
  fine_root x (within f fs) g q l e h = absurd (no_open (sym e))
  fine_root x behind g q l e h = absurd (let z : ◌≡◌ {A = ℕ} 0 1 = cc in omega arith)

  fine_open : (x : ℕ) (p : Place) (g : Bool) (q : Open) (y : ℕ) (ys : List ℕ) → x < n → open_at p ≡ inside y ys → length (y ∷ ys) < deepest → q ≡ inside x (y ∷ ys) →
      LeadsTo (one_pair n entries (progress p g) 0 x) q
  unfolding one_pair by_kind opened open_at names
  fine_open x before g q y ys l e d h = absurd (no_open e)
  fine_open x (within f fs) g q y ys l e d h =
      let m : length (names fs) ≡ length ys = ap length (same_names e) in
      let k : suc (length fs) < deepest = omega (arith, names_length_lem fs) in
      rw (lt-ltb x n l, lt-leb deepest (suc (length fs)) k) (_, refl, rw (same_name e, same_names e, h))
  fine_open x behind g q y ys l e d h = absurd (none_over e)

  fine_close : (x : ℕ) (p : Place) (g : Bool) (q : Open) (ys : List ℕ) → x < n → open_at p ≡ inside x ys → q ≡ around ys → LeadsTo (one_pair n entries (progress p g) 1 x) q
  unfolding one_pair by_kind closed open_at
  fine_close x before g q ys l e h = absurd (no_open e)
  fine_close x (within f fs) g q ys l e h = rw (lt-ltb x n l, eq-eqb x f.name (sym (same_name e))) (_, refl, out_around fs ∙ ap around (same_names e) ∙ sym h)
  fine_close x behind g q ys l e h = absurd (none_over e)

  fine_text : (x : ℕ) (p : Place) (g : Bool) (q : Open) (y : ℕ) (ys : List ℕ) → x < n → x ≡ 0 → open_at p ≡ inside y ys → q ≡ open_at p → LeadsTo (one_pair n entries (progress p g) 2 x) q
  unfolding one_pair by_kind texted open_at
  fine_text x before g q y ys l z e h = absurd (no_open e)
  fine_text x (within f fs) g q y ys l z e h = rw (lt-ltb x n l, eq-eqb x 0 z) (_, refl, sym h)
  fine_text x behind g q y ys l z e h = absurd (none_over e)

  pub fine_given : (kind x : ℕ) (p : Place) (g : Bool) (q : Open) → Fine n (open_at p) kind x q → LeadsTo (one_pair n entries (progress p g) kind x) q
  fine_given kind x p g q (the_root k l e h) = rw k (fine_root x p g q l e h)
  fine_given kind x p g q (an_open y ys k l e d h) = rw k (fine_open x p g q y ys l e d h)
  fine_given kind x p g q (its_close ys k l e h) = rw k (fine_close x p g q ys l e h)
  fine_given kind x p g q (some_text y ys k l z e h) = rw k (fine_text x p g q y ys l z e h)

  -- ---- all pairs

  ended_fault : (p : Place) (g : Bool) {r : Refusal} → ended p g ≡ Err r → FirstFault n (open_at p) [] r
  unfolding ended open_at
  ended_fault before g {r} e = rw (← refused_same {A = Bool} BadDocument r e) no_root
  ended_fault (within f fs) g {r} e = rw (← refused_same {A = Bool} BadDocument r e) open_left
  ended_fault behind g {r} e = absurd (given_refused g r e)

  pair_fault : (o : Open) (k x : ℕ) (w : List ℕ) (r : Refusal) (a : Answer Progress) → Right o k x a → onward a (λ t. walk n entries t w) ≡ Err r →
      ((t : Progress) → walk n entries t w ≡ Err r → FirstFault n (open_at t.place) w r) → FirstFault n o (k ∷ x ∷ w) r
  unfolding Right
  pair_fault o k x w r (Ok t) q h ih = later q (ih t h)
  pair_fault o k x w r (Err f) q h ih = here (rw (refused_same {A = Bool} f r h) at q)

  -- A refused walk has the fault; an even length has no lone byte.
  pub refused_fault : (w : List ℕ) (p : Place) (g : Bool) (r : Refusal) → length w % 2 ≡ 0 → walk n entries (progress p g) w ≡ Err r → FirstFault n (open_at p) w r
  unfolding walk
  refused_fault [] p g r even e = ended_fault p g e
  refused_fault (k ∷ []) p g r even e = absurd (omega arith)
  refused_fault (k ∷ x ∷ w) p g r even e =
      pair_fault (open_at p) k x w r (one_pair n entries (progress p g) k x) (pair_right k x p g) e (λ t h. refused_fault w t.place t.good r (omega arith) h)

  end_unbegun : (p : Place) (g : Bool) → open_at p ≡ unbegun → ended p g ≡ Err BadDocument
  unfolding ended open_at
  end_unbegun before g e = refl
  end_unbegun (within f fs) g e = refl
  end_unbegun behind g e = absurd (let z : ◌≡◌ {A = ℕ} 0 1 = cc in omega arith)

  end_inside : {y : ℕ} {ys : List ℕ} (p : Place) (g : Bool) → open_at p ≡ inside y ys → ended p g ≡ Err BadDocument
  unfolding ended open_at
  end_inside before g e = refl
  end_inside (within f fs) g e = refl
  end_inside behind g e = absurd (none_over e)

  pub fault_walk : {w : List ℕ} {o : Open} {r : Refusal} → FirstFault n o w r → (p : Place) (g : Bool) → open_at p ≡ o → walk n entries (progress p g) w ≡ Err r
  unfolding walk
  fault_walk (here {kind = k} {x = x} {w = w} {r = r} f) p g e = rw (fault_refused k x p g {r = r} (rw e f))
  fault_walk (later {q = q} {kind = k} {x = x} {w = w} {r = r} f l) p g e = go (fine_given k x p g q (rw e f)) (λ t h. fault_walk l t.place t.good h)
    where
      go : LeadsTo (one_pair n entries (progress p g) k x) q → ((t : Progress) → open_at t.place ≡ q → walk n entries t w ≡ Err r) → onward (one_pair n entries (progress p g) k x) (λ t. walk n entries t w) ≡ Err r
      go (t, a, b) ih = rw a (ih t b)
  fault_walk no_root p g e = end_unbegun p g e
  fault_walk open_left p g e = end_inside p g e
