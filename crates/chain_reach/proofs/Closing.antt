-- Laws of reach by closing: what one name reaches, and the names closed one after the other.
-- Assumes nothing.
use Prim.Native.Nat.{ℕ, ◌+◌, ◌≤◌, ◌<◌}
use mathlib.Core.Path.{◌≡◌, refl, sym, ◌∙◌, ap, subst}
use mathlib.Core.Bool.{Bool, true, false, ◌&&◌, ◌||◌, not}
use mathlib.Core.List.{List}
use mathlib.Core.Logic.{◌⊎◌, inl, inr}
use native.Mathlib.Omega.{arith}
use native.Mathlib.Decide.{ℕ_discrete}
use lib.Dec.{eqb}
use lib.ListN.{length}
use Rattle.nameset.specs.Places.{places}
use Rattle.nameset.specs.declared.NameSet.{NameSet}
use Rattle.nameset.specs.Set.{member}
use Rattle.nameset.specs.Rows.{row_at, put_row, no_rows}
use Rattle.nameset.proofs.Rows.{length_put, no_rows_lem}
use Rattle.nameset.proofs.Tests.{same_test}
use Rattle.model_language.specs.Reach.{Reach, one, more}
use Rattle.follow.specs.Follow.{Follow, steps}
use Rattle.chain_levels.specs.Below.{count_below}
use Rattle.chain_levels.specs.Reach.{edge, reaches}
use Rattle.chain_levels.proofs.Tests.{and_is, or_is, not_is, eqb_is, both_ways, refuted}
use Rattle.chain_levels.proofs.Below.{count_lt}
use Rattle.chain_levels.proofs.Reach.{edge_is, reaches_is, reaches_trans, reaches_below, reached_below}
use Rattle.chain_rows.specs.Rows.{in_row}
use Rattle.chain_rows.proofs.Laws.{row_is, put_same, put_other, none_related}
use Rattle.chain_reach.specs.Reached.{Edges, Reached, Closed, ReachOf, in_turn}

-- ---- what one name reaches

-- a step is reach
edge_reaches : (f : Follow) (a b : ℕ) → edge f a b ≡ true → reaches f a b ≡ true
edge_reaches f a b e = (reaches_is f a b).1 (one ((edge_is f a b).0 e))

-- Only what a reaches is gathered or left, all that follows a or a name gathered is, and no name is both.
pub record Gathered (follows : List ℕ) (a : ℕ) (s left : NameSet) : Type 0 where
  pub sound : (f : Follow) (n : ℕ) → Edges f n follows → (x : ℕ) → (member s x ≡ true) ⊎ (member left x ≡ true) → reaches f a x ≡ true
  pub begun : (x : ℕ) → in_row follows a x ≡ true → (member s x ≡ true) ⊎ (member left x ≡ true)
  pub onward : (x y : ℕ) → member s x ≡ true → in_row follows x y ≡ true → (member s y ≡ true) ⊎ (member left y ≡ true)
  pub apart : (x : ℕ) → member left x ≡ true → member s x ≡ false

pub gather_none : (follows : List ℕ) (a : ℕ) (s row : NameSet) → ((j : ℕ) → member s j ≡ false) → row ≡ row_at follows a → Gathered follows a s row
gather_none follows a s row none e =
    record {
      sound = sound;
      begun = λ x m. inr (row_is follows a row e x ∙ m);
      onward = λ x y m g. absurd (both_ways (member s x) m (none x));
      apart = λ x m. none x;
    }
  where
    sound : (f : Follow) (n : ℕ) → Edges f n follows → (x : ℕ) → (member s x ≡ true) ⊎ (member row x ≡ true) → reaches f a x ≡ true
    sound f n g x (inl m) = absurd (both_ways (member s x) m (none x))
    sound f n g x (inr m) = edge_reaches f a x (sym (g.law a x) ∙ sym (row_is follows a row e x) ∙ m)

-- a name that was left is gathered
pub gather_fewer : {follows : List ℕ} {a : ℕ} {s left : NameSet} → Gathered follows a s left → {b : ℕ} → (b < places) × (member left b ≡ true) → (known own next : NameSet) →
    ((j : ℕ) → member own j ≡ (member known j || eqb b j)) → ((j : ℕ) → member next j ≡ (member s j || member own j)) → count_below places (λ x. not (member next x)) < count_below places (λ x. not (member s x))
gather_fewer {follows} {a} {s} {left} p {b} (h, m) known own next own-law next-law =
    count_lt places (λ x. not (member next x)) (λ x. not (member s x)) (λ x l e. (not_is (member s x)).1 (refuted (member s x) (λ i. both_ways (member next x) (next-law x ∙ (or_is (member s x) (member own x)).1 (inl i)) ((not_is (member next x)).0 e)))) b h
    (ap not (next-law b ∙ (or_is (member s b) (member own b)).1 (inr (own-law b ∙ (or_is (member known b) (eqb b b)).1 (inr ((eqb_is b b).1 refl))))))
    (ap not (p.apart b m))

module _ {follows rows : List ℕ} (k : Closed follows rows) {a : ℕ} {s left : NameSet} (p : Gathered follows a s left) {b : ℕ} (found : (b < places) × (member left b ≡ true))
    (known own next step sum others : NameSet) (known-row : known ≡ row_at rows b) (own-law : (j : ℕ) → member own j ≡ (member known j || eqb b j)) (next-law : (j : ℕ) → member next j ≡ (member s j || member own j))
    (step_row : step ≡ row_at follows b) (sum-law : (j : ℕ) → member sum j ≡ (member left j || member step j)) (others-law : (j : ℕ) → member others j ≡ (member sum j && not (member next j))) where
  -- a name gathered now was gathered before, is known to be reached from b, or is b
  next_is : (x : ℕ) → member next x ≡ true → (member s x ≡ true) ⊎ ((in_row rows b x ≡ true) ⊎ (b ≡ x))
  next_is x m = go ((or_is (member s x) (member own x)).0 (sym (next-law x) ∙ m))
    where
      own_is : (in_row rows b x || eqb b x) ≡ true → (in_row rows b x ≡ true) ⊎ (b ≡ x)
      own_is e = in_own ((or_is (in_row rows b x) (eqb b x)).0 e)
        where
          in_own : (in_row rows b x ≡ true) ⊎ (eqb b x ≡ true) → (in_row rows b x ≡ true) ⊎ (b ≡ x)
          in_own (inl e) = inl e
          in_own (inr e) = inr ((eqb_is b x).0 e)

      go : (member s x ≡ true) ⊎ (member own x ≡ true) → (member s x ≡ true) ⊎ ((in_row rows b x ≡ true) ⊎ (b ≡ x))
      go (inl e) = inl e
      go (inr e) = inr (own_is (ap (λ (u : Bool). u || eqb b x) (sym (row_is rows b known known-row x)) ∙ sym (own-law x) ∙ e))

  next_has : (x : ℕ) → (member s x ≡ true) ⊎ ((in_row rows b x ≡ true) ⊎ (b ≡ x)) → member next x ≡ true
  next_has x (inl e) = next-law x ∙ (or_is (member s x) (member own x)).1 (inl e)
  next_has x (inr (inl e)) = next-law x ∙ (or_is (member s x) (member own x)).1 (inr (own-law x ∙ (or_is (member known x) (eqb b x)).1 (inl (row_is rows b known known-row x ∙ e))))
  next_has x (inr (inr e)) = next-law x ∙ (or_is (member s x) (member own x)).1 (inr (own-law x ∙ (or_is (member known x) (eqb b x)).1 (inr ((eqb_is b x).1 e))))

  -- what was left, or follows b, is gathered now or left
  still : (x : ℕ) → (member left x ≡ true) ⊎ (in_row follows b x ≡ true) → (member next x ≡ true) ⊎ (member others x ≡ true)
  still x h = go (member next x) refl
    where
      summed : (member left x ≡ true) ⊎ (in_row follows b x ≡ true) → member sum x ≡ true
      summed (inl e) = sum-law x ∙ (or_is (member left x) (member step x)).1 (inl e)
      summed (inr e) = sum-law x ∙ (or_is (member left x) (member step x)).1 (inr (row_is follows b step step_row x ∙ e))

      go : (u : Bool) → member next x ≡ u → (member next x ≡ true) ⊎ (member others x ≡ true)
      go true e = inl e
      go false e = inr (others-law x ∙ (and_is (member sum x) (not (member next x))).1 (summed h, (not_is (member next x)).1 e))

  kept : (x : ℕ) → (member s x ≡ true) ⊎ (member left x ≡ true) → (member next x ≡ true) ⊎ (member others x ≡ true)
  kept x (inl e) = inl (next_has x (inl e))
  kept x (inr e) = still x (inl e)

  others_is : (x : ℕ) → member others x ≡ true → ((member left x ≡ true) ⊎ (in_row follows b x ≡ true)) × (member next x ≡ false)
  others_is x m =
      let q = (and_is (member sum x) (not (member next x))).0 (sym (others-law x) ∙ m) in
      (go ((or_is (member left x) (member step x)).0 (sym (sum-law x) ∙ q.0)), (not_is (member next x)).0 q.1)
    where
      go : (member left x ≡ true) ⊎ (member step x ≡ true) → (member left x ≡ true) ⊎ (in_row follows b x ≡ true)
      go (inl e) = inl e
      go (inr e) = inr (sym (row_is follows b step step_row x) ∙ e)

  onward_more : (x y : ℕ) → (member s x ≡ true) ⊎ ((in_row rows b x ≡ true) ⊎ (b ≡ x)) → in_row follows x y ≡ true → (member next y ≡ true) ⊎ (member others y ≡ true)
  onward_more x y (inl e) g = kept y (p.onward x y e g)
  onward_more x y (inr (inl e)) g = inl (next_has y (inr (inl (k.onward b x y e g))))
  onward_more x y (inr (inr e)) g = still y (inr (subst (λ (z : ℕ). in_row follows z y ≡ true) (sym e) g))

  module _ (f : Follow) (n : ℕ) (g : Edges f n follows) where
    here : reaches f a b ≡ true
    here = p.sound f n g b (inr found.1)

    next_sound : (x : ℕ) → (member s x ≡ true) ⊎ ((in_row rows b x ≡ true) ⊎ (b ≡ x)) → reaches f a x ≡ true
    next_sound x (inl e) = p.sound f n g x (inl e)
    next_sound x (inr (inl e)) = reaches_trans f a b x here (k.sound f n g b x e)
    next_sound x (inr (inr e)) = subst (λ (z : ℕ). reaches f a z ≡ true) e here

    others_sound : (x : ℕ) → (member left x ≡ true) ⊎ (in_row follows b x ≡ true) → reaches f a x ≡ true
    others_sound x (inl e) = p.sound f n g x (inr e)
    others_sound x (inr e) = reaches_trans f a b x here (edge_reaches f b x (sym (g.law b x) ∙ e))

    sound_more : (x : ℕ) → (member next x ≡ true) ⊎ (member others x ≡ true) → reaches f a x ≡ true
    sound_more x (inl m) = next_sound x (next_is x m)
    sound_more x (inr m) = others_sound x (others_is x m).0

  pub gather_more : Gathered follows a next others
  gather_more = record { sound = sound_more; begun = λ x g. kept x (p.begun x g); onward = λ x y m g. onward_more x y (next_is x m) g; apart = λ x m. (others_is x m).1 }

-- none is left
module _ {follows : List ℕ} {a : ℕ} {s left : NameSet} (p : Gathered follows a s left) (none : (j : ℕ) → member left j ≡ false) where
  gone : (x : ℕ) → (member s x ≡ true) ⊎ (member left x ≡ true) → member s x ≡ true
  gone x (inl e) = e
  gone x (inr e) = absurd (both_ways (member left x) e (none x))

  module _ (f : Follow) (n : ℕ) (g : Edges f n follows) where
    from : {x y : ℕ} → member s x ≡ true → Reach (steps f) x y → member s y ≡ true
    from m (one {x = x} {y = y} h) = gone y (p.onward x y m (g.law x y ∙ (edge_is f x y).1 h))
    from m (more {x = x} {y = y} h r) = from (gone y (p.onward x y m (g.law x y ∙ (edge_is f x y).1 h))) r

    whole : {y : ℕ} → Reach (steps f) a y → member s y ≡ true
    whole (one {y = y} h) = gone y (p.begun y (g.law a y ∙ (edge_is f a y).1 h))
    whole (more {y = y} h r) = from (gone y (p.begun y (g.law a y ∙ (edge_is f a y).1 h))) r

  pub gather_all : ReachOf follows a s
  gather_all =
      record {
        law = λ f n g x. same_test (member s x) (reaches f a x) (λ m. p.sound f n g x (inl m)) (λ e. whole f n g ((reaches_is f a x).0 e));
        onward = λ x y m g. gone y (p.onward x y m g);
      }

-- ---- the names closed one after the other

turn_below : (down : Bool) (n i : ℕ) → i < n → in_turn down n i < n
unfolding in_turn
turn_below true n i h = omega arith
turn_below false n i h = h

turn_back : (down : Bool) (n i : ℕ) → i < n → in_turn down n (in_turn down n i) ≡ i
unfolding in_turn
turn_back true n i h = omega arith
turn_back false n i h = refl

-- The first i names in turn are closed.
pub record Closing (follows rows : List ℕ) (down : Bool) (n i : ℕ) : Type 0 where
  pub closed : Closed follows rows
  pub whole : (f : Follow) (m : ℕ) → Edges f m follows → (j y : ℕ) → j < i → reaches f (in_turn down n j) y ≡ true → in_row rows (in_turn down n j) y ≡ true

pub close_none : (follows : List ℕ) (down : Bool) (n : ℕ) → Closing follows (no_rows places) down n 0
close_none follows down n =
    record {
      closed = record { size = no_rows_lem places; sound = λ f m g a x e. absurd (both_ways (in_row (no_rows places) a x) e (none_related a x)); onward = λ a x y e g. absurd (both_ways (in_row (no_rows places) a x) e (none_related a x)) };
      whole = λ f m g j y h e. absurd (omega arith);
    }

module _ {follows rows : List ℕ} {down : Bool} {n i : ℕ} (k : Closing follows rows down n i) (a : ℕ) (small : a < places) (turn : a ≡ in_turn down n i)
    (row : NameSet) (reach : ReachOf follows a row) (next : List ℕ) (put : next ≡ put_row rows a row) where
  own : (x : ℕ) → in_row next a x ≡ member row x
  own x = ap (λ (t : List ℕ). in_row t a x) put ∙ put_same rows a row x (rw k.closed.size small)

  other : (b x : ℕ) → (b ≡ a → ⊥) → in_row next b x ≡ in_row rows b x
  other b x d = ap (λ (t : List ℕ). in_row t b x) put ∙ put_other rows a b row x d

  sound_next : (f : Follow) (m : ℕ) → Edges f m follows → (b x : ℕ) → Dec (b ≡ a) → in_row next b x ≡ true → reaches f b x ≡ true
  sound_next f m g b x (yes q) e = rw q (sym (reach.law f m g x) ∙ sym (own x) ∙ subst (λ (z : ℕ). in_row next z x ≡ true) q e)
  sound_next f m g b x (no q) e = k.closed.sound f m g b x (sym (other b x q) ∙ e)

  onward_next : (b x y : ℕ) → Dec (b ≡ a) → in_row next b x ≡ true → in_row follows x y ≡ true → in_row next b y ≡ true
  onward_next b x y (yes q) e g = rw q (own y ∙ reach.onward x y (sym (own x) ∙ subst (λ (z : ℕ). in_row next z x ≡ true) q e) g)
  onward_next b x y (no q) e g = other b y q ∙ k.closed.onward b x y (sym (other b x q) ∙ e) g

  whole_next : (f : Follow) (m : ℕ) → Edges f m follows → (j y : ℕ) → j < i + 1 → Dec (in_turn down n j ≡ a) → Dec (j ≡ i) → reaches f (in_turn down n j) y ≡ true → in_row next (in_turn down n j) y ≡ true
  whole_next f m g j y l (yes q) d e = rw q (own y ∙ reach.law f m g y ∙ subst (λ (z : ℕ). reaches f z y ≡ true) q e)
  whole_next f m g j y l (no q) (yes d) e = absurd (q (ap (in_turn down n) d ∙ sym turn))
  whole_next f m g j y l (no q) (no d) e = other (in_turn down n j) y q ∙ k.whole f m g j y (omega arith) e

  pub close_more : Closing follows next down n (i + 1)
  close_more =
      record {
        closed = record { size = ap length put ∙ length_put rows a row ∙ k.closed.size; sound = λ f m g b x e. sound_next f m g b x (ℕ_discrete b a) e; onward = λ b x y e g. onward_next b x y (ℕ_discrete b a) e g };
        whole = λ f m g j y l e. whole_next f m g j y l (ℕ_discrete (in_turn down n j) a) (ℕ_discrete j i) e;
      }

pub reached_all : {follows rows : List ℕ} {down : Bool} {n i : ℕ} → Closing follows rows down n i → n ≤ i → (f : Follow) → Edges f n follows → Reached f rows
reached_all {follows} {rows} {down} {n} {i} k h f g =
    record {
      names = record { size = k.closed.size; below = λ a b e. let r = k.closed.sound f n g a b e in (reaches_below f a b r, reached_below f a b r) };
      law = λ a b. same_test (in_row rows a b) (reaches f a b) (k.closed.sound f n g a b) (whole a b);
    }
  where
    whole : (a b : ℕ) → reaches f a b ≡ true → in_row rows a b ≡ true
    whole a b e =
        let l : a < n = omega (arith, reaches_below f a b e, g.same) in
        let back = turn_back down n a l in
        subst (λ (x : ℕ). in_row rows x b ≡ true) back (k.whole f n g (in_turn down n a) b (omega (arith, turn_below down n a l)) (subst (λ (x : ℕ). reaches f x b ≡ true) (sym back) e))
