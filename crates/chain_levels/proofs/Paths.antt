-- Ways along the steps of follow facts: every name that occurs in a word lies on a way from start to end.
-- Assumes nothing.
use Prim.Native.Nat.{ℕ, ◌<◌}
use mathlib.Core.Path.{◌≡◌, refl, subst}
use mathlib.Core.Bool.{Bool, true, ◌&&◌, ◌||◌}
use mathlib.Core.List.{List, [], ◌∷◌, Memᴰ}
use mathlib.Core.Logic.{◌⊎◌, inl, inr, ⊎_elim, ◌↔◌}
use lib.Dec.{ltb}
use Rattle.model.specs.Accept.{Names}
use Rattle.model_language.specs.Word.{Point, start, name, end, Beside, Shows}
use Rattle.follow.specs.Follow.{Follow, follow_of, steps}
use Rattle.chain_levels.specs.Below.{any_below}
use Rattle.chain_levels.specs.Reach.{occurs}
use Rattle.chain_levels.specs.Level.{Occurs}
use Rattle.chain_levels.proofs.Tests.{and_is, or_is, ltb_is, some_is}
use Rattle.chain_levels.proofs.Facts.{start_name, steps_shown}

-- Zero or more steps lead from one point to another.
pub data Way (f : Follow) : Point → Point → Type 0 where
  here : {u : Point} → Way f u u
  by : {u v w : Point} → steps f u v → Way f v w → Way f u w

module _ (f : Follow) (x : ℕ) where
  follower : Bool
  follower = any_below f.names (λ b. f.follows b x)

  pub occurs_is : (occurs f x ≡ true) ↔ Occurs (steps f) x
  unfolding occurs follower
  occurs_is = (to, λ o. from o.0 o.1)
    where
      to : (ltb x f.names && (f.starts x || follower)) ≡ true → Occurs (steps f) x
      to e =
          let p = (and_is (ltb x f.names) (f.starts x || follower)).0 e in
          let h = (ltb_is x f.names).0 p.0 in
          ⊎_elim
          (λ s. (start, (h, s)))
          (λ s. let k = (some_is f.names (λ b. f.follows b x)).0 s in (name k.0, (k.1, h, k.2)))
          ((or_is (f.starts x) follower).0 p.1)

      join : x < f.names → (f.starts x ≡ true) ⊎ (follower ≡ true) → (ltb x f.names && (f.starts x || follower)) ≡ true
      join h s = (and_is (ltb x f.names) (f.starts x || follower)).1 ((ltb_is x f.names).1 h, (or_is (f.starts x) follower).1 s)

      from : (u : Point) → steps f u (name x) → (ltb x f.names && (f.starts x || follower)) ≡ true
      from start g = join g.0 (inl g.1)
      from (name y) g = join g.1 (inr ((some_is f.names (λ b. f.follows b x)).1 (y, g.0, g.2)))
      from end g = absurd g

  pub occurs_below : Occurs (steps f) x → x < f.names
  occurs_below (start, g) = g.0
  occurs_below (name y, g) = g.1
  occurs_below (end, g) = absurd g

-- What holds of the facts of words.
pub record Sampled (f : Follow) : Type 0 where
  -- a name that a step leaves occurs
  pub entered : (x : ℕ) (v : Point) → steps f (name x) v → Occurs (steps f) x
  -- a name that occurs lies on a way from start to end
  pub to_name : (x : ℕ) → Occurs (steps f) x → Way f start (name x)
  pub to_end : (x : ℕ) → Occurs (steps f) x → Way f (name x) end
  -- there is a word
  pub some_end : (u : Point) × steps f u end

way_on : {f : Follow} {u v w : Point} → Way f u v → steps f v w → Way f u w
way_on here g = by g here
way_on (by h r) g = by h (way_on r g)

-- ---- along a word

module _ (f : Follow) where
  abbrev All : Point → List ℕ → Type 0
  All p w = (u v : Point) → Beside p w u v → steps f u v

  all_way : (p : Point) (w : List ℕ) → All p w → Way f p end
  all_way p [] h = by (h p end (refl, refl)) here
  all_way p (x ∷ w) h = by (h p (name x) (inl (refl, refl))) (all_way (name x) w (λ u v s. h u v (inr s)))

  way_before : (p : Point) (w : List ℕ) (u v : Point) → All p w → Beside p w u v → Way f p u
  way_before p [] u v h s = subst (λ (q : Point). Way f p q) s.0 here
  way_before p (x ∷ w) u v h (inl s) = subst (λ (q : Point). Way f p q) s.0 here
  way_before p (x ∷ w) u v h (inr s) = by (h p (name x) (inl (refl, refl))) (way_before (name x) w u v (λ a b r. h a b (inr r)) s)

  way_behind : (p : Point) (w : List ℕ) (u v : Point) → All p w → Beside p w u v → Way f v end
  way_behind p [] u v h s = subst (λ (q : Point). Way f q end) s.1 here
  way_behind p (x ∷ w) u v h (inl s) = subst (λ (q : Point). Way f q end) s.1 (all_way (name x) w (λ a b r. h a b (inr r)))
  way_behind p (x ∷ w) u v h (inr s) = way_behind (name x) w u v (λ a b r. h a b (inr r)) s

  last_step : (p : Point) (w : List ℕ) → All p w → (u : Point) × steps f u end
  last_step p [] h = (p, h p end (refl, refl))
  last_step p (x ∷ w) h = last_step (name x) w (λ u v s. h u v (inr s))

  -- The last step of a way, if it has one.
  last_of : {u v : Point} → Way f u v → (u ≡ v) ⊎ ((p : Point) × steps f p v)
  last_of here = inl refl
  last_of (by {u = u} {v = v} {w = w} g r) = inr (go (last_of r))
    where
      go : (v ≡ w) ⊎ ((p : Point) × steps f p w) → (p : Point) × steps f p w
      go (inl e) = (u, subst (λ (q : Point). steps f u q) e g)
      go (inr p) = p

  entry : (x : ℕ) → Way f start (name x) → Occurs (steps f) x
  entry x r = ⊎_elim (λ e. absurd (start_name x e)) (λ p. p) (last_of r)

-- ---- of all words

module _ (n : ℕ) (words : List (List ℕ)) (names : (w : List ℕ) → Memᴰ w words → Names n w) where
  word_steps : (w : List ℕ) → Memᴰ w words → (u v : Point) → Shows w u v → steps (follow_of n words) u v
  word_steps w m u v s = (steps_shown n words names u v).1 (w, m, s)

  before : (u v : Point) → steps (follow_of n words) u v → Way (follow_of n words) start u
  before u v g =
      let k = (steps_shown n words names u v).0 g in
      way_before (follow_of n words) start k.0 u v (word_steps k.0 k.1) k.2

  behind : (u v : Point) → steps (follow_of n words) u v → Way (follow_of n words) v end
  behind u v g =
      let k = (steps_shown n words names u v).0 g in
      way_behind (follow_of n words) start k.0 u v (word_steps k.0 k.1) k.2

  pub entered_occurs : (x : ℕ) (v : Point) → steps (follow_of n words) (name x) v → Occurs (steps (follow_of n words)) x
  entered_occurs x v g = entry (follow_of n words) x (before (name x) v g)

  pub way_to_end : (x : ℕ) → Occurs (steps (follow_of n words)) x → Way (follow_of n words) (name x) end
  way_to_end x o = behind o.0 (name x) o.1

  pub sampled : ¬ (words ≡ []) → Sampled (follow_of n words)
  sampled some = record {
    entered = entered_occurs;
    to_name = λ x o. way_on (before o.0 (name x) o.1) o.1;
    to_end = way_to_end;
    some_end = go words some word_steps;
  }
    where
      go : (l : List (List ℕ)) → ¬ (l ≡ []) → ((w : List ℕ) → Memᴰ w l → (u v : Point) → Shows w u v → steps (follow_of n words) u v) → (u : Point) × steps (follow_of n words) u end
      go [] s h = absurd (s refl)
      go (w ∷ l) s h = last_step (follow_of n words) start w (h w (Memᴰ.head refl))
