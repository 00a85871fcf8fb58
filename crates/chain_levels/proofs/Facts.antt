-- Follow facts mean what they say: the steps of `follow_of n words` are the facts of the words.
-- Assumes nothing.
use Prim.Native.Nat.{ℕ, ◌<◌}
use mathlib.Core.Path.{◌≡◌, refl, sym, ap}
use mathlib.Core.Bool.{true, false, ◌&&◌, false≢true}
use mathlib.Core.List.Memᴰ
use mathlib.Core.List.{List, [], ◌∷◌, Memᴰ}
use mathlib.Core.Logic.{◌⊎◌, inl, inr, ◌↔◌}
use native.Mathlib.Omega.{arith}
use lib.Dec.{eqb}
use Rattle.model.specs.Accept.{Names}
use Rattle.model_language.specs.Word.{Point, start, name, end, Beside, Shows, Fact}
use Rattle.follow.specs.Follow.{begins_with, ends_with, has_pair, is_empty, follow_of, steps}
use Rattle.follow.proofs.Laws.{some_word_lem}
use Rattle.chain_levels.specs.Level.{Occurs}
use Rattle.chain_levels.proofs.Tests.{and_is, or_is, eqb_is}

-- ---- points are told apart

pub start_name : (x : ℕ) → start ≡ name x → ⊥
start_name x e = false≢true cc

end_start : end ≡ start → ⊥
end_start e = false≢true cc

end_name : (x : ℕ) → end ≡ name x → ⊥
end_name x e = false≢true cc

name_is : (x y : ℕ) → name x ≡ name y → x ≡ y
name_is x y e = cc

-- ---- what no word shows

-- No step leads to the start, none leaves the end, and only the first leaves the start.
not_to_start : (p : Point) (w : List ℕ) (u : Point) → Beside p w u start → ⊥
not_to_start p [] u s = end_start s.1
not_to_start p (x ∷ w) u (inl s) = start_name x (sym s.1)
not_to_start p (x ∷ w) u (inr s) = not_to_start (name x) w u s

not_from_end : (p : Point) (w : List ℕ) (v : Point) → (p ≡ end → ⊥) → Beside p w end v → ⊥
not_from_end p [] v n s = n s.0
not_from_end p (x ∷ w) v n (inl s) = n s.0
not_from_end p (x ∷ w) v n (inr s) = not_from_end (name x) w v (λ e. end_name x (sym e)) s

not_start_later : (x : ℕ) (w : List ℕ) (v : Point) → Beside (name x) w start v → ⊥
not_start_later x [] v s = start_name x (sym s.0)
not_start_later x (y ∷ w) v (inl s) = start_name x (sym s.0)
not_start_later x (y ∷ w) v (inr s) = not_start_later y w v s

-- ---- the tests of one word

begins_is : (x : ℕ) (w : List ℕ) → (begins_with x w ≡ true) ↔ Shows w start (name x)
unfolding begins_with
begins_is x [] = (λ e. absurd (false≢true e), λ s. absurd (end_name x s.1))
begins_is x (y ∷ w) = (λ e. inl (refl, ap name (sym ((eqb_is x y).0 e))), from)
  where
    from : Shows (y ∷ w) start (name x) → eqb x y ≡ true
    from (inl s) = (eqb_is x y).1 (sym (name_is y x s.1))
    from (inr s) = absurd (not_start_later y w (name x) s)

ends_rest : (x a : ℕ) (w : List ℕ) → (ends_with x (a ∷ w) ≡ true) ↔ Beside (name a) w (name x) end
unfolding ends_with
ends_rest x a [] = (λ e. (ap name (sym ((eqb_is x a).0 e)), refl), λ s. (eqb_is x a).1 (sym (name_is a x s.0)))
ends_rest x a (b ∷ w) = (λ e. inr ((ends_rest x b w).0 e), λ s. from s (ends_rest x b w).1)
  where
    from : Beside (name a) (b ∷ w) (name x) end → (Beside (name b) w (name x) end → ends_with x (b ∷ w) ≡ true) → ends_with x (b ∷ w) ≡ true
    from (inl s) ih = absurd (end_name b (sym s.1))
    from (inr s) ih = ih s

ends_is : (x : ℕ) (w : List ℕ) → (ends_with x w ≡ true) ↔ Shows w (name x) end
unfolding ends_with
ends_is x [] = (λ e. absurd (false≢true e), λ s. absurd (start_name x s.0))
ends_is x (a ∷ w) = (λ e. inr ((ends_rest x a w).0 e), from)
  where
    from : Shows (a ∷ w) (name x) end → ends_with x (a ∷ w) ≡ true
    from (inl s) = absurd (start_name x s.0)
    from (inr s) = (ends_rest x a w).1 s

pair_rest : (x y a : ℕ) (w : List ℕ) → (has_pair x y (a ∷ w) ≡ true) ↔ Beside (name a) w (name x) (name y)
unfolding has_pair
pair_rest x y a [] = (λ e. absurd (false≢true e), λ s. absurd (end_name y s.1))
pair_rest x y a (b ∷ w) = (
  λ e. to ((or_is (eqb x a && eqb y b) (has_pair x y (b ∷ w))).0 e) (pair_rest x y b w).0,
  λ s. (or_is (eqb x a && eqb y b) (has_pair x y (b ∷ w))).1 (from s (pair_rest x y b w).1),
)
  where
    to : ((eqb x a && eqb y b) ≡ true) ⊎ (has_pair x y (b ∷ w) ≡ true) → (has_pair x y (b ∷ w) ≡ true → Beside (name b) w (name x) (name y)) →
        Beside (name a) (b ∷ w) (name x) (name y)
    to (inl e) ih = let p = (and_is (eqb x a) (eqb y b)).0 e in inl (ap name (sym ((eqb_is x a).0 p.0)), ap name (sym ((eqb_is y b).0 p.1)))
    to (inr e) ih = inr (ih e)

    from : Beside (name a) (b ∷ w) (name x) (name y) → (Beside (name b) w (name x) (name y) → has_pair x y (b ∷ w) ≡ true) →
        ((eqb x a && eqb y b) ≡ true) ⊎ (has_pair x y (b ∷ w) ≡ true)
    from (inl s) ih = inl ((and_is (eqb x a) (eqb y b)).1 ((eqb_is x a).1 (sym (name_is a x s.0)), (eqb_is y b).1 (sym (name_is b y s.1))))
    from (inr s) ih = inr (ih s)

pair_is : (x y : ℕ) (w : List ℕ) → (has_pair x y w ≡ true) ↔ Shows w (name x) (name y)
unfolding has_pair
pair_is x y [] = (λ e. absurd (false≢true e), λ s. absurd (end_name y s.1))
pair_is x y (a ∷ w) = (λ e. inr ((pair_rest x y a w).0 e), from)
  where
    from : Shows (a ∷ w) (name x) (name y) → has_pair x y (a ∷ w) ≡ true
    from (inl s) = absurd (start_name x s.0)
    from (inr s) = (pair_rest x y a w).1 s

empty_is : (w : List ℕ) → (is_empty w ≡ true) ↔ Shows w start end
unfolding is_empty
empty_is [] = (λ e. (refl, refl), λ s. refl)
empty_is (a ∷ w) = (λ e. absurd (false≢true e), from)
  where
    from : Shows (a ∷ w) start end → false ≡ true
    from (inl s) = absurd (end_name a (sym s.1))
    from (inr s) = absurd (not_start_later a w end s)

-- ---- a list of words

pub fact_word : (words : List (List ℕ)) (u v : Point) → Fact words u v ↔ ((w : List ℕ) × Memᴰ w words × Shows w u v)
fact_word [] u v = (λ f. absurd f, λ p. absurd (Memᴰ.not-nil p.1))
fact_word (x ∷ ws) u v = (λ f. to f (fact_word ws u v).0, λ p. from p (fact_word ws u v).1)
  where
    to : Fact (x ∷ ws) u v → (Fact ws u v → (w : List ℕ) × Memᴰ w ws × Shows w u v) → (w : List ℕ) × Memᴰ w (x ∷ ws) × Shows w u v
    to (inl s) ih = (x, Memᴰ.head refl, s)
    to (inr f) ih = let p = ih f in (p.0, Memᴰ.tail p.1, p.2)

    from : ((w : List ℕ) × Memᴰ w (x ∷ ws) × Shows w u v) → (((w : List ℕ) × Memᴰ w ws × Shows w u v) → Fact ws u v) → Fact (x ∷ ws) u v
    from (w, m, s) ih = go (Memᴰ.cases_cons m)
      where
        go : (w ≡ x) ⊎ Memᴰ w ws → Fact (x ∷ ws) u v
        go (inl q) = inl (rw q at s)
        go (inr q) = inr (ih (w, q, s))

-- ---- the names of a word are those that its steps lead to

beside_in : (p : Point) (w : List ℕ) (u : Point) (x : ℕ) → Beside p w u (name x) → Memᴰ x w
beside_in p [] u x s = absurd (end_name x s.1)
beside_in p (y ∷ w) u x (inl s) = Memᴰ.head (sym (name_is y x s.1))
beside_in p (y ∷ w) u x (inr s) = Memᴰ.tail (beside_in (name y) w u x s)

in_beside : (p : Point) (w : List ℕ) (x : ℕ) → Memᴰ x w → (u : Point) × Beside p w u (name x)
in_beside p [] x m = absurd (Memᴰ.not-nil m)
in_beside p (y ∷ w) x m = go (Memᴰ.cases_cons m) (in_beside (name y) w x)
  where
    go : (x ≡ y) ⊎ Memᴰ x w → (Memᴰ x w → (u : Point) × Beside (name y) w u (name x)) → (u : Point) × Beside p (y ∷ w) u (name x)
    go (inl e) ih = (p, inl (refl, ap name (sym e)))
    go (inr t) ih = let r = ih t in (r.0, inr r.1)

pub occurs_in : (words : List (List ℕ)) (x : ℕ) → Occurs (Fact words) x ↔ ((w : List ℕ) × Memᴰ w words × Memᴰ x w)
occurs_in words x = (
  λ (u, g). let k = (fact_word words u (name x)).0 g in (k.0, k.1, beside_in start k.0 u x k.2),
  λ (w, m, i). let b = in_beside start w x i in (b.0, (fact_word words b.0 (name x)).1 (w, m, b.1)),
)

-- ---- numbers of a word

from_below : (n a : ℕ) (w : List ℕ) (x : ℕ) (v : Point) → a < n → Names n w → Beside (name a) w (name x) v → x < n
from_below n a [] x v h l s = let e = name_is a x s.0 in omega arith
from_below n a (y ∷ w) x v h l (inl s) = let e = name_is a x s.0 in omega arith
from_below n a (y ∷ w) x v h l (inr s) = from_below n y w x v l.0 l.1 s

first_below_lem : (n : ℕ) (w : List ℕ) (x : ℕ) (v : Point) → Names n w → Shows w (name x) v → x < n
first_below_lem n [] x v l s = absurd (start_name x s.0)
first_below_lem n (y ∷ w) x v l (inl s) = absurd (start_name x s.0)
first_below_lem n (y ∷ w) x v l (inr s) = from_below n y w x v l.0 l.1 s

to_below : (n : ℕ) (p : Point) (w : List ℕ) (u : Point) (y : ℕ) → Names n w → Beside p w u (name y) → y < n
to_below n p [] u y l s = absurd (end_name y s.1)
to_below n p (x ∷ w) u y l (inl s) = let e = name_is x y s.1 in let h = l.0 in omega arith
to_below n p (x ∷ w) u y l (inr s) = to_below n (name x) w u y l.1 s

-- ---- the law

module _ (n : ℕ) (words : List (List ℕ)) where
  shown : (u v : Point) → steps (follow_of n words) u v → (w : List ℕ) × Memᴰ w words × Shows w u v
  shown start start g = absurd g
  shown start (name y) g = let k = (some_word_lem (begins_with y) words).0 g.1 in (k.0, k.1, (begins_is y k.0).0 k.2)
  shown start end g = let k = (some_word_lem is_empty words).0 g in (k.0, k.1, (empty_is k.0).0 k.2)
  shown (name x) start g = absurd g
  shown (name x) (name y) g = let k = (some_word_lem (has_pair x y) words).0 g.2 in (k.0, k.1, (pair_is x y k.0).0 k.2)
  shown (name x) end g = let k = (some_word_lem (ends_with x) words).0 g.1 in (k.0, k.1, (ends_is x k.0).0 k.2)
  shown end v g = absurd g

  module _ (names : (w : List ℕ) → Memᴰ w words → Names n w) where
    step : (u v : Point) (w : List ℕ) → Memᴰ w words → Shows w u v → steps (follow_of n words) u v
    step start start w m s = absurd (not_to_start start w start s)
    step start (name y) w m s = (to_below n start w start y (names w m) s, (some_word_lem (begins_with y) words).1 (w, m, (begins_is y w).1 s))
    step start end w m s = (some_word_lem is_empty words).1 (w, m, (empty_is w).1 s)
    step (name x) start w m s = absurd (not_to_start start w (name x) s)
    step (name x) (name y) w m s = (
      first_below_lem n w x (name y) (names w m) s,
      to_below n start w (name x) y (names w m) s,
      (some_word_lem (has_pair x y) words).1 (w, m, (pair_is x y w).1 s),
    )
    step (name x) end w m s = (first_below_lem n w x end (names w m) s, (some_word_lem (ends_with x) words).1 (w, m, (ends_is x w).1 s))
    step end v w m s = absurd (not_from_end start w v (λ e. end_start (sym e)) s)

    -- A step of the follow facts is a step that some word shows.
    pub steps_shown : (u v : Point) → steps (follow_of n words) u v ↔ ((w : List ℕ) × Memᴰ w words × Shows w u v)
    steps_shown u v = (shown u v, λ p. step u v p.0 p.1 p.2)

    pub steps_facts : (u v : Point) → steps (follow_of n words) u v ↔ Fact words u v
    steps_facts u v = (λ g. (fact_word words u v).1 (shown u v g), λ f. (steps_shown u v).1 ((fact_word words u v).0 f))

    -- So each fact is a step between names below n.
    pub starts_step : (a : ℕ) → (follow_of n words).starts a ≡ true → steps (follow_of n words) start (name a)
    starts_step a e = let k = (some_word_lem (begins_with a) words).0 e in step start (name a) k.0 k.1 ((begins_is a k.0).0 k.2)

    pub ends_step : (a : ℕ) → (follow_of n words).ends a ≡ true → steps (follow_of n words) (name a) end
    ends_step a e = let k = (some_word_lem (ends_with a) words).0 e in step (name a) end k.0 k.1 ((ends_is a k.0).0 k.2)

    pub follows_step : (a b : ℕ) → (follow_of n words).follows a b ≡ true → steps (follow_of n words) (name a) (name b)
    follows_step a b e = let k = (some_word_lem (has_pair a b) words).0 e in step (name a) (name b) k.0 k.1 ((pair_is a b k.0).0 k.2)
