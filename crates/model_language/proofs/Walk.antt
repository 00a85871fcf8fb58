-- A run through a word is a way from the start over its names to the end, each step a step of the record.
-- Assumes nothing.
use Prim.Native.Nat.{ℕ, zero, suc, ◌+◌, ◌-◌, ◌≤◌, ◌<◌}
use mathlib.Core.Path.{◌≡◌, refl, subst, subst₂}
use mathlib.Core.Bool.{Bool, true, false, false≢true}
use mathlib.Core.List.{List, [], ◌∷◌}
use mathlib.Core.Logic.{◌⊎◌, inl, inr, ◌↔◌}
use native.Mathlib.Omega.{arith}
use native.Mathlib.Decide.{ℕ_discrete}
use Rattle.model.specs.declared.Chain.{Chain}
use Rattle.model.specs.declared.Turn.TheVariants.{Take, Leave}
use Rattle.model.specs.Record.{factor_of, mode_of}
use Rattle.model.specs.Run.{either, turn_of}
use Rattle.model.proofs.Turns.{leave≢take, refuse≢take, refuse≢leave}
use Rattle.model.proofs.Acceptance.{Run, done, leave, take}
use Rattle.model_language.specs.Word.{Point, start, name, end, Beside}
use Rattle.model_language.specs.Step.{optional, repeats, place, Held, Over, Repeat, Step}

-- Every step on the way from u over w to the end is a step of m.
abbrev pub Walk : Chain → Point → List ℕ → Type 0
Walk m u [] = Step m u end
Walk m u (x ∷ w) = Step m u (name x) × Walk m (name x) w

pub walk_steps : (m : Chain) (p : Point) (w : List ℕ) → Walk m p w ↔ ((u v : Point) → Beside p w u v → Step m u v)
walk_steps m p w = (to p w, from p w)
  where
    to : (p : Point) (w : List ℕ) → Walk m p w → (u v : Point) → Beside p w u v → Step m u v
    to p [] s u v (e, f) = subst₂ (λ (a b : Point). Step m a b) e f s
    to p (x ∷ w) (s, r) u v (inl (e, f)) = subst₂ (λ (a b : Point). Step m a b) e f s
    to p (x ∷ w) (s, r) u v (inr b) = to (name x) w r u v b

    from : (p : Point) (w : List ℕ) → ((u v : Point) → Beside p w u v → Step m u v) → Walk m p w
    from p [] h = h p end (refl, refl)
    from p (x ∷ w) h = (h p (name x) (inl (refl, refl)), from (name x) w (λ u v b. h u v (inr b)))

-- ---- what turns a mode has

optional_turn : (f : ℕ) → (turn_of f false false ≡ Leave) ↔ (optional f ≡ true)
unfolding turn_of either optional
optional_turn zero = (λ e. absurd (refuse≢leave e), λ e. absurd (false≢true e))
optional_turn (suc zero) = (λ e. refl, λ e. refl)
optional_turn (suc (suc zero)) = (λ e. absurd (refuse≢leave e), λ e. absurd (false≢true e))
optional_turn (suc (suc (suc zero))) = (λ e. refl, λ e. refl)
optional_turn (suc (suc (suc (suc f)))) = (λ e. absurd (refuse≢leave e), λ e. absurd (false≢true e))

repeats_turn : (f : ℕ) → (turn_of f true true ≡ Take) ↔ (repeats f ≡ true)
unfolding turn_of either repeats
repeats_turn zero = (λ e. absurd (leave≢take e), λ e. absurd (false≢true e))
repeats_turn (suc zero) = (λ e. absurd (leave≢take e), λ e. absurd (false≢true e))
repeats_turn (suc (suc zero)) = (λ e. refl, λ e. refl)
repeats_turn (suc (suc (suc zero))) = (λ e. refl, λ e. refl)
repeats_turn (suc (suc (suc (suc f)))) = (λ e. absurd (refuse≢take e), λ e. absurd (false≢true e))

-- Every factor takes a first name, and is left after it.
first_turn : (f : ℕ) → f ≤ 3 → (turn_of f false true ≡ Take) × (turn_of f true false ≡ Leave)
unfolding turn_of either
first_turn zero l = (refl, refl)
first_turn (suc zero) l = (refl, refl)
first_turn (suc (suc zero)) l = (refl, refl)
first_turn (suc (suc (suc zero))) l = (refl, refl)
first_turn (suc (suc (suc (suc f)))) l = absurd (omega arith)

-- ---- from a run to a way

-- u lies before factor i, and every factor between them is optional.
pub record Before (m : Chain) (u : Point) (i : ℕ) : Type 0 where
  pub leaves : Held m u
  pub low : place m u ≤ i
  pub free : (j : ℕ) → place m u ≤ j → j < i → optional (mode_of m j) ≡ true

pub next_to : (m : Chain) (u : Point) → Held m u → Before m u (place m u)
next_to m u k = record { leaves = k; low = omega arith; free = λ j p q. absurd (omega arith) }

pub enter : (m : Chain) (u : Point) (i x : ℕ) → Before m u i → i < m.count → factor_of m x ≡ i → Step m u (name x)
enter m u i x b l h = record { leaves = b.leaves; meets = omega arith; way = inl record { rises = omega arith; free = λ j p q. b.free j p (omega arith) } }

pub stay : (m : Chain) (i x y : ℕ) → i < m.count → factor_of m x ≡ i → factor_of m y ≡ i → repeats (mode_of m i) ≡ true → Step m (name x) (name y)
stay m i x y l h k e = record { leaves = omega arith; meets = omega arith; way = inr record { factor = i; one = l; left = omega arith; right = omega arith; loop = e } }

pub finish : (m : Chain) (u : Point) (i : ℕ) → Before m u i → i ≡ m.count → Step m u end
finish m u i b e = record { leaves = b.leaves; meets = tt; way = inl record { rises = omega arith; free = λ j p q. b.free j p (omega arith) } }

-- u is where a run stands in factor i: before it, or at a name of it.
abbrev At : Chain → ℕ → Bool → Point → Type 0
At m i false u = Before m u i
At m i true u = (x : ℕ) × (u ≡ name x) × (factor_of m x ≡ i)

at_leave : (m : Chain) (i : ℕ) (t : Bool) (u : Point) → i < m.count → turn_of (mode_of m i) t false ≡ Leave → At m i t u → Before m u (suc i)
at_leave m i true u l e (x, p, h) = rw p record { leaves = omega arith; low = omega arith; free = λ j a b. absurd (omega arith) }
at_leave m i false u l e b = record { leaves = b.leaves; low = omega arith; free = λ j p q. go j p q (ℕ_discrete j i) }
  where
    go : (j : ℕ) → place m u ≤ j → j < suc i → Dec (j ≡ i) → optional (mode_of m j) ≡ true
    go j p q (yes f) = rw f ((optional_turn (mode_of m i)).0 e)
    go j p q (no d) = b.free j p (omega arith)

at_take : (m : Chain) (i x : ℕ) (t : Bool) (u : Point) → i < m.count → factor_of m x ≡ i → turn_of (mode_of m i) t true ≡ Take → At m i t u → Step m u (name x)
at_take m i x true u l h e (y, p, k) = rw p (stay m i y x l k h ((repeats_turn (mode_of m i)).0 e))
at_take m i x false u l h e b = enter m u i x b l h

at_end : (m : Chain) (i : ℕ) (t : Bool) (u : Point) → i ≡ m.count → Held m u → At m i t u → Step m u end
at_end m i true u e k (x, p, h) = absurd (omega (arith, rw p at k))
at_end m i false u e k b = finish m u i b e

pub run_walk : {m : Chain} {i : ℕ} {t : Bool} {w : List ℕ} → Run m i t w → (u : Point) → Held m u → At m i t u → Walk m u w
run_walk {m} {i} {t} (done e f) u k a = rw f (at_end m i t u e k a)
run_walk {m} {i} {t} (leave l e r) u k a = run_walk r u k (at_leave m i t u l e a)
run_walk {m} {i} {t} (take {x = x} l h e r) u k a = (at_take m i x t u l h e a, run_walk r (name x) (omega arith) (x, refl, h))

-- ---- from a way to a run

module _ (m : Chain) (known : (i : ℕ) → i < m.count → mode_of m i ≤ 3) where
  skip : (d i j : ℕ) (w : List ℕ) → i + d ≡ j → j ≤ m.count → ((k : ℕ) → i ≤ k → k < j → optional (mode_of m k) ≡ true) → Run m j false w → Run m i false w
  skip zero i j w e l h r = subst (λ (k : ℕ). Run m k false w) (omega arith) r
  skip (suc d) i j w e l h r =
      let a : i < m.count = omega arith in
      leave a ((optional_turn (mode_of m i)).1 (h i (omega arith) (omega arith))) (skip d (suc i) j w (omega arith) l (λ k p q. h k (omega arith) q) r)

  over_name : (u : Point) (y : ℕ) (w : List ℕ) → Over m u (name y) → factor_of m y < m.count → Run m (factor_of m y) true w → Run m (place m u) false (y ∷ w)
  over_name u y w o l r =
      let i = factor_of m y in
      skip (i - place m u) (place m u) i (y ∷ w) (omega (arith, o.rises)) (omega arith) (λ k p q. o.free k p (omega arith))
      (take l refl (first_turn (mode_of m i) (known i l)).0 r)

  over_end : (u : Point) → Over m u end → Run m (place m u) false []
  over_end u o =
      skip (m.count - place m u) (place m u) m.count [] (omega (arith, o.rises)) (omega arith) (λ k p q. o.free k p (omega arith)) (done refl refl)

  -- Behind a name its factor is left, or takes one more name.
  behind : (x : ℕ) (w : List ℕ) → factor_of m x < m.count → Run m (suc (factor_of m x)) false w → Run m (factor_of m x) true w
  behind x w l r = leave l (first_turn (mode_of m (factor_of m x)) (known (factor_of m x) l)).1 r

  name_run : (x : ℕ) (w : List ℕ) → Walk m (name x) w → Run m (factor_of m x) true w
  name_run x [] s = go s.way
    where
      go : Over m (name x) end ⊎ Repeat m (name x) end → Run m (factor_of m x) true []
      go (inl o) = behind x [] s.leaves (over_end (name x) o)
      go (inr t) = absurd (omega arith)
  name_run x (y ∷ w) (s, p) = go s.way (name_run y w p)
    where
      go : Over m (name x) (name y) ⊎ Repeat m (name x) (name y) → Run m (factor_of m y) true w → Run m (factor_of m x) true (y ∷ w)
      go (inl o) r = behind x (y ∷ w) s.leaves (over_name (name x) y w o s.meets r)
      go (inr t) r =
          let e : factor_of m y ≡ factor_of m x = omega arith in
          let f : t.factor ≡ factor_of m x = omega arith in
          take s.leaves e ((repeats_turn (mode_of m (factor_of m x))).1 (rw f at t.loop)) (rw e at r)

  pub walk_run : (w : List ℕ) → Walk m start w → Run m 0 false w
  walk_run [] s = go s.way
    where
      go : Over m start end ⊎ Repeat m start end → Run m 0 false []
      go (inl o) = over_end start o
      go (inr t) = absurd (omega arith)
  walk_run (y ∷ w) (s, p) = go s.way
    where
      go : Over m start (name y) ⊎ Repeat m start (name y) → Run m 0 false (y ∷ w)
      go (inl o) = over_name start y w o s.meets (name_run y w p)
      go (inr t) = absurd (omega arith)
