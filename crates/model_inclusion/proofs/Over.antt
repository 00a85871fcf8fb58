-- The word over a step: it has the step, the record accepts it, and it has at most F + 1 names.
-- Assumes nothing.
use Prim.Native.Nat.{ℕ, zero, suc, ◌+◌, ◌-◌, ◌≤◌, ◌<◌}
use mathlib.Core.Path.{◌≡◌, refl, subst}
use mathlib.Core.Bool.{Bool, true, false, cond}
use mathlib.Core.List.{List, [], ◌∷◌, ◌++◌, append_assoc, append-nil}
use mathlib.Core.Logic.{inl, inr}
use native.Mathlib.Omega.{arith}
use lib.ListN.{length, get_or, length-append}
use Rattle.model.specs.declared.Chain.{Chain}
use Rattle.model.specs.Record.{factor_of, mode_of, IsChain}
use Rattle.model.specs.Accept.{Accepts}
use Rattle.model_language.specs.Word.{Point, start, name, end, Beside, Shows}
use Rattle.model_language.specs.Step.{optional, place, Held, Step}
use Rattle.model_language.proofs.Walk.{Walk, Before, next_to, enter, finish}
use Rattle.model_language.proofs.Shown.{step_rises}
use Rattle.model_language.proofs.Theorem.{accepts_walk}
use Rattle.model_inclusion.specs.Over.{needed, lead, tail, word_over}
use Rattle.model_inclusion.proofs.Pass.{before_up}

pub needed_length : (modes : List ℕ) (rep : ℕ → ℕ) (k i : ℕ) → length (needed modes rep i k) ≤ k
unfolding needed
needed_length modes rep zero i = omega arith
needed_length modes rep (suc k) i = go (optional (get_or modes i 0)) (needed_length modes rep k (suc i))
  where
    go : (b : Bool) → length (needed modes rep (suc i) k) ≤ k → length (cond b (needed modes rep (suc i) k) (rep i ∷ needed modes rep (suc i) k)) ≤ suc k
    go true h = omega arith
    go false h = omega arith

module _ (m : Chain) (rep : ℕ → ℕ) (named : (i : ℕ) → i < m.count → factor_of m (rep i) ≡ i) where
  -- A step into factor i, and past it.
  past : (i : ℕ) (u : Point) → Before m u i → i < m.count → Step m u (name (rep i)) × Before m (name (rep i)) (suc i)
  past i u b l =
      let q = named i l in
      (enter m u i (rep i) b l q, subst (λ (z : ℕ). Before m (name (rep i)) (suc z)) q (next_to m (name (rep i)) (omega arith)))

  -- From a point before factor i the names that are needed of the next k factors, and then on as from behind them.
  on_walk : (k i : ℕ) (u : Point) (z : List ℕ) → Before m u i → i + k ≤ m.count → ((v : Point) → Before m v (i + k) → Walk m v z)
      → Walk m u (needed m.mode rep i k ++ z)
  unfolding needed mode_of
  on_walk zero i u z b n last = let e : i ≡ i + 0 = omega arith in last u (subst (λ (j : ℕ). Before m u j) e b)
  on_walk (suc k) i u z b n last =
      let e : suc i + k ≡ i + suc k = omega arith in
      go (optional (get_or m.mode i 0)) refl (λ v c. on_walk k (suc i) v z c (omega arith) (λ y d. last y (subst (λ (j : ℕ). Before m y j) e d)))
    where
      go : (t : Bool) → optional (get_or m.mode i 0) ≡ t → ((v : Point) → Before m v (suc i) → Walk m v (needed m.mode rep (suc i) k ++ z))
          → Walk m u (cond t (needed m.mode rep (suc i) k) (rep i ∷ needed m.mode rep (suc i) k) ++ z)
      go true e next = next u (before_up m u i b e)
      go false e next = let s = past i u b (omega arith) in (s.0, next (name (rep i)) s.1)

  on_shows : (k i : ℕ) (u : Point) (x : ℕ) (w : List ℕ) (a b : Point) → Beside (name x) w a b → Beside u (needed m.mode rep i k ++ (x ∷ w)) a b
  unfolding needed
  on_shows zero i u x w a b s = inr s
  on_shows (suc k) i u x w a b s = go (optional (get_or m.mode i 0)) (λ v. on_shows k (suc i) v x w a b s)
    where
      go : (t : Bool) → ((v : Point) → Beside v (needed m.mode rep (suc i) k ++ (x ∷ w)) a b)
          → Beside u (cond t (needed m.mode rep (suc i) k) (rep i ∷ needed m.mode rep (suc i) k) ++ (x ∷ w)) a b
      go true next = next u
      go false next = inr (next (name (rep i)))

  -- The step from u to v, and then on to the end.
  tail_walk : (u v : Point) → Step m u v → Walk m u (tail m rep v) × Beside u (tail m rep v) u v
  tail_walk u start s = absurd (omega (arith, (step_rises m u start s).1))
  tail_walk u (name y) s =
      let k = m.count - suc (factor_of m y) in
      let p = on_walk k (suc (factor_of m y)) (name y) [] (next_to m (name y) s.meets) (omega (arith, s.meets)) (λ v b. finish m v (suc (factor_of m y) + k) b (omega (arith, s.meets))) in
      ((s, subst (Walk m (name y)) (append-nil (needed m.mode rep (suc (factor_of m y)) k)) p), inl (refl, refl))
  tail_walk u end s = (s, (refl, refl))

  over_walk : (u v : Point) → Step m u v → Walk m start (word_over m rep u v) × Shows (word_over m rep u v) u v
  unfolding word_over
  over_walk start v s = tail_walk start v s
  over_walk (name x) v s =
      let p = tail_walk (name x) v s in
      let e = append_assoc (needed m.mode rep 0 (factor_of m x)) (x ∷ []) (tail m rep v) in (
        rw e (on_walk (factor_of m x) 0 start (x ∷ tail m rep v) (next_to m start tt) (omega (arith, s.leaves)) (λ y b. (enter m y (0 + factor_of m x) x b (omega (arith, s.leaves)) (omega arith), p.0))),
        rw e (on_shows (factor_of m x) 0 start x (tail m rep v) (name x) v p.1),
      )
  over_walk end v s = absurd (omega (arith, (step_rises m end v s).2))

  tail_length : (v : Point) → Held m v → length (tail m rep v) + place m v ≤ m.count + 1
  tail_length start h = omega arith
  tail_length (name y) h = omega (arith, needed_length m.mode rep (m.count - suc (factor_of m y)) (suc (factor_of m y)))
  tail_length end h = omega arith

  pub lead_length : (u : Point) → length (lead m rep u) ≤ place m u
  lead_length start = omega arith
  lead_length (name x) = omega (arith, length-append (needed m.mode rep 0 (factor_of m x)) (x ∷ []), needed_length m.mode rep (factor_of m x) 0)
  lead_length end = omega arith

  pub over_length : (u v : Point) → Step m u v → length (word_over m rep u v) ≤ m.count + 1
  unfolding word_over
  over_length u v s =
      omega (arith, length-append (lead m rep u) (tail m rep v), lead_length u, tail_length v s.meets, (step_rises m u v s).0)

  pub over_shows : (u v : Point) → Step m u v → Shows (word_over m rep u v) u v
  over_shows u v s = (over_walk u v s).1

  pub over_accepted : (size n : ℕ) → IsChain size n m → (u v : Point) → Step m u v → Accepts m (word_over m rep u v)
  over_accepted size n c u v s = (accepts_walk size n m c (word_over m rep u v)).1 (over_walk u v s).0
