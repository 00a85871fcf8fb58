-- A chain's words form a local language: whether a word is accepted depends only on the steps that it shows. The
-- statements to read first.
-- Assumes nothing.
use Prim.Native.Nat.{ℕ, suc, ◌+◌, ◌-◌, ◌≤◌, ◌<◌}
use mathlib.Core.Path.{◌≡◌}
use mathlib.Core.List.{List, [], ◌∷◌}
use mathlib.Core.Logic.{◌⊎◌, inl, inr, ◌↔◌}
use native.Mathlib.Omega.{arith}
use lib.ListN.{length}
use Rattle.model.specs.declared.Chain.{Chain}
use Rattle.model.specs.Record.{no_factor, factor_of, IsChain}
use Rattle.model.specs.Accept.{Accepts, Names}
use Rattle.model.proofs.Acceptance.{accepts_run}
use Rattle.model_language.specs.Word.{Point, start, name, end, Shows, Fact, AcceptsAll}
use Rattle.model_language.specs.Reach.{Reach}
use Rattle.model_language.specs.Step.{Step, Includes, Ahead}
use Rattle.model_language.proofs.Walk.{Walk, walk_steps, next_to, run_walk, walk_run}
use Rattle.model_language.proofs.Shown.{step_up, point, onward, step_walk}
use Rattle.model_language.proofs.Reach.{reach_ahead, ahead_reach}
use Rattle.model_language.proofs.Include.{Extra, walk_names, steps_decided}

-- m is a chain over n names, in a record of any size.
module _ (size n : ℕ) (m : Chain) (c : IsChain size n m) where
  named : (i : ℕ) → i < m.count → (x : ℕ) × (factor_of m x ≡ i)
  named i l = let q = c.named i l in (q.0, q.2)

  -- A word is accepted exactly when the way from the start over its names to the end goes by steps of the record.
  pub accepts_walk : (w : List ℕ) → Accepts m w ↔ Walk m start w
  accepts_walk w = (λ a. run_walk ((accepts_run m w).0 a) start tt (next_to m start tt), λ p. (accepts_run m w).1 (walk_run m c.known w p))

  -- A. A word is accepted exactly when every step that it shows is a step of the record.
  pub accepts_steps : (w : List ℕ) → Accepts m w ↔ ((u v : Point) → Shows w u v → Step m u v)
  accepts_steps w =
      (λ a. (walk_steps m start w).0 ((accepts_walk w).0 a), λ h. (accepts_walk w).1 ((walk_steps m start w).1 h))

  -- B. All words of a list are accepted exactly when every fact of them is a step of the record.
  pub accepts_facts : (ws : List (List ℕ)) → AcceptsAll m ws ↔ ((u v : Point) → Fact ws u v → Step m u v)
  accepts_facts ws = (to ws, from ws)
    where
      to : (ws : List (List ℕ)) → AcceptsAll m ws → (u v : Point) → Fact ws u v → Step m u v
      to [] a u v f = absurd f
      to (w ∷ ws) (a, b) u v (inl s) = (accepts_steps w).0 a u v s
      to (w ∷ ws) (a, b) u v (inr f) = to ws b u v f

      from : (ws : List (List ℕ)) → ((u v : Point) → Fact ws u v → Step m u v) → AcceptsAll m ws
      from [] h = tt
      from (w ∷ ws) h = ((accepts_steps w).1 (λ u v s. h u v (inl s)), from ws (λ u v f. h u v (inr f)))

  -- C. Every step is shown by an accepted word of at most F + 1 names.
  pub step_shown : (u v : Point) → Step m u v → (w : List ℕ) × Accepts m w × (length w ≤ m.count + 1) × Shows w u v
  step_shown u v s = let r = step_walk m named u v s in (r.0, (accepts_walk r.0).1 r.1, r.2, r.3)

  -- D. A name reaches exactly the names of later factors, and those of its own factor if that repeats.
  pub reach_law : (x y : ℕ) → factor_of m y < m.count → Reach (Step m) x y ↔ Ahead m x y
  reach_law x y l = (λ r. reach_ahead m r, ahead_reach m named x y l)

  -- E. A step leads from every name that a factor holds, and one leads to it.
  pub step_from : (x : ℕ) → factor_of m x < m.count → (v : Point) × Step m (name x) v
  step_from x l = let r = onward m named (m.count - suc (factor_of m x)) (name x) l (omega arith) in go r.0 r.1
    where
      go : (w : List ℕ) → Walk m (name x) w → (v : Point) × Step m (name x) v
      go [] s = (end, s)
      go (y ∷ w) (s, p) = (name y, s)

  pub step_to : (x : ℕ) → factor_of m x < m.count → (u : Point) × Step m u (name x)
  step_to x l = let q = point m named (factor_of m x) (omega arith) in (q.0, step_up m q.0 x q.1 q.2 l)

  -- Only words of names below n are accepted, if no place has the number that means none.
  pub accepts_names : size ≤ no_factor → (w : List ℕ) → Accepts m w → Names n w
  accepts_names small w a = walk_names n m (omega (arith, c.few)) c.others start w ((accepts_walk w).0 a)

-- Two chains over the same n names.
module _ (size n : ℕ) (m k : Chain) (c : IsChain size n m) (d : IsChain size n k) where
  -- Every word of m is a word of k exactly when every step of m is a step of k.
  pub words_steps : ((w : List ℕ) → Accepts m w → Accepts k w) ↔ Includes m k
  words_steps = (
    λ f u v s. let r = step_shown size n m c u v s in (accepts_steps size n k d r.0).0 (f r.0 r.1) u v r.3,
    λ f w a. (accepts_steps size n k d w).1 (λ u v b. f u v ((accepts_steps size n m c w).0 a u v b)),
  )

  -- A word tells m from k: m accepts it and k does not. It has at most F + 1 names, all below n.
  abbrev Told : Type 0
  Told = (w : List ℕ) × Accepts m w × (¬ Accepts k w) × (length w ≤ m.count + 1) × Names n w

  -- It is decided: every word of m is one of k, or a word tells them apart.
  pub words_decided : size ≤ no_factor → ((w : List ℕ) → Accepts m w → Accepts k w) ⊎ Told
  words_decided small = go (steps_decided n m (omega (arith, c.few)) c.others k)
    where
      go : Includes m k ⊎ ((u : Point) × ((v : Point) × Extra m k u v)) → ((w : List ℕ) → Accepts m w → Accepts k w) ⊎ Told
      go (inl f) = inl (words_steps.1 f)
      go (inr (u, (v, (s, t)))) =
          let r = step_shown size n m c u v s in
          inr (r.0, r.1, (λ a. t ((accepts_steps size n k d r.0).0 a u v r.3)), r.2, accepts_names size n m c small r.0 r.1)
