-- A word that has a given step, put part by part.
-- Assumes nothing.
use Prim.Native.Nat.{ℕ, suc, ◌+◌, ◌-◌, ◌≤◌, ◌<◌}
use mathlib.Core.Path.{◌≡◌, refl, sym, ◌∙◌, ap, subst}
use mathlib.Core.Bool.{Bool, true, false}
use mathlib.Core.List.{List, [], ◌∷◌, ◌++◌}
use mathlib.Core.Logic.{◌⊎◌, inl, inr}
use native.Mathlib.Omega.{arith}
use native.Mathlib.Numerals.{add-one}
use lib.ListN.{get_or, set, length-set, length-append}
use Rattle.nameset.specs.Places.{places}
use Rattle.model.specs.declared.Chain.{Chain}
use Rattle.model.specs.Record.{no_factor, factor_of}
use Rattle.model_language.specs.Word.{Point, name}
use Rattle.model_language.specs.Step.{optional, place, Held}
use Rattle.model_language.proofs.Shown.{step_rises}
use Rattle.model_inclusion.specs.Over.{needed, lead, tail, word_over}
use Rattle.model_inclusion.proofs.Over.{needed_length, lead_length, over_length, over_shows, over_accepted}
use Rattle.byte_buffer.specs.Put.{wrote, Put}
use Rattle.byte_buffer.proofs.Puts.{Left, left_start, left_is, left_put, left_done, put_nothing, wrote_join}
use Rattle.model_places.specs.declared.Spot.{Spot}
use Rattle.model_places.specs.declared.Spot.TheVariants.{Start, Name, End}
use Rattle.model_places.specs.Places.{point}
use Rattle.model_counterexample.specs.Word.{name_in, Stepping, Shown}

-- ---- parts, put one behind the other

put_byte : (d : List ℕ) (at b : ℕ) → Put d at (b ∷ []) (at + 1) (set d at b)
unfolding wrote
put_byte d at b = record { place = refl; holds = refl; same = length-set d at b }

put_join : (d₀ : List ℕ) (at : ℕ) (a b d : List ℕ) (to : ℕ) (e : List ℕ) (stop : ℕ) → Put d₀ at a to d → Put d to b stop e → Put d₀ at (a ++ b) stop e
put_join d₀ at a b d to e stop p q =
    record {
      place = omega (arith, p.place, q.place, length-append a b);
      holds = q.holds ∙ rw (p.place, p.holds) (wrote_join a b d₀ at);
      same = q.same ∙ p.same;
    }

-- ---- the names that are needed of the factors from i up to `stop`

pub rest_of : List ℕ → List ℕ → ℕ → ℕ → List ℕ
rest_of modes names i stop = needed modes (name_in names) i (stop - i)

pub rest_start : (modes names : List ℕ) (first stop : ℕ) (d : List ℕ) (at : ℕ) → Left d at (needed modes (name_in names) first (stop - first)) d at (rest_of modes names first stop)
unfolding rest_of
rest_start modes names first stop d at = left_start d at _

module _ (modes names : List ℕ) (i stop : ℕ) (l : i < stop) where
  rest_taken : optional (get_or modes i 0) ≡ false → rest_of modes names i stop ≡ (get_or names i 0 ∷ []) ++ rest_of modes names (i + 1) stop
  unfolding rest_of needed name_in
  rest_taken e = let k : stop - i ≡ suc (stop - suc i) = omega arith in rw (k, e, add-one)

  rest_skipped : optional (get_or modes i 0) ≡ true → rest_of modes names i stop ≡ rest_of modes names (i + 1) stop
  unfolding rest_of needed name_in
  rest_skipped e = let k : stop - i ≡ suc (stop - suc i) = omega arith in rw (k, e, add-one)

  module _ (d₀ : List ℕ) (at : ℕ) (whole d : List ℕ) (to : ℕ) (h : Left d₀ at whole d to (rest_of modes names i stop)) {mode : ℕ} (f : mode ≡ get_or modes i 0) {b : Bool}
      (g : b ≡ optional mode) where
    pub rest_put : b ≡ false → {v : ℕ} → v ≡ get_or names i 0 → Left d₀ at whole (set d to v) (to + 1) (rest_of modes names (i + 1) stop)
    rest_put e q =
        let o : optional (get_or modes i 0) ≡ false = ap optional (sym f) ∙ sym g ∙ e in
        rw q (left_put d₀ at whole d to (get_or names i 0 ∷ []) (rest_of modes names (i + 1) stop) (set d to (get_or names i 0)) (to + 1)
        (left_is d₀ at whole d to _ _ (rest_taken o) h) (put_byte d to (get_or names i 0)))

    pub rest_kept : b ≡ true → Left d₀ at whole d to (rest_of modes names (i + 1) stop)
    rest_kept e =
        let o : optional (get_or modes i 0) ≡ true = ap optional (sym f) ∙ sym g ∙ e in
        left_is d₀ at whole d to _ _ (rest_skipped o) h

pub rest_done : (modes names : List ℕ) (i stop : ℕ) (d₀ : List ℕ) (at : ℕ) (whole d : List ℕ) (to : ℕ) → Left d₀ at whole d to (rest_of modes names i stop) → stop ≤ i → Put d₀ at whole to d
unfolding rest_of needed
rest_done modes names i stop d₀ at whole d to h l =
    let e : stop - i ≡ 0 = omega arith in
    left_done d₀ at whole d to (left_is d₀ at whole d to _ [] (rw e) h)

-- ---- the names before a point, and those behind it

-- A name of a factor of the record, as the code finds it.
module _ (m : Chain) (u : Spot) (x own : ℕ) (e : u ≡ Name x) (o : own ≡ get_or m.factor x no_factor) (s : Held m (point u)) where
  own_is : own ≡ factor_of m x
  unfolding factor_of
  own_is = o

  pub low : own < m.count
  low = let q : Held m (name x) = subst (λ (z : Spot). Held m (point z)) e s in omega (arith, own_is)

  -- before it there are no more names than factors
  pub lead_room : (names d₀ d : List ℕ) (at : ℕ) → Put d₀ 0 (needed m.mode (name_in names) 0 (own - 0)) at d → at ≤ own
  lead_room names d₀ d at p = omega (arith, p.place, needed_length m.mode (name_in names) (own - 0) 0)

  -- the names before it, and itself
  pub lead_put : (names d₀ d : List ℕ) (at : ℕ) → Put d₀ 0 (needed m.mode (name_in names) 0 (own - 0)) at d
      → Put d₀ 0 (lead m (name_in names) (point u)) (at + 1) (set d at x)
  lead_put names d₀ d at p =
      let z : own - 0 ≡ factor_of m x = omega (arith, own_is) in
      rw e (put_join d₀ 0 (needed m.mode (name_in names) 0 (factor_of m x)) (x ∷ []) d at (set d at x) (at + 1) (rw z at p) (put_byte d at x))

  -- itself, and the names behind it
  pub tail_put : (names d₀ d : List ℕ) (at stop : ℕ) → Put (set d₀ at x) (at + 1) (needed m.mode (name_in names) (own + 1) (m.count - (own + 1))) stop d
      → Put d₀ at (tail m (name_in names) (point u)) stop d
  tail_put names d₀ d at stop p =
      let z : own + 1 ≡ suc (factor_of m x) = omega (arith, own_is) in
      rw e (put_join d₀ at (x ∷ []) (needed m.mode (name_in names) (suc (factor_of m x)) (m.count - suc (factor_of m x))) (set d₀ at x) (at + 1) d stop (put_byte d₀ at x) (rw z at p))

  -- There is room for them, if what comes before has no more names than factors.
  pub tail_room : (at : ℕ) → at ≤ place m (point u) → at ≤ own + 1
  tail_room at l = omega (arith, own_is, subst (λ (z : Spot). at ≤ place m (point z)) e l)

-- No name before the start or the end, and none behind it.
pub lead_none : (m : Chain) (rep : ℕ → ℕ) (u : Spot) (d : List ℕ) → (u ≡ Start) ⊎ (u ≡ End) → Put d 0 (lead m rep (point u)) 0 d
lead_none m rep u d (inl e) = rw e (put_nothing d 0)
lead_none m rep u d (inr e) = rw e (put_nothing d 0)

pub tail_none : (m : Chain) (rep : ℕ → ℕ) (u : Spot) (d : List ℕ) (at : ℕ) → (u ≡ Start) ⊎ (u ≡ End) → Put d at (tail m rep (point u)) at d
tail_none m rep u d at (inl e) = rw e (put_nothing d at)
tail_none m rep u d at (inr e) = rw e (put_nothing d at)

-- ---- the whole word

module _ (m : Chain) (row : List ℕ) (u v : Point) (s : Stepping m row u v) where
  module _ (d₀ d : List ℕ) (at : ℕ) (p : Put d₀ 0 (lead m (name_in row) u) at d) where
    -- before the step there are no more names than factors
    pub lead_short : at ≤ place m v
    lead_short = omega (arith, p.place, lead_length m (name_in row) s.named u, (step_rises m u v s.step).0)

    pub word_shown : (stop : ℕ) (e : List ℕ) → Put d at (tail m (name_in row) v) stop e → Shown m u v d₀ stop e
    unfolding word_over
    word_shown stop e q =
        record {
          word = word_over m (name_in row) u v;
          accepted = over_accepted m (name_in row) s.named places s.names s.chain u v s.step;
          shows = over_shows m (name_in row) s.named u v s.step;
          short = over_length m (name_in row) s.named u v s.step;
          put = put_join d₀ 0 (lead m (name_in row) u) (tail m (name_in row) v) d at e stop p q;
        }
