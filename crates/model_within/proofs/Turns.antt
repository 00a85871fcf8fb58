-- The pass over the first chain's factors, turn by turn.
-- Assumes nothing.
use Prim.Native.Nat.{ℕ, ◌+◌, ◌≤◌, ◌<◌}
use mathlib.Core.Path.{◌≡◌, refl, sym, ◌∙◌, ap, subst}
use mathlib.Core.Bool.{Bool, true, false, not}
use mathlib.Core.List.{List}
use Rattle.std.specs.Prelude.{Option, None, Some, is_some, Result, Ok, Err}
use Rattle.std.specs.Result.{result_err}
use mathlib.Core.Logic.{inl, inr}
use native.Mathlib.Omega.{arith}
use native.Mathlib.Decide.{dec_lt}
use native.Mathlib.Numerals.{add-one}
use borrow.Author.Tests.{not-true, not-false}
use lib.ListN.{get_or, get_or-eq_default}
use Rattle.nameset.specs.Places.{places}
use Rattle.model.specs.declared.Chain.{Chain}
use Rattle.model.specs.Record.{no_factor, factor_of, mode_of, IsChain}
use Rattle.model_language.specs.Word.{Point, name, end}
use Rattle.model_language.specs.Step.{optional, repeats, Step}
use Rattle.model_inclusion.specs.Search.{within}
use Rattle.model_inclusion.specs.Spans.{Spans}
use Rattle.model_inclusion.proofs.Search.{steps_in, steps_out}
use Rattle.model_inclusion.proofs.Pass.{Passed, step_low, step_high, step_loop, passed_optional, passed_required, step_last, passed_all}
use Rattle.model_places.specs.declared.Spot.{Spot}
use Rattle.model_places.specs.declared.Spot.TheVariants.{Name, End}
use Rattle.model_places.specs.declared.Step.{Step as Arrow}
use Rattle.model_places.specs.Places.{point, has_step}
use Rattle.model_places.proofs.Steps.{step_law, no_step}
use Rattle.model_extremes.specs.declared.Extremes.{Extremes}
use Rattle.model_extremes.specs.Extremes.{AreExtremes}
use Rattle.model_extremes.proofs.Rows.{extremes_law}
use Rattle.model_within.specs.declared.Frontier.{Frontier}
use Rattle.model_within.specs.declared.Span.{Span}
use Rattle.model_within.proofs.Tests.{spot_name}
use Rattle.model_within.specs.Pass.{Comparable, spot_at, low_next, Needed, PassedBy, Told}

-- Chains with the extremes of their factors.
pub comparable : (n : ℕ) (m k : Chain) (r : Extremes) → IsChain places n m → IsChain places n k → AreExtremes n m.factor k.factor r
    → Comparable m k r.low r.high
comparable n m k r c d x = record { names = n; first = c; second = d; spans = extremes_law n m k r c x }

module _ (m k : Chain) (low high : List ℕ) (h : Comparable m k low high) where
  has : (u v : Point) → has_step k u v ≡ true → Step k u v
  has u v = (step_law places h.names k h.second (omega arith) u v).0

  not_has : (u v : Point) → has_step k u v ≡ false → Step k u v → ⊥
  not_has u v = no_step places h.names k h.second (omega arith) u v

  -- ---- factor i

  module _ (i : ℕ) (l : i < m.count) (s : Span) (lo : s.low ≡ get_or low i 0) (hi : s.high ≡ get_or high i 0) where
    -- a name of factor i has a place
    below : (x : ℕ) → factor_of m x ≡ i → x < places
    unfolding factor_of
    below x e = go (dec_lt x places)
      where
        go : Dec (x < places) → x < places
        go (yes q) = q
        go (no q) = absurd (omega (arith, h.first.few, get_or-eq_default m.factor no_factor {n = x} (omega (arith, h.first.factors))))

    spans : Spans m k i s.low s.high
    spans = rw (lo, hi) (h.spans i l)

    module _ (mode : ℕ) (e : mode ≡ get_or m.mode i 0) (g : Frontier) (p : Passed m k i (point (spot_at g.low)) (point (spot_at g.high))) where
      pub turn_on : (next : Frontier) → PassedBy k g s mode (Ok next) → Passed m k (i + 1) (point (spot_at next.low)) (point (spot_at next.high))
      unfolding mode_of low_next
      turn_on next (a, b, f, c, d) = at (optional (mode_of m i)) refl
        where
          first : Step k (point (spot_at g.low)) (name s.high)
          first = has _ _ a

          second : Step k (point (spot_at g.high)) (name s.low)
          second = has _ _ b

          loop : repeats (mode_of m i) ≡ true → Step k (name s.high) (name s.low)
          loop y = has _ _ (f (ap repeats e ∙ y))

          low_name : spot_at s.low ≡ Name s.low
          low_name = sym (spot_name s.low (below s.low spans.lo_in))

          high_name : spot_at next.high ≡ Name s.high
          high_name = ap spot_at d ∙ sym (spot_name s.high (below s.high spans.hi_in))

          at : (o : Bool) → optional (mode_of m i) ≡ o → Passed m k (i + 1) (point (spot_at next.low)) (point (spot_at next.high))
          at true o =
              let y : next.low ≡ g.low = c ∙ rw (e, o) in
              rw (y, high_name, add-one) (passed_optional m k i (point (spot_at g.low)) (point (spot_at g.high)) s.low s.high l p spans first second loop o)
          at false o =
              let y : next.low ≡ s.low = c ∙ rw (e, o) in
              rw (y, low_name, high_name, add-one) (passed_required m k i (point (spot_at g.low)) (point (spot_at g.high)) s.low s.high l p spans first second loop o)

      pub turn_stuck : (t : Arrow) → PassedBy k g s mode (Err t) → Told m k (Some t)
      unfolding mode_of
      turn_stuck t (stop, inl (a, b)) = (rw (a, b) (step_low m k i (point (spot_at g.low)) (point (spot_at g.high)) s.low s.high l p spans), not_has _ _ stop)
      turn_stuck t (stop, inr (inl (a, b))) = (rw (a, b) (step_high m k i (point (spot_at g.low)) (point (spot_at g.high)) s.low s.high l p spans), not_has _ _ stop)
      turn_stuck t (stop, inr (inr (a, b, f))) =
          (rw (a, b) (step_loop m k i (point (spot_at g.low)) (point (spot_at g.high)) s.low s.high l p spans (ap repeats (sym e) ∙ f)), not_has _ _ stop)

  -- ---- the end of the pass

  module _ (i : ℕ) (g : Frontier) (p : Passed m k i (point (spot_at g.low)) (point (spot_at g.high))) (l : i ≤ m.count) (o : m.count ≤ i) {u : Spot} (q : u ≡ spot_at g.low) where
    whole : Passed m k m.count (point (spot_at g.low)) (point (spot_at g.high))
    whole = let e : i ≡ m.count = omega arith in subst (λ (z : ℕ). Passed m k z (point (spot_at g.low)) (point (spot_at g.high))) e p

    -- It ends as the step to the end does.
    pub ends : (r : Result (Unit {0}) Arrow) → Needed k u End r → Told m k (result_err r)
    ends (Ok e) t = passed_all m k (point (spot_at g.low)) (point (spot_at g.high)) whole (has _ _ (ap (λ (z : Spot). has_step k (point z) end) (sym q) ∙ t))
    ends (Err t) (e, a, b) = (rw (a, b, q) (step_last m k (point (spot_at g.low)) (point (spot_at g.high)) whole), not_has _ _ (rw (a, b) e))

-- ---- yes or no

module _ (n : ℕ) (m k : Chain) (c : IsChain places n m) (d : IsChain places n k) where
  pub told_yes : Told m k None → within n m k ≡ true
  told_yes = steps_in places n m k c d (omega arith)

  pub told_no : (t : Arrow) → Told m k (Some t) → within n m k ≡ false
  told_no t q = steps_out places n m k c d (omega arith) (point t.from) (point t.to) q.0 q.1

  pub told : (r : Option Arrow) {b : Bool} → is_some r ≡ not b → Told m k r → b ≡ within n m k
  told None {b} e q = not-false b (sym e) ∙ sym (told_yes q)
  told (Some t) {b} e q = not-true b (sym e) ∙ sym (told_no t q)
