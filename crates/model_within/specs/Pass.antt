-- A means: what the pass over the factors of one chain says of the steps of another; `told_yes` and `told_no` in
-- crates/model_within/proofs/Turns.antt join it to `within`.
-- Assumes nothing.
use Rattle.std.specs.Prelude.{ℕ, ◌<◌, ◌≡◌, true, false, cond, List, Option, None, Some, Result, Ok, Err, ◌⊎◌, ltb, get_or}
use Rattle.nameset.specs.Places.{places}
use Rattle.model.specs.declared.Chain.{Chain}
use Rattle.model.specs.Record.{IsChain}
use Rattle.model_language.specs.Word.{name}
use Rattle.model_language.specs.Step.{optional, repeats, Step, Includes}
use Rattle.model_inclusion.specs.Spans.{Spans}
use Rattle.model_places.specs.declared.Spot.{Spot}
use Rattle.model_places.specs.declared.Spot.TheVariants.{Start, Name}
use Rattle.model_places.specs.declared.Step.{Step as Arrow}
use Rattle.model_places.specs.Places.{point, has_step}
use Rattle.model_within.specs.declared.Frontier.{Frontier}
use Rattle.model_within.specs.declared.Span.{Span}

-- Two chains over the same names, with rows that have each factor's lowest and highest name.
pub record Comparable (m k : Chain) (low high : List ℕ) : Type 0 where
  pub names : ℕ
  pub first : IsChain places names m
  pub second : IsChain places names k
  pub spans : (i : ℕ) → i < m.count → Spans m k i (get_or low i 0) (get_or high i 0)

-- The point that a number of the frontier means: a name, or the start if it is no name's number.
unfoldable pub spot_at : ℕ → Spot
spot_at x = cond (ltb x places) (Name x) Start

-- The lowest point behind a factor: it stays where the factor may be left out.
unfoldable pub low_next : ℕ → ℕ → ℕ → ℕ
low_next mode low lo = cond (optional mode) low lo

-- k has the step from u to v; or the step that is told is this one, and k does not have it.
abbrev pub Needed : Chain → Spot → Spot → Result (Unit {0}) Arrow → Type 0
Needed k u v (Ok e) = has_step k (point u) (point v) ≡ true
Needed k u v (Err t) = (has_step k (point u) (point v) ≡ false) × (t.from ≡ u) × (t.to ≡ v)

-- k has the three steps into a factor of this mode that are asked for, and n is the frontier behind it; or it does not
-- have the step t, which is one of the three.
abbrev pub PassedBy : Chain → Frontier → Span → ℕ → Result Frontier Arrow → Type 0
PassedBy k g s mode (Ok n) =
    (has_step k (point (spot_at g.low)) (name s.high) ≡ true) × (has_step k (point (spot_at g.high)) (name s.low) ≡ true)
    × (repeats mode ≡ true → has_step k (name s.high) (name s.low) ≡ true)
    × (n.low ≡ low_next mode g.low s.low) × (n.high ≡ s.high)
PassedBy k g s mode (Err t) =
    (has_step k (point t.from) (point t.to) ≡ false)
    × (((t.from ≡ spot_at g.low) × (t.to ≡ Name s.high))
    ⊎ (((t.from ≡ spot_at g.high) × (t.to ≡ Name s.low)) ⊎ ((t.from ≡ Name s.high) × (t.to ≡ Name s.low) × (repeats mode ≡ true))))

-- Every step of m is a step of k, or the step that is told is one of m and not one of k.
abbrev pub Told : Chain → Chain → Option Arrow → Type 0
Told m k None = Includes m k
Told m k (Some t) = Step m (point t.from) (point t.to) × (Step k (point t.from) (point t.to) → ⊥)
