-- What the tests of one factor say.
-- Assumes nothing.
use Prim.Native.Nat.{ℕ, ◌≤◌, ◌<◌}
use mathlib.Core.Path.{◌≡◌, sym, ◌∙◌}
use mathlib.Core.Bool.{Bool, true}
use mathlib.Core.Logic.{inl, inr}
use Rattle.std.specs.Prelude.{Err}
use borrow.Author.Tests.{lt-ltb, le-ltb}
use Rattle.nameset.specs.Places.{places}
use Rattle.model.specs.declared.Chain.{Chain}
use Rattle.model_language.specs.Step.{repeats}
use Rattle.model_places.specs.declared.Spot.{Spot}
use Rattle.model_places.specs.declared.Spot.TheVariants.{Start, Name}
use Rattle.model_places.specs.declared.Step.{Step as Arrow}
use Rattle.model_within.specs.declared.Frontier.{Frontier}
use Rattle.model_within.specs.declared.Span.{Span}
use Rattle.model_within.specs.Pass.{spot_at, Needed, PassedBy}

-- ---- past a factor

module _ (k : Chain) (g : Frontier) (s : Span) (mode : ℕ) where
  pub stuck_low : {u : Spot} (t : Arrow) → u ≡ spot_at g.low → Needed k u (Name s.high) (Err t) → PassedBy k g s mode (Err t)
  stuck_low t q (e, a, b) = (rw (a, b) e, inl (a ∙ q, b))

  pub stuck_high : {u : Spot} (t : Arrow) → u ≡ spot_at g.high → Needed k u (Name s.low) (Err t) → PassedBy k g s mode (Err t)
  stuck_high t q (e, a, b) = (rw (a, b) e, inr (inl (a ∙ q, b)))

  pub stuck_loop : {b : Bool} (t : Arrow) → b ≡ repeats mode → b ≡ true → Needed k (Name s.high) (Name s.low) (Err t) → PassedBy k g s mode (Err t)
  stuck_loop t r y (e, a, b) = (rw (a, b) e, inr (inr (a, b, sym r ∙ y)))

-- ---- the numbers of a frontier

pub spot_name : (x : ℕ) → x < places → Name x ≡ spot_at x
unfolding spot_at
spot_name x l = rw (lt-ltb x places l)

pub spot_start : (x : ℕ) → places ≤ x → Start ≡ spot_at x
unfolding spot_at
spot_start x l = rw (le-ltb x places l)
