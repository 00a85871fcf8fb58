-- A means: whether a record has a step, by the places that steps lead to; `step_law` in
-- crates/model_places/proofs/Steps.antt joins it to `Step`. Place 0 is the start, i + 1 is factor i, F + 1 is the end.
-- Assumes nothing.
use Rattle.std.specs.Prelude.{ℕ, zero, suc, ◌-◌, ◌≤◌, ◌≡◌, Bool, cond, ◌&&◌, List, leb, length, get_or}
use Rattle.nameset.specs.Places.{places}
use Rattle.model.specs.declared.Chain.{Chain}
use Rattle.model_language.specs.Word.{Point, start, name, end}
use Rattle.model_language.specs.Step.{optional, repeats, place}
use Rattle.model_places.specs.declared.Spot.{Spot}
use Rattle.model_places.specs.declared.Spot.TheVariants.{Start, Name, End}

-- The point that the code means.
abbrev pub point : Spot → Point
point Start = start
point (Name x) = name x
point End = end

-- The nearest place that a step from place p leads to: p itself if it is a factor that repeats, else the next.
unfoldable pub nearest : List ℕ → ℕ → ℕ
nearest modes zero = 1
nearest modes (suc i) = cond (repeats (get_or modes i 0)) (suc i) (suc (suc i))

-- The farthest place that a step from place p leads to, with `left` factors behind p: the first of them that may not be
-- left out, or the end.
unfoldable pub far_from : List ℕ → ℕ → ℕ → ℕ
far_from modes zero p = suc p
far_from modes (suc left) p = cond (optional (get_or modes p 0)) (far_from modes left (suc p)) (suc p)

-- The same, with the number of all factors.
unfoldable pub farthest : ℕ → List ℕ → ℕ → ℕ
farthest count modes p = far_from modes (count - p) p

-- The row has it for every place but the end.
pub record FarRow (count : ℕ) (modes row : List ℕ) : Type 0 where
  pub size : length row ≡ suc places
  pub far : (p : ℕ) → p ≤ count → get_or row p 0 ≡ farthest count modes p

-- Whether the record m has the step from u to v: u is the start or a name that a factor holds, and v is from the
-- nearest to the farthest place that a step from u leads to.
unfoldable pub has_step : Chain → Point → Point → Bool
has_step m u v =
    leb (place m u) m.count
    && (leb (nearest m.mode (place m u)) (place m v) && leb (place m v) (farthest m.count m.mode (place m u)))
