-- The steps and returns of `read_factors`, over plain values.
-- Assumes nothing.
use Rattle.std.specs.Prelude.{Ok, Err}
use Prim.Native.Nat.{ℕ, ◌+◌, ◌≤◌, ◌<◌}
use mathlib.Core.Path.{◌≡◌, refl, sym, ◌∙◌, ap}
use mathlib.Core.Bool.{Bool, true, false, cond, ◌&&◌, false≢true}
use mathlib.Core.List.{List}
use mathlib.Core.Option.{Option, none, some}
use native.Mathlib.Numerals.{add-one}
use lib.Dec.{ltb}
use lib.ListN.{length, replicate}
use borrow.Author.Tests.{ltb-true}
use Rattle.refusal.specs.declared.Refusal.TheVariants.{UnknownName}
use Rattle.nameset.specs.Places.{places}
use Rattle.model.specs.Record.{no_factor, model_with}
use Rattle.declaration_scan.specs.declared.Piece.{Piece}
use Rattle.declaration_scan.specs.Piece.{piece_at}
use Rattle.declaration_spelling.specs.Read.{number_for, declared}
use Rattle.declaration_walk.specs.Gather.{known_tokens, Rows, start_rows, and_then, gather_from, model_of, factors_answer}
use Rattle.declaration_rows.specs.Place.{tokens_at, part_of, kind_mode, take_kind, free_kind, factor_after, mode_after, index_after}
use Rattle.declaration_record.specs.Answered.{twice_or_unknown}
use Rattle.declaration_rows.proofs.Places.{tokens_over, take_next, take_rows}
use Rattle.declaration_rows.proofs.Steps.{known_over}

-- ---- the rows

-- what the walk still has to take
unfoldable pub left : List (List ℕ) → List ℕ → ℕ → ℕ → List ℕ → List ℕ → Option Rows
left names s i index factor mode = gather_from places names (tokens_at s i) record { index = index; factor = factor; mode = mode }

pub left_start : (names : List (List ℕ)) (s : List ℕ) (at : ℕ) → gather_from places names (tokens_at s at) (start_rows places) ≡ left names s at 0 (replicate places no_factor) (replicate places 0)
unfolding left start_rows
left_start names s at = refl

module _ (names : List (List ℕ)) (s : List ℕ) (i : ℕ) (p : Piece) (is : p ≡ piece_at s i) (index : ℕ) (factor mode : List ℕ) (inside : index < places)
    (free : Bool) (filled : List ℕ) (placed : (free ≡ free_kind p.kind factor (number_for names (part_of s p.from p.to)))
    × (filled ≡ factor_after p.kind factor (number_for names (part_of s p.from p.to)) index) × (length filled ≡ length factor))
    (m : ℕ) (moded : m ≡ kind_mode p.kind) (marked : List ℕ) (put : (marked ≡ mode_after m mode index) × (length marked ≡ length mode))
    (next : ℕ) (nexted : next ≡ index_after p.kind index) (r : Bool) (fine : r ≡ (free && ltb next places)) where
  left_at : left names s i index factor mode
      ≡ and_then (cond r (some record { index = next; factor = filled; mode = marked }) none) (gather_from places names (tokens_at s p.to))
  unfolding left
  left_at =
      let g : Rows = record { index = index; factor = factor; mode = mode } in
      let x : ℕ = number_for names (part_of s p.from p.to) in
      let e : gather_from places names (tokens_at s i) g ≡ and_then (take_kind places p.kind x g) (gather_from places names (tokens_at s p.to)) = rw is (take_next places names s i record { index = index; factor = factor; mode = mode }) in
      e ∙ ap (λ (o : Option Rows). and_then o (gather_from places names (tokens_at s p.to))) (take_rows places p.kind x g inside ∙ rw (fine, placed.0, placed.1, put.0, moded, nexted) refl)

  pub left_on : r ≡ true → left names s i index factor mode ≡ left names s p.to next filled marked
  unfolding left and_then
  left_on e = left_at ∙ rw e refl

  pub left_stop : r ≡ false → left names s i index factor mode ≡ none
  unfolding and_then
  left_stop e = left_at ∙ rw e refl

  pub inside_on : r ≡ true → next < places
  inside_on e = ltb-true next places (go free (ltb next places) (sym fine ∙ e))
    where
      go : (a b : Bool) → (a && b) ≡ true → b ≡ true
      go true b q = q
      go false b q = absurd (false≢true cc)

pub left_over : (names : List (List ℕ)) (s : List ℕ) (i index : ℕ) (factor mode : List ℕ) → length s ≤ i → left names s i index factor mode ≡ some record { index = index; factor = factor; mode = mode }
unfolding left gather_from
left_over names s i index factor mode h = rw (tokens_over s i h)

-- what the walk has come to at i: the words passed are known, and the rows are filled
module _ (names : List (List ℕ)) (s : List ℕ) (at parent mixed i index : ℕ) (factor mode : List ℕ) (knowns : known_tokens names (tokens_at s at) ≡ known_tokens names (tokens_at s i))
    (inv : gather_from places names (tokens_at s at) (start_rows places) ≡ left names s i index factor mode) where
  pub factors_done : length s ≤ i → Ok (declared parent (model_with record { count = index + 1; factor = factor; mode = mode } mixed)) ≡ factors_answer places names parent mixed (tokens_at s at)
  unfolding factors_answer model_of
  factors_done h = rw (knowns ∙ sym (known_over names s i h), inv ∙ left_over names s i index factor mode h, add-one index)

  pub factors_unknown : false ≡ known_tokens names (tokens_at s i) → Err UnknownName ≡ factors_answer places names parent mixed (tokens_at s at)
  unfolding factors_answer
  factors_unknown e = rw (knowns ∙ sym e)

  pub factors_twice : (b : Bool) → known_tokens names (tokens_at s i) ≡ b → left names s i index factor mode ≡ none → Err (twice_or_unknown b) ≡ factors_answer places names parent mixed (tokens_at s at)
  unfolding factors_answer twice_or_unknown
  factors_twice true e n = rw (knowns ∙ e, inv ∙ n)
  factors_twice false e n = rw (knowns ∙ e)
