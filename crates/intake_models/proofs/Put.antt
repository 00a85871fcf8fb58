-- The answer of each way through the call that puts a model.
-- Assumes nothing.
use Rattle.std.specs.Prelude.{Ok, Err}
use Prim.Native.Nat.{ℕ, ◌+◌, ◌*◌, ◌≤◌, ◌<◌}
use mathlib.Core.Path.{◌≡◌, refl}
use mathlib.Core.Bool.{Bool, true, false, not}
use mathlib.Core.List.{List}
use borrow.Author.Tests.{le-leb, lt-leb, lt-ltb, le-ltb}
use lib.ListN.{length}
use Rattle.refusal.specs.declared.Refusal.{Refusal}
use Rattle.refusal.specs.declared.Refusal.TheVariants.{BadNameCount, BadParent, NotAModel, BufferTooShort}
use Rattle.nameset.specs.Places.{places, good_count}
use Rattle.model.specs.declared.Model.{Model}
use Rattle.model.specs.Check.{is_model}
use Rattle.byte_buffer.specs.Put.{Put}
use Rattle.model_table.specs.Table.{row_size, model_row}
use Rattle.intake_models.specs.Putting.{put_answer, PutsModel}

module _ (n p : ℕ) (m : Model) (d : List ℕ) where
  -- a call that stops with this refusal
  stopped : (f : Refusal) → put_answer n p m d ≡ Err f → PutsModel n p m (Err f) d d
  stopped f e = rw e (refl, refl)

  module _ {count : Bool} (e : count ≡ good_count n) where
    pub stops_count : not count ≡ true → PutsModel n p m (Err BadNameCount) d d
    unfolding put_answer
    stops_count c = stopped BadNameCount (rw (← e, c))

    module _ (c : not count ≡ false) where
      pub stops_parent : n ≤ p → PutsModel n p m (Err BadParent) d d
      unfolding put_answer
      stops_parent h = stopped BadParent (rw (← e, c, le-leb n p h))

      module _ (below : p < n) {good : Bool} (g : good ≡ is_model places n m) where
        pub stops_model : not good ≡ true → PutsModel n p m (Err NotAModel) d d
        unfolding put_answer
        stops_model k = stopped NotAModel (rw (← e, c, lt-leb n p below, ← g, k))

        module _ (k : not good ≡ false) where
          pub stops_room : length d < p * row_size + row_size → PutsModel n p m (Err BufferTooShort) d d
          unfolding put_answer
          stops_room l = stopped BufferTooShort (rw (← e, c, lt-leb n p below, ← g, k, lt-ltb (length d) (p * row_size + row_size) l))

          pub all_put : p * row_size + row_size ≤ length d → (to : ℕ) (f : List ℕ) → Put d (p * row_size) (model_row m) to f → PutsModel n p m (Ok tt) d f
          unfolding put_answer
          all_put l to f put = rw (← e, c, lt-leb n p below, ← g, k, le-ltb (length d) (p * row_size + row_size) l) (refl, put.holds)
