-- Small chains compared by the search, by computation.
-- Assumes nothing.
use mathlib.Core.Path.{◌≡◌, refl}
use mathlib.Core.Bool.{true, false}
use mathlib.Core.List.{[], ◌∷◌}
use Rattle.model.specs.declared.Chain.{Chain}
use Rattle.nameset.specs.Tests.{every_below}
use Rattle.model.specs.Record.{factor_of}
use Rattle.model.specs.Run.{either, turn_of, after, goes_from, goes_to, went_to, move, run, may_end, accepts}
use Rattle.model_inclusion.specs.Search.{every_word, accepted_too, within}

-- (a,b)
plain : Chain
plain = record { count = 2; factor = 0 ∷ 1 ∷ []; mode = 0 ∷ 0 ∷ [] }

-- (a?,b+)
wide : Chain
wide = record { count = 2; factor = 0 ∷ 1 ∷ []; mode = 1 ∷ 2 ∷ [] }

-- ((a|b)*)
star : Chain
star = record { count = 1; factor = 0 ∷ 0 ∷ []; mode = 3 ∷ [] }

-- (a)
one : Chain
one = record { count = 1; factor = 0 ∷ []; mode = 0 ∷ [] }

-- (a+)
more : Chain
more = record { count = 1; factor = 0 ∷ []; mode = 2 ∷ [] }

plain_wide : within 2 plain wide ≡ true
unfolding within every_word accepted_too every_below accepts may_end run move went_to goes_to goes_from after turn_of either factor_of plain wide
plain_wide = refl

-- The word b is one of (a?,b+) alone.
wide_plain : within 2 wide plain ≡ false
unfolding within every_word accepted_too every_below accepts may_end run move went_to goes_to goes_from after turn_of either factor_of plain wide
wide_plain = refl

wide_star : within 2 wide star ≡ true
unfolding within every_word accepted_too every_below accepts may_end run move went_to goes_to goes_from after turn_of either factor_of wide star
wide_star = refl

-- The empty word is one of (a|b)* alone.
star_wide : within 2 star wide ≡ false
unfolding within every_word accepted_too every_below accepts may_end run move went_to goes_to goes_from after turn_of either factor_of wide star
star_wide = refl

-- The word a a, of F + 1 names, is one of (a+) alone.
more_one : within 1 more one ≡ false
unfolding within every_word accepted_too every_below accepts may_end run move went_to goes_to goes_from after turn_of either factor_of more one
more_one = refl
