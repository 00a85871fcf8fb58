-- A means: the check of a model record; `chain_law` in proofs/ChainLaw.antt says that `is_chain` passes exactly the
-- chains, `model_law` in proofs/ModelLaw.antt that `is_model` passes exactly the models. `size` is the number of places.
-- Assumes nothing.
use Rattle.std.specs.Prelude.{ℕ, zero, suc, Bool, true, false, ◌&&◌, ◌||◌, List, eqb, ltb, leb, length, get_or}
use Rattle.nameset.specs.Tests.{every_below, any_below}
use Rattle.model.specs.declared.Chain.{Chain}
use Rattle.model.specs.declared.Model.{Model}
use Rattle.model.specs.Record.{no_factor, mode_of}

-- Whether v may be the entry of a number: true for a number below N, false for the others.
unfoldable pub may_hold : ℕ → Bool → ℕ → Bool
may_hold count true v = eqb v no_factor || ltb v count
may_hold count false v = eqb v no_factor

-- Whether f may be a mode: true for a factor below F, false for the rest.
unfoldable pub may_be : Bool → ℕ → Bool
may_be true f = leb f 3
may_be false f = eqb f 0

-- "each number below N has 255 or a value below F, all others have 255"
unfoldable pub all_placed : ℕ → ℕ → ℕ → List ℕ → Bool
all_placed size n count factors = every_below size (λ x. may_hold count (ltb x n) (get_or factors x no_factor))

-- "each factor has a name"
unfoldable pub all_named : ℕ → ℕ → List ℕ → Bool
all_named n count factors = every_below count (λ i. any_below n (λ x. eqb (get_or factors x no_factor) i))

-- "modes below F are 0 to 3, the rest are 0"
unfoldable pub all_known : ℕ → ℕ → List ℕ → Bool
all_known size count modes = every_below size (λ i. may_be (ltb i count) (get_or modes i 0))

-- Whether m is a chain over n names.
unfoldable pub is_chain : ℕ → ℕ → Chain → Bool
is_chain size n m =
    eqb (length m.factor) size && (eqb (length m.mode) size && (leb m.count size
    && (all_placed size n m.count m.factor && (all_named n m.count m.factor && all_known size m.count m.mode))))

-- Whether a chain of so many factors, the first of this mode, may have text.
unfoldable pub may_have_text : ℕ → ℕ → Bool
may_have_text count mode = eqb count 0 || (eqb count 1 && eqb mode 3)

-- Whether the text byte fits such a chain.
unfoldable pub text_fits : ℕ → ℕ → ℕ → Bool
text_fits zero count mode = true
text_fits (suc zero) count mode = may_have_text count mode
text_fits (suc (suc t)) count mode = false

-- Whether m is a model over n names.
unfoldable pub is_model : ℕ → ℕ → Model → Bool
is_model size n m = is_chain size n m.chain && text_fits m.text m.chain.count (mode_of m.chain 0)
