-- What a record holds after one more factor was appended.
-- Assumes nothing.
use Prim.Native.Nat.{ℕ, ◌+◌, ◌<◌}
use mathlib.Core.Path.{◌≡◌, refl, sym, ◌∙◌}
use mathlib.Core.Bool.{Bool, true, false}
use native.Mathlib.Omega.{arith}
use native.Mathlib.Decide.{dec_lt}
use lib.ListN.{length, get_or, length-set, get_or-eq_default, length-replicate}
use lib.Seq.{get_or-set_same, get_or-set_other}
use Rattle.model.specs.declared.Chain.{Chain}
use Rattle.model.specs.Record.{no_factor, factor_of, mode_of, empty_chain}
use Rattle.model.specs.Build.{entries_with, with_factor}
use Rattle.model.proofs.Empty.{replicate_at}
use Rattle.model.proofs.Building.{entries_length, entries_at}

module _ (m : Chain) (holds : ℕ → Bool) (mode : ℕ) where
  pub with_sizes : (length (with_factor m holds mode).factor ≡ length m.factor) × (length (with_factor m holds mode).mode ≡ length m.mode)
  unfolding with_factor
  with_sizes = (entries_length holds m.count 0 m.factor, length-set m.mode m.count mode)

  pub with_count : (with_factor m holds mode).count ≡ m.count + 1
  unfolding with_factor
  with_count = refl

  -- The names that the new factor holds have its number, and the others keep theirs.
  pub with_new : (x : ℕ) → x < length m.factor → holds x ≡ true → factor_of (with_factor m holds mode) x ≡ m.count
  unfolding with_factor factor_of
  with_new x l h = entries_at holds m.count m.factor x no_factor l ∙ rw h

  pub with_old : (x : ℕ) → holds x ≡ false → factor_of (with_factor m holds mode) x ≡ factor_of m x
  unfolding with_factor factor_of
  with_old x h = go (dec_lt x (length m.factor))
    where
      go : Dec (x < length m.factor) → get_or (entries_with holds m.count 0 m.factor) x no_factor ≡ get_or m.factor x no_factor
      go (yes l) = entries_at holds m.count m.factor x no_factor l ∙ rw h
      go (no l) =
          get_or-eq_default (entries_with holds m.count 0 m.factor) no_factor {n = x} (omega (arith, entries_length holds m.count 0 m.factor))
          ∙ sym (get_or-eq_default m.factor no_factor {n = x} (omega arith))

  pub with_mode_lem : m.count < length m.mode → mode_of (with_factor m holds mode) m.count ≡ mode
  unfolding with_factor mode_of
  with_mode_lem l = get_or-set_same m.mode m.count mode 0 l

  pub with_modes : (i : ℕ) → ¬ (i ≡ m.count) → mode_of (with_factor m holds mode) i ≡ mode_of m i
  unfolding with_factor mode_of
  with_modes i d = get_or-set_other m.mode m.count i mode 0 d

-- ---- the empty model

module _ (size : ℕ) where
  pub empty_sizes : (length (empty_chain size).factor ≡ size) × (length (empty_chain size).mode ≡ size)
  unfolding empty_chain
  empty_sizes = (length-replicate size no_factor, length-replicate size 0)

  pub empty_count : (empty_chain size).count ≡ 0
  unfolding empty_chain
  empty_count = refl

  pub empty_factor : (x : ℕ) → factor_of (empty_chain size) x ≡ no_factor
  unfolding empty_chain factor_of
  empty_factor x = replicate_at size x no_factor

  pub empty_mode : (i : ℕ) → mode_of (empty_chain size) i ≡ 0
  unfolding empty_chain mode_of
  empty_mode i = replicate_at size i 0
