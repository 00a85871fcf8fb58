-- The empty model is a chain over any names, and a record with no factor accepts only the empty word.
-- Assumes nothing.
use Prim.Native.Nat.{ℕ, zero, suc}
use mathlib.Core.Path.{◌≡◌, refl, sym}
use mathlib.Core.List.{List, []}
use mathlib.Core.Logic.{◌↔◌, inl}
use native.Mathlib.Omega.{arith}
use lib.ListN.{get_or, replicate, length-replicate}
use Rattle.model.specs.declared.Chain.{Chain}
use Rattle.model.specs.Record.{no_factor, factor_of, mode_of, IsChain, empty_chain}
use Rattle.model.specs.Accept.{Joined, none, part, Accepts}

-- A row of one value has it at each place, and past its end where it is the default.
pub replicate_at : (n i a : ℕ) → get_or (replicate n a) i a ≡ a
replicate_at zero i a = refl
replicate_at (suc n) zero a = refl
replicate_at (suc n) (suc i) a = replicate_at n i a

-- For readers: the empty model is a chain,
pub empty_chain_lem : (size n : ℕ) → IsChain size n (empty_chain size)
unfolding empty_chain factor_of mode_of
empty_chain_lem size n = record {
  factors = length-replicate size no_factor;
  modes = length-replicate size 0;
  few = omega arith;
  placed = λ x l. inl (replicate_at size x no_factor);
  others = λ x l. replicate_at size x no_factor;
  named = λ i l. absurd (omega arith);
  known = λ i l. absurd (omega arith);
  rest = λ i l. replicate_at size i 0;
}

-- and its only word is the empty one.
pub empty_words : (m : Chain) (w : List ℕ) → m.count ≡ 0 → Accepts m w ↔ (w ≡ [])
empty_words m w e = (go, λ f. none (sym e) f)
  where
    go : Joined m 0 w → w ≡ []
    go (none p f) = f
    go (part u v l p k j) = absurd (omega arith)
