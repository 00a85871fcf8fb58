-- The turn of a factor, for each way through the tests of its mode.
-- Assumes nothing.
use Rattle.std.proofs.Common.{ℕ, zero, suc, ◌≤◌, ◌<◌, ◌≡◌, refl, Bool, true, false, ◌⊎◌, inl, inr, arith}
use Rattle.model.specs.declared.Turn.TheVariants.{Take, Leave, Refuse}
use Rattle.model.specs.Run.{either, turn_of}

pub no_mode : (m : ℕ) (t h : Bool) → 4 ≤ m → Refuse ≡ turn_of m t h
unfolding turn_of either
no_mode zero t h l = absurd (omega arith)
no_mode (suc zero) t h l = absurd (omega arith)
no_mode (suc (suc zero)) t h l = absurd (omega arith)
no_mode (suc (suc (suc zero))) t h l = absurd (omega arith)
no_mode (suc (suc (suc (suc m)))) t h l = refl

-- A factor that has taken a name takes the next of its names where its mode is 2 or 3.
pub again : (m : ℕ) → 2 ≤ m → m < 4 → Take ≡ turn_of m true true
unfolding turn_of either
again zero k l = absurd (omega arith)
again (suc zero) k l = absurd (omega arith)
again (suc (suc zero)) k l = refl
again (suc (suc (suc zero))) k l = refl
again (suc (suc (suc (suc m)))) k l = absurd (omega arith)

pub once : (m : ℕ) → m < 2 → Leave ≡ turn_of m true true
unfolding turn_of either
once zero l = refl
once (suc zero) l = refl
once (suc (suc m)) l = absurd (omega arith)

pub first : (m : ℕ) → m < 4 → Take ≡ turn_of m false true
unfolding turn_of either
first zero k = refl
first (suc zero) k = refl
first (suc (suc zero)) k = refl
first (suc (suc (suc zero))) k = refl
first (suc (suc (suc (suc m)))) k = absurd (omega arith)

pub done : (m : ℕ) → m < 4 → Leave ≡ turn_of m true false
unfolding turn_of either
done zero k = refl
done (suc zero) k = refl
done (suc (suc zero)) k = refl
done (suc (suc (suc zero))) k = refl
done (suc (suc (suc (suc m)))) k = absurd (omega arith)

-- A factor without a name may be left where its mode is 1 or 3.
pub skipped : (m : ℕ) → m ≡ 1 ⊎ m ≡ 3 → Leave ≡ turn_of m false false
unfolding turn_of either
skipped m (inl e) = rw e
skipped m (inr e) = rw e

pub missed : (m : ℕ) → (m ≡ 1 ⊎ m ≡ 3 → ⊥) → Refuse ≡ turn_of m false false
unfolding turn_of either
missed zero n = refl
missed (suc zero) n = absurd (n (inl refl))
missed (suc (suc zero)) n = refl
missed (suc (suc (suc zero))) n = absurd (n (inr refl))
missed (suc (suc (suc (suc m)))) n = refl
