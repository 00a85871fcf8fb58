-- The end of a walk, return by return.
-- Assumes nothing.
use Prim.Native.Nat.{ℕ, zero, suc}
use mathlib.Core.Path.{◌≡◌, refl}
use mathlib.Core.Bool.{Bool, true, false, not}
use native.Mathlib.Omega.{arith}
use borrow.Author.Tests.{not-true, not-false}
use Rattle.refusal.specs.declared.Refusal.TheVariants.{BadDocument}
use Rattle.refusal.specs.declared.Acceptance.TheVariants.{Yes, No, Refused}
use Rattle.refusal.specs.Answer.{acceptance}
use Rattle.document.specs.Walk.{ended}
use Rattle.document_step.specs.Step.{outside, place_at}
use Rattle.document_walk.specs.Finish.{Finished}

pub end_open : (begun : Bool) (depth : ℕ) (good : Bool) → (depth ≡ 0 → ⊥) → Finished begun depth good (Refused BadDocument)
unfolding place_at ended acceptance
end_open begun zero good n = absurd (n refl)
end_open begun (suc d) good n = λ top frames. refl

pub end_empty : (begun : Bool) (depth : ℕ) (good : Bool) → depth ≡ 0 → not begun ≡ true → Finished begun depth good (Refused BadDocument)
unfolding place_at outside ended acceptance
end_empty begun zero good p h = λ top frames. rw (not-true begun h)
end_empty begun (suc d) good p h = absurd (omega arith)

pub end_yes : (begun : Bool) (depth : ℕ) (good : Bool) → depth ≡ 0 → not begun ≡ false → good ≡ true → Finished begun depth good Yes
unfolding place_at outside ended acceptance
end_yes begun zero good p h g = λ top frames. rw (not-false begun h, g)
end_yes begun (suc d) good p h g = absurd (omega arith)

pub end_no : (begun : Bool) (depth : ℕ) (good : Bool) → depth ≡ 0 → not begun ≡ false → good ≡ false → Finished begun depth good No
unfolding place_at outside ended acceptance
end_no begun zero good p h g = λ top frames. rw (not-false begun h, g)
end_no begun (suc d) good p h g = absurd (omega arith)
