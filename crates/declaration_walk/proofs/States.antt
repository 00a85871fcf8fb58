-- The numbers of the states.
-- Assumes nothing.
use Prim.Native.Nat.{ℕ, ◌≤◌}
use mathlib.Core.Path.{◌≡◌, refl, sym, ◌∙◌, ap}
use native.Mathlib.Omega.{arith}
use native.Mathlib.Nat.{zero-add}
use lib.ListN.{get_or-map}
use Rattle.declaration_spelling.proofs.Record.{values_from}
use Rattle.declaration_spelling.proofs.Numbers.{values_from_lem}
use Rattle.declaration_walk.specs.Walk.{State, before_parent, before_model, behind_bracket, behind_first, whole_bar, whole_name, whole_group, before_factor, in_group, group_name, behind_names, behind_mark, behind_text, text_alone, text_bar, text_name, before_star, before_end, behind_end, nowhere, number_of, last_state, states, state_of}

-- a state has its number
pub state_number : (s : State) → (state_of (number_of s) ≡ s) × (number_of s ≤ last_state)
unfolding state_of states number_of
state_number before_parent = (refl, omega arith)
state_number before_model = (refl, omega arith)
state_number behind_bracket = (refl, omega arith)
state_number behind_first = (refl, omega arith)
state_number whole_bar = (refl, omega arith)
state_number whole_name = (refl, omega arith)
state_number whole_group = (refl, omega arith)
state_number before_factor = (refl, omega arith)
state_number in_group = (refl, omega arith)
state_number group_name = (refl, omega arith)
state_number behind_names = (refl, omega arith)
state_number behind_mark = (refl, omega arith)
state_number behind_text = (refl, omega arith)
state_number text_alone = (refl, omega arith)
state_number text_bar = (refl, omega arith)
state_number text_name = (refl, omega arith)
state_number before_star = (refl, omega arith)
state_number before_end = (refl, omega arith)
state_number behind_end = (refl, omega arith)
state_number nowhere = (refl, omega arith)

-- and each number up to the last is that of its state
pub number_state : (n : ℕ) → n ≤ last_state → number_of (state_of n) ≡ n
unfolding state_of states number_of values_from
number_state n h = sym (get_or-map number_of states n nowhere) ∙ values_from_lem 0 20 n (λ k. k) last_state (omega arith) ∙ zero-add n

pub nowhere_number : (n : ℕ) → n ≡ last_state → state_of n ≡ nowhere
unfolding state_of states
nowhere_number n e = ap state_of e
