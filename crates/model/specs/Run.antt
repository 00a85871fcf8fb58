-- A means: acceptance by a run from left to right; `accepts_law` in proofs/Acceptance.antt joins it to `Accepts`. A
-- state is the factor that the word is in, and whether a name of it was taken; it does not depend on the word's length.
-- Assumes nothing.
use Rattle.std.specs.Prelude.{ℕ, zero, suc, ◌+◌, ◌-◌, Bool, true, false, cond, List, [], ◌∷◌, eqb, get_or, Option, Some, None}
use Rattle.model.specs.declared.Chain.{Chain}
use Rattle.model.specs.declared.State.{State}
use Rattle.model.specs.declared.Turn.{Turn}
use Rattle.model.specs.declared.Turn.TheVariants.{Take, Leave, Refuse}
use Rattle.model.specs.Record.{factor_of}

-- The first turn if the test holds, else the second.
unfoldable pub either : Bool → Turn → Turn → Turn
either true a b = a
either false a b = b

-- "The mode byte and the next name decide whether the word stays in its factor": `taken` if a name of the factor was
-- taken, `here` if it holds the next name.
unfoldable pub turn_of : ℕ → Bool → Bool → Turn
turn_of zero taken here = either taken Leave (either here Take Refuse)
turn_of (suc zero) taken here = either taken Leave (either here Take Leave)
turn_of (suc (suc zero)) taken here = either here Take (either taken Leave Refuse)
turn_of (suc (suc (suc zero))) taken here = either here Take Leave
turn_of (suc (suc (suc (suc f)))) taken here = Refuse

-- The state in factor i.
abbrev pub state : ℕ → Bool → State
state i taken = record { factor = i; taken = taken }

-- What follows from a factor's turn: one answer if it takes the name, another if it is left, no if it refuses.
unfoldable pub after : Turn → Bool → Bool → Bool
after Take there onward = there
after Leave there onward = onward
after Refuse there onward = false

-- Whether a run goes on from the state s to a name of factor `own`: factors are left until one takes the name or
-- refuses. The state has `left` factors from its own on; `through` is the answer if all of them are left.
unfoldable pub goes_from : List ℕ → ℕ → Bool → ℕ → State → Bool
goes_from modes own through zero s = through
goes_from modes own through (suc left) s =
    after (turn_of (get_or modes s.factor 0) s.taken (eqb own s.factor)) true (goes_from modes own through left (state (s.factor + 1) false))

-- The same, with the number of all factors.
unfoldable pub goes_to : ℕ → List ℕ → ℕ → Bool → State → Bool
goes_to count modes own through s = goes_from modes own through (count - s.factor) s

-- Where a run is if it went to factor `own`, which has taken a name then.
unfoldable pub went_to : Bool → ℕ → Option State
went_to there own = cond there (Some (state own true)) None

-- One more name x: some factor has to take it, the one that holds it.
unfoldable pub move : Chain → Option State → ℕ → Option State
move m (Some s) x = went_to (goes_to m.count m.mode (factor_of m x) false s) (factor_of m x)
move m None x = None

-- All names of w.
unfoldable pub run : Chain → Option State → List ℕ → Option State
run m s [] = s
run m s (x ∷ w) = run m (move m s x) w

-- Whether the word may end there: all factors can be left, with no next name. No factor has the number F.
unfoldable pub may_end : Chain → Option State → Bool
may_end m (Some s) = goes_to m.count m.mode m.count true s
may_end m None = false

-- m accepts the word w: it starts before factor 0's names.
unfoldable pub accepts : Chain → List ℕ → Bool
accepts m w = may_end m (run m (Some (state 0 false)) w)
