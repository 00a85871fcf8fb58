-- The run from left to right accepts exactly the joinings of parts, for every record and every word. Between the two
-- stands `Run`: the turns of a run, one by one.
-- Assumes nothing.
use Prim.Native.Nat.{ℕ, zero, suc, ◌+◌, ◌≤◌, ◌<◌}
use mathlib.Core.Path.{◌≡◌, refl, sym, ◌∙◌, ap}
use mathlib.Core.Bool.{Bool, true, false, false≢true}
use mathlib.Core.List.{List, [], ◌∷◌, ◌++◌}
use mathlib.Core.Logic.{◌⊎◌, inl, inr, ◌↔◌}
use native.Mathlib.Omega.{arith}
use native.Mathlib.Numerals.{add-one}
use borrow.Author.Tests.{eqb-true, eq-eqb, ne_eqb}
use lib.Dec.{eqb}
use Rattle.model.specs.declared.Chain.{Chain}
use Rattle.model.specs.declared.Turn.{Turn}
use Rattle.model.specs.declared.Turn.TheVariants.{Take, Leave, Refuse}
use Rattle.std.proofs.Common.{Some}
use Rattle.model.specs.Record.{factor_of, mode_of}
use Rattle.model.specs.Accept.{Many, Part, Joined, none, part, Accepts}
use Rattle.model.specs.Run.{either, turn_of, state, after, goes_to, went_to, move, run, may_end, accepts}
use Rattle.nameset.proofs.Tests.{never}
use Rattle.model.proofs.Turns.{leave≢take, refuse≢take, take≢leave, refuse≢leave, turn_take, goes_turn, goes_past}
use Rattle.model.proofs.Words.{run_nowhere}

-- From factor i, of which a name was taken or not, the word w leads to the end.
pub data Run (m : Chain) : ℕ → Bool → List ℕ → Type 0 where
  done : {i : ℕ} {t : Bool} {w : List ℕ} → i ≡ m.count → w ≡ [] → Run m i t w
  leave : {i : ℕ} {t : Bool} {w : List ℕ} → i < m.count → turn_of (mode_of m i) t false ≡ Leave → Run m (suc i) false w → Run m i t w
  take : {i x : ℕ} {t : Bool} {w : List ℕ} → i < m.count → factor_of m x ≡ i → turn_of (mode_of m i) t true ≡ Take → Run m i true w → Run m i t (x ∷ w)

-- ---- the table of turns

-- A factor that is left at a name of its own is left at any other too.
turn_leave : (f : ℕ) (t h : Bool) → turn_of f t h ≡ Leave → turn_of f t false ≡ Leave
unfolding turn_of either
turn_leave f t false e = e
turn_leave zero true true e = e
turn_leave zero false true e = absurd (take≢leave e)
turn_leave (suc zero) true true e = e
turn_leave (suc zero) false true e = absurd (take≢leave e)
turn_leave (suc (suc zero)) t true e = absurd (take≢leave e)
turn_leave (suc (suc (suc zero))) t true e = refl
turn_leave (suc (suc (suc (suc f)))) t true e = e

-- ---- the test and the turns

-- Whether w leads to the end from factor i, by the test.
abbrev pub Goes : Chain → ℕ → Bool → List ℕ → Bool
Goes m i t w = may_end m (run m (Some (state i t)) w)

module _ (m : Chain) (i : ℕ) (t : Bool) where
  -- At the end of the word it is factor i's turn with no name of its own.
  pub goes_end : (u : Turn) → i < m.count → turn_of (mode_of m i) t false ≡ u → Goes m i t [] ≡ after u true (Goes m (suc i) false [])
  unfolding run may_end mode_of
  goes_end u l e = rw (← add-one i) (goes_turn m.mode m.count i t m.count true l refl refl (rw (ne_eqb m.count i (λ q. omega arith)) e))

  onward : (x : ℕ) (u : Turn) → i < m.count → turn_of (mode_of m i) t (eqb (factor_of m x) i) ≡ u
      → goes_to m.count m.mode (factor_of m x) false (state i t) ≡ after u true (goes_to m.count m.mode (factor_of m x) false (state (suc i) false))
  unfolding mode_of
  onward x u l e = rw (← add-one i) (goes_turn m.mode m.count i t (factor_of m x) false l refl refl e)

  -- At a name x it is factor i's turn: it takes x and the rest leads on from there, it is left and x comes to the next
  -- factor, or the word is not accepted.
  pub goes_name : (x : ℕ) (w : List ℕ) (u : Turn) → i < m.count → turn_of (mode_of m i) t (eqb (factor_of m x) i) ≡ u
      → Goes m i t (x ∷ w) ≡ after u (Goes m i true w) (Goes m (suc i) false (x ∷ w))
  unfolding run move went_to after may_end
  goes_name x w Take l e = go (eqb (factor_of m x) i) refl
    where
      go : (h : Bool) → eqb (factor_of m x) i ≡ h → Goes m i t (x ∷ w) ≡ Goes m i true w
      go true q =
          let p : factor_of m x ≡ i = eqb-true (factor_of m x) i q in
          rw (onward x Take l e, p)
      go false q = absurd (turn_take (mode_of m i) t (rw q at e))
  goes_name x w Leave l e = rw (onward x Leave l e)
  goes_name x w Refuse l e = rw (onward x Refuse l e, run_nowhere m w)

  -- Behind the last factor the word may end.
  pub past_end : i ≡ m.count → Goes m i t [] ≡ true
  unfolding run may_end
  past_end e = goes_past m.mode m.count i t m.count true (omega arith)

  -- Behind the last factor no name is accepted.
  pub past_name : (x : ℕ) (w : List ℕ) → i ≡ m.count → Goes m i t (x ∷ w) ≡ false
  unfolding run move went_to may_end
  past_name x w e = rw (goes_past m.mode m.count i t (factor_of m x) false (omega arith), run_nowhere m w)

found : (m : Chain) (w : List ℕ) (left i : ℕ) (t : Bool) → i + left ≡ m.count → Goes m i t w ≡ true → Run m i t w
unfolding run may_end after
found m [] zero i t n e = let z : i ≡ m.count = omega arith in done z refl
found m (x ∷ w) zero i t n e = absurd (false≢true (sym (past_name m i t x w (omega arith)) ∙ e))
found m [] (suc left) i t n e = go (turn_of (mode_of m i) t false) refl (λ g. found m [] left (suc i) false (omega arith) g)
  where
    l : i < m.count
    l = omega arith

    go : (u : Turn) → turn_of (mode_of m i) t false ≡ u → (Goes m (suc i) false [] ≡ true → Run m (suc i) false []) → Run m i t []
    go Take p f = absurd (turn_take (mode_of m i) t p)
    go Leave p f = leave l p (f (sym (goes_end m i t Leave l p) ∙ e))
    go Refuse p f = absurd (false≢true (sym (goes_end m i t Refuse l p) ∙ e))
found m (x ∷ w) (suc left) i t n e =
    go (eqb (factor_of m x) i) refl (turn_of (mode_of m i) t (eqb (factor_of m x) i)) refl (λ g. found m w (suc left) i true n g)
    (λ g. found m (x ∷ w) left (suc i) false (omega arith) g)
  where
    l : i < m.count
    l = omega arith

    go : (h : Bool) → eqb (factor_of m x) i ≡ h → (u : Turn) → turn_of (mode_of m i) t (eqb (factor_of m x) i) ≡ u → (Goes m i true w ≡ true → Run m i true w)
        → (Goes m (suc i) false (x ∷ w) ≡ true → Run m (suc i) false (x ∷ w)) → Run m i t (x ∷ w)
    go true q Take p f g = take l (eqb-true (factor_of m x) i q) (rw q at p) (f (sym (goes_name m i t x w Take l p) ∙ e))
    go false q Take p f g = absurd (turn_take (mode_of m i) t (rw q at p))
    go h q Leave p f g = leave l (turn_leave (mode_of m i) t (eqb (factor_of m x) i) p) (g (sym (goes_name m i t x w Leave l p) ∙ e))
    go h q Refuse p f g = absurd (false≢true (sym (goes_name m i t x w Refuse l p) ∙ e))

-- The first name of a run is in the factor where the run stands, or in a later one.
ahead : {m : Chain} {i x : ℕ} {t : Bool} {w : List ℕ} → Run m i t (x ∷ w) → i ≤ factor_of m x
ahead (done e f) = absurd (never (cc))
ahead (leave l e r) = omega (arith, ahead r)
ahead (take l e f r) = omega arith

tested : {m : Chain} {i : ℕ} {t : Bool} {w : List ℕ} → Run m i t w → Goes m i t w ≡ true
unfolding run after
tested {m} {i} {t} (done e f) = rw f (past_end m i t e)
tested {m} {i} {t} {w} (leave l e r) = go w r (tested r)
  where
    go : (w : List ℕ) → Run m (suc i) false w → Goes m (suc i) false w ≡ true → Goes m i t w ≡ true
    go [] r p = goes_end m i t Leave l e ∙ p
    go (x ∷ w) r p = goes_name m i t x w Leave l (rw (ne_eqb (factor_of m x) i (λ q. omega (arith, ahead r))) e) ∙ p
tested {m} {i} {t} (take {x = x} {w = w} l e f r) = goes_name m i t x w Take l (rw (eq-eqb (factor_of m x) i e) f) ∙ tested r

-- ---- the turns and the joining of parts

-- What factor i, of mode f, may still take.
abbrev Left : ℕ → Bool → Chain → ℕ → List ℕ → Type 0
Left f false m i u = Part f m i u
Left zero true m i u = u ≡ []
Left (suc zero) true m i u = u ≡ []
Left (suc (suc zero)) true m i u = Many m i u
Left (suc (suc (suc zero))) true m i u = Many m i u
Left (suc (suc (suc (suc f)))) true m i u = ⊥

left_none : (f : ℕ) (t : Bool) (m : Chain) (i : ℕ) → turn_of f t false ≡ Leave → Left f t m i []
unfolding turn_of either
left_none zero true m i e = refl
left_none zero false m i e = absurd (refuse≢leave e)
left_none (suc zero) true m i e = refl
left_none (suc zero) false m i e = inl refl
left_none (suc (suc zero)) true m i e = tt
left_none (suc (suc zero)) false m i e = absurd (refuse≢leave e)
left_none (suc (suc (suc zero))) true m i e = tt
left_none (suc (suc (suc zero))) false m i e = tt
left_none (suc (suc (suc (suc f)))) true m i e = refuse≢leave e
left_none (suc (suc (suc (suc f)))) false m i e = refuse≢leave e

left_some : (f : ℕ) (t : Bool) (m : Chain) (i x : ℕ) (u : List ℕ) → turn_of f t true ≡ Take → factor_of m x ≡ i → Left f true m i u → Left f t m i (x ∷ u)
unfolding turn_of either
left_some zero true m i x u e h k = absurd (leave≢take e)
left_some zero false m i x u e h k = (x, ap (λ (v : List ℕ). x ∷ v) k, h)
left_some (suc zero) true m i x u e h k = absurd (leave≢take e)
left_some (suc zero) false m i x u e h k = inr (x, ap (λ (v : List ℕ). x ∷ v) k, h)
left_some (suc (suc zero)) true m i x u e h k = (h, k)
left_some (suc (suc zero)) false m i x u e h k = ((h, k), λ p. never (cc))
left_some (suc (suc (suc zero))) true m i x u e h k = (h, k)
left_some (suc (suc (suc zero))) false m i x u e h k = (h, k)
left_some (suc (suc (suc (suc f)))) t m i x u e h k = absurd (refuse≢take e)

-- And the other way round: nothing, or a name and what may follow it.
abbrev View : ℕ → Bool → Chain → ℕ → List ℕ → Type 0
View f t m i u = ((u ≡ []) × (turn_of f t false ≡ Leave)) ⊎ ((x : ℕ) × (v : List ℕ) × (u ≡ x ∷ v) × (factor_of m x ≡ i) × (turn_of f t true ≡ Take) × Left f true m i v)

left_view : (f : ℕ) (t : Bool) (m : Chain) (i : ℕ) (u : List ℕ) → Left f t m i u → View f t m i u
unfolding turn_of either
left_view zero true m i u k = inl (k, refl)
left_view zero false m i u (x, e, h) = inr (x, [], e, h, refl, refl)
left_view (suc zero) true m i u k = inl (k, refl)
left_view (suc zero) false m i u (inl e) = inl (e, refl)
left_view (suc zero) false m i u (inr (x, e, h)) = inr (x, [], e, h, refl, refl)
left_view (suc (suc zero)) true m i [] k = inl (refl, refl)
left_view (suc (suc zero)) true m i (x ∷ u) (h, k) = inr (x, u, refl, h, refl, k)
left_view (suc (suc zero)) false m i [] (k, n) = absurd (n refl)
left_view (suc (suc zero)) false m i (x ∷ u) ((h, k), n) = inr (x, u, refl, h, refl, k)
left_view (suc (suc (suc zero))) true m i [] k = inl (refl, refl)
left_view (suc (suc (suc zero))) true m i (x ∷ u) (h, k) = inr (x, u, refl, h, refl, k)
left_view (suc (suc (suc zero))) false m i [] k = inl (refl, refl)
left_view (suc (suc (suc zero))) false m i (x ∷ u) (h, k) = inr (x, u, refl, h, refl, k)
left_view (suc (suc (suc (suc f)))) true m i u k = absurd k
left_view (suc (suc (suc (suc f)))) false m i u k = absurd k

-- A run from factor i is at the end, or has what factor i may still take and then a joining for the factors behind it.
abbrev Split : Chain → ℕ → Bool → List ℕ → Type 0
Split m i t w = ((i ≡ m.count) × (w ≡ [])) ⊎ ((u : List ℕ) × (v : List ℕ) × (i < m.count) × (w ≡ u ++ v) × Left (mode_of m i) t m i u × Joined m (suc i) v)

split_joined : (m : Chain) (i : ℕ) (w : List ℕ) → Split m i false w → Joined m i w
split_joined m i w (inl (e, f)) = none e f
split_joined m i w (inr (u, v, l, e, k, j)) = part u v l e k j

run_split : {m : Chain} {i : ℕ} {t : Bool} {w : List ℕ} → Run m i t w → Split m i t w
run_split (done e f) = inl (e, f)
run_split {m} {i} {t} {w} (leave l e r) = inr ([], w, l, refl, left_none (mode_of m i) t m i e, split_joined m (suc i) w (run_split r))
run_split {m} {i} {t} (take {x = x} {w = w} l h e r) = go (run_split r)
  where
    go : Split m i true w → Split m i t (x ∷ w)
    go (inl (p, f)) = absurd (omega arith)
    go (inr (u, v, l, p, k, j)) = inr (x ∷ u, v, l, ap (λ (z : List ℕ). x ∷ z) p, left_some (mode_of m i) t m i x u e h k, j)

left_run : (m : Chain) (i : ℕ) (v : List ℕ) → i < m.count → Run m (suc i) false v → (u : List ℕ) (t : Bool) → Left (mode_of m i) t m i u → Run m i t (u ++ v)
left_run m i v l r [] t k = go (left_view (mode_of m i) t m i [] k)
  where
    go : View (mode_of m i) t m i [] → Run m i t v
    go (inl (e, p)) = leave l p r
    go (inr (x, z, e, h, p, q)) = absurd (never (cc))
left_run m i v l r (y ∷ u) t k = go (left_view (mode_of m i) t m i (y ∷ u) k) (left_run m i v l r u true)
  where
    go : View (mode_of m i) t m i (y ∷ u) → (Left (mode_of m i) true m i u → Run m i true (u ++ v)) → Run m i t (y ∷ (u ++ v))
    go (inl (e, p)) f = absurd (never (cc))
    go (inr (x, z, e, h, p, q)) f =
        let a : x ≡ y = cc in
        let b : z ≡ u = cc in
        take l (rw a at h) p (f (rw b at q))

joined_run : {m : Chain} {i : ℕ} {w : List ℕ} → Joined m i w → Run m i false w
joined_run (none e f) = done e f
joined_run {m} {i} (part u v l e k j) = rw e (left_run m i v l (joined_run j) u false k)

-- ---- the laws

pub accepts_run : (m : Chain) (w : List ℕ) → Accepts m w ↔ Run m 0 false w
accepts_run m w = (joined_run, λ r. split_joined m 0 w (run_split r))

-- The computed answer is yes exactly when the word is a joining of one part for each factor in order.
pub accepts_law : (m : Chain) (w : List ℕ) → (accepts m w ≡ true) ↔ Accepts m w
unfolding accepts
accepts_law m w = (λ e. (accepts_run m w).1 (found m w m.count 0 false (omega arith) e), λ a. tested ((accepts_run m w).0 a))
