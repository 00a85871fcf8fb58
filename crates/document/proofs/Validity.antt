-- The verdict of a walk over a tree is yes exactly when the tree is valid.
-- Assumes nothing.
use Prim.Native.Nat.{ℕ}
use mathlib.Core.Path.{◌≡◌, refl}
use mathlib.Core.Bool.{Bool, true, ◌&&◌, false≢true}
use mathlib.Core.Logic.{◌↔◌}
use borrow.Author.Tests.{eq-eqb, eqb-true}
use Rattle.model.specs.declared.Model.{Model}
use Rattle.model.specs.declared.State.{State}
use Rattle.std.proofs.Common.{Option, Some, None}
use Rattle.model.specs.Run.{move, run, may_end, accepts}
use Rattle.nameset.proofs.Tests.{both, and_left, and_right}
use Rattle.model.proofs.Words.{run_nowhere}
use Rattle.model.proofs.Acceptance.{accepts_law}
use Rattle.model_table.specs.Table.{Entry}
use Rattle.model_table_step.specs.Run.{move_in, may_close, allows_text}
use Rattle.document.specs.Tree.{Content, nothing, text, element, Tree, children, HasText, Fits, AllFit, Valid}
use Rattle.document.specs.Walk.{kept, goes_on}
use Rattle.document.proofs.Forward.{last_state, first, good_after}

-- The run through the children of a content never stops.
pub Moves : Entry → State → Content → Type 0
Moves e s nothing = Unit {0}
Moves e s (text c) = Moves e s c
Moves e s (element x inner c) = (goes_on (move_in e s x) ≡ true) × Moves e (kept s (move_in e s x)) c

-- ---- one element

module _ (m : Model) where
  -- one child more, by where the run then is
  run_on : (s : State) (c : Content) (v : Option State) →
      ((t : State) → (may_end m.chain (run m.chain (Some t) (children c)) ≡ true) ↔ (Moves (Some m) t c × (may_end m.chain (Some (last_state (Some m) t c)) ≡ true))) →
      (may_end m.chain (run m.chain v (children c)) ≡ true)
      ↔ (((goes_on v ≡ true) × Moves (Some m) (kept s v) c) × (may_end m.chain (Some (last_state (Some m) (kept s v) c)) ≡ true))
  unfolding goes_on kept may_end
  run_on s c (Some t) law = (λ e. let p = (law t).0 e in ((refl, p.0), p.1), λ p. (law t).1 (p.0.1, p.1))
  run_on s c None law = (λ e. absurd (false≢true (rw (run_nowhere m.chain (children c)) at e)), λ p. absurd (false≢true p.0.0))

  -- the run through the children, all at once and child by child
  run_law : (s : State) (c : Content) →
      (may_end m.chain (run m.chain (Some s) (children c)) ≡ true) ↔ (Moves (Some m) s c × (may_end m.chain (Some (last_state (Some m) s c)) ≡ true))
  unfolding run Moves last_state move_in
  run_law s nothing = (λ e. (tt, e), λ p. p.1)
  run_law s (text c) = run_law s c
  run_law s (element x inner c) = run_on s c (move m.chain (Some s) x) (λ t. run_law t c)

-- What a walk checks of an element with the content c.
abbrev pub Checked : Entry → Content → Type 0
Checked e c = (may_close e (last_state e first c) ≡ true) × Moves e first c × (HasText c → allows_text e ≡ true)

pub fits_law : (e : Entry) (c : Content) → Checked e c ↔ Fits e c
unfolding may_close allows_text accepts
fits_law None c = (λ p. absurd (false≢true p.0), λ p. absurd p)
fits_law (Some m) c = (
  λ p. ((accepts_law m.chain (children c)).0 ((run_law m first c).1 (p.1, p.0)), λ h. eqb-true m.text 1 (p.2 h)),
  λ p. let r = (run_law m first c).0 ((accepts_law m.chain (children c)).1 p.0) in (r.1, r.0, λ h. eq-eqb m.text 1 (p.1 h)),
)

-- ---- all elements

module _ (entries : ℕ → Entry) where
  -- What a walk checks of a content, of an element of this name.
  abbrev GoodLaw : ℕ → State → Content → Bool → Type 0
  GoodLaw name s c g =
      (good_after entries name s c g ≡ true) ↔ ((g ≡ true) × Moves (entries name) s c × (HasText c → allows_text (entries name) ≡ true) × AllFit entries c)

  element_law : (name : ℕ) (s : State) (x : ℕ) (inner c : Content) (g : Bool) → ((h : Bool) → GoodLaw x first inner h) →
      ((h : Bool) → GoodLaw name (kept s (move_in (entries name) s x)) c h) → GoodLaw name s (element x inner c) g
  unfolding good_after Moves
  element_law name s x inner c g law-in law-on = (to, from)
    where
      m : Option State
      m = move_in (entries name) s x

      close : Bool
      close = may_close (entries x) (last_state (entries x) first inner)

      inside : Bool
      inside = good_after entries x first inner (goes_on m && g)

      to : good_after entries name (kept s m) c (close && inside) ≡ true →
          (g ≡ true) × ((goes_on m ≡ true) × Moves (entries name) (kept s m) c) × (HasText c → allows_text (entries name) ≡ true) × (Fits (entries x) inner × AllFit entries inner × AllFit entries c)
      to e =
          let p = (law-on (close && inside)).0 e in
          let q = (law-in (goes_on m && g)).0 (and_right close inside p.0) in
          (and_right (goes_on m) g q.0, (and_left (goes_on m) g q.0, p.1), p.2, ((fits_law (entries x) inner).0 (and_left close inside p.0, q.1, q.2), q.3, p.3))

      from : (g ≡ true) × ((goes_on m ≡ true) × Moves (entries name) (kept s m) c) × (HasText c → allows_text (entries name) ≡ true) × (Fits (entries x) inner × AllFit entries inner × AllFit entries c) →
          good_after entries name (kept s m) c (close && inside) ≡ true
      from p =
          let k = (fits_law (entries x) inner).1 p.3.0 in
          let i : inside ≡ true = (law-in (goes_on m && g)).1 (both (goes_on m) g p.1.0 p.0, k.1, k.2, p.3.1) in
          (law-on (close && inside)).1 (both close inside k.0 i, p.1.1, p.2, p.3.2)

  pub good_law : (name : ℕ) (s : State) (c : Content) (g : Bool) → GoodLaw name s c g
  unfolding good_after Moves
  good_law name s nothing g = (λ e. (e, tt, (λ h. absurd h), tt), λ p. p.0)
  good_law name s (text c) g = (
    λ e. let p = (good_law name s c (allows_text (entries name) && g)).0 e in
        (and_right (allows_text (entries name)) g p.0, p.1, (λ h. and_left (allows_text (entries name)) g p.0), p.3),
    λ p. (good_law name s c (allows_text (entries name) && g)).1 (both (allows_text (entries name)) g (p.2 tt) p.0, p.1, (λ h. p.2 tt), p.3),
  )
  good_law name s (element x inner c) g = element_law name s x inner c g (λ h. good_law x first inner h) (λ h. good_law name (kept s (move_in (entries name) s x)) c h)

  -- The whole tree.
  pub tree_law : (t : Tree) → ((may_close (entries t.root) (last_state (entries t.root) first t.content) && good_after entries t.root first t.content true) ≡ true) ↔ Valid entries t
  tree_law t = (to, from)
    where
      close : Bool
      close = may_close (entries t.root) (last_state (entries t.root) first t.content)

      inside : Bool
      inside = good_after entries t.root first t.content true

      to : (close && inside) ≡ true → Valid entries t
      to e =
          let p = (good_law t.root first t.content true).0 (and_right close inside e) in
          ((fits_law (entries t.root) t.content).0 (and_left close inside e, p.1, p.2), p.3)

      from : Valid entries t → (close && inside) ≡ true
      from v =
          let k = (fits_law (entries t.root) t.content).1 v.0 in
          both close inside k.0 ((good_law t.root first t.content true).1 (refl, k.1, k.2, v.1))
