-- Laws of the names that occur, of sets that meet, and of the names that a step leads to.
-- Assumes nothing.
use Prim.Native.Nat.{ℕ, ◌<◌}
use mathlib.Core.Path.{◌≡◌, refl, sym, ◌∙◌, ap, ap₂, fun_ext, subst}
use mathlib.Core.Bool.{Bool, true, false, ◌&&◌, ◌||◌, not, and-true, and-false, or-true, or-false, or_assoc}
use mathlib.Core.List.{List}
use mathlib.Core.Logic.{◌⊎◌, inl, inr}
use native.Mathlib.Decide.{ℕ_discrete}
use borrow.Author.Tests.{eq-eqb, ne_eqb}
use lib.Dec.{eqb, ltb}
use Rattle.nameset.specs.Places.{places}
use Rattle.nameset.specs.declared.NameSet.{NameSet}
use Rattle.nameset.specs.Set.{member}
use Rattle.nameset.specs.Rows.{IsRows, row_at}
use Rattle.nameset.specs.Promise.{Emptiness}
use Rattle.nameset.proofs.Tests.{same_test}
use Rattle.follow.specs.View.{view_of}
use Rattle.follow.specs.declared.Facts.{Facts}
use Rattle.chain_levels.specs.Below.{any_below, count_below}
use Rattle.chain_levels.specs.Reach.{occurs}
use Rattle.chain_peel.specs.Shown.{Shown}
use Rattle.chain_peel.specs.Sets.{meets, in_rows, steps_over}
use Rattle.chain_levels.proofs.Tests.{and_is, or_is, ltb_is, some_is}
use Rattle.chain_levels.proofs.Below.{count_lt}
use Rattle.chain_peel.proofs.Reaching.{occurs_small, edge_follows}
use Rattle.chain_peel.proofs.Rows.{rows_is, rows_none, rows_both}
use Rattle.chain_rows.specs.Rows.{in_row, OnlyNames, Transitive, among_rows}
use Rattle.chain_rows.proofs.Laws.{row_is}
use Rattle.chain_reach.specs.Reached.{Edges}
use Rattle.chain_factors.proofs.Sets.{some_set}

-- ---- follow rows

-- facts that words show speak of names only, so their rows keep the steps between names
pub rows_names : (facts : Facts) (n : ℕ) → Shown (view_of n facts) → IsRows places facts.follows → OnlyNames n facts.follows
unfolding in_row
rows_names facts n s h = record { size = h; below = λ a b e. (occurs_small (view_of n facts) a (s.followed a b e), s.follows a b e) }

pub rows_edges : (facts : Facts) (n : ℕ) → Shown (view_of n facts) → Edges (view_of n facts) n facts.follows
unfolding in_row
rows_edges facts n s = record { same = refl; law = λ a b. sym (edge_follows (view_of n facts) s a b) }

-- ---- names that occur

pub occurs_law : (facts : Facts) (n : ℕ) → Shown (view_of n facts) → (x : ℕ) → (member facts.starts x || among_rows n facts.follows x) ≡ occurs (view_of n facts) x
unfolding among_rows in_row occurs
occurs_law facts n s x =
    same_test (starts || follows) (ltb x n && (starts || follows)) (λ e. (and_is (ltb x n) (starts || follows)).1 ((ltb_is x n).1 (small ((or_is starts follows).0 e)), e))
    (λ e. ((and_is (ltb x n) (starts || follows)).0 e).1)
  where
    starts : Bool
    starts = member facts.starts x

    follows : Bool
    follows = any_below n (λ b. member (row_at facts.follows b) x)

    small : (starts ≡ true) ⊎ (follows ≡ true) → x < n
    small (inl e) = s.starts x e
    small (inr e) = let p = (some_is n (λ b. member (row_at facts.follows b) x)).0 e in s.follows p.0 x p.2

-- ---- sets that meet

pub meet_law : (a b s : NameSet) (r : Bool) → ((j : ℕ) → member s j ≡ (member a j && member b j)) → Emptiness s r → not r ≡ meets places (member a) (member b)
unfolding meets
meet_law a b s r law e = some_set s r e ∙ ap (any_below places) (fun_ext law)

-- stepped has the names that start, or a name of the set lower, leads to
pub record Stepped (starts : NameSet) (follows : List ℕ) (lower stepped : NameSet) : Type 0 where
  pub law : (b : ℕ) → member stepped b ≡ (member starts b || in_rows places (in_row follows) (member lower) b)

pub stepped_none : (starts : NameSet) (follows : List ℕ) (lower : NameSet) → ((x : ℕ) → member lower x ≡ false) → Stepped starts follows lower starts
stepped_none starts follows lower none = record { law = λ b. sym (rw (rows_none places (in_row follows) (member lower) b none) (or-false (member starts b))) }

pub stepped_more : {starts : NameSet} {follows : List ℕ} {lower stepped : NameSet} → Stepped starts follows lower stepped →
    (level rows more both : NameSet) → ((b : ℕ) → member rows b ≡ in_rows places (in_row follows) (member level) b) → ((b : ℕ) → member more b ≡ (member stepped b || member rows b)) →
    ((x : ℕ) → member both x ≡ (member lower x || member level x)) → Stepped starts follows both more
stepped_more {starts} {follows} {lower} {stepped} p level rows more both law sum join = record { law = at }
  where
    at : (b : ℕ) → member more b ≡ (member starts b || in_rows places (in_row follows) (member both) b)
    at b =
        sum b ∙ ap₂ ◌||◌ (p.law b) (law b)
        ∙ or_assoc (member starts b) (in_rows places (in_row follows) (member lower) b) (in_rows places (in_row follows) (member level) b)
        ∙ ap (λ (x : Bool). member starts b || x) (sym (rows_both places (in_row follows) (member lower) (member level) (member both) b join))

-- so a step that goes over a level starts among them
pub stepped_over : (empty : Bool) (starts ends : NameSet) (follows : List ℕ) (lower stepped higher : NameSet) (r : Bool) → Stepped starts follows lower stepped →
    r ≡ (empty || (meets places (member ends) (member lower) || meets places (member stepped) (member higher))) →
    r ≡ steps_over places empty (member starts) (member ends) (in_row follows) (member lower) (member higher)
unfolding steps_over
stepped_over empty starts ends follows lower stepped higher r p e =
    let z : ◌≡◌ {A = ℕ → Bool} (member stepped) (λ y. member starts y || in_rows places (in_row follows) (member lower) y) = fun_ext p.law in
    e ∙ ap (λ (s : ℕ → Bool). empty || (meets places (member ends) (member lower) || meets places s (member higher))) z

-- ---- the names behind none of those that are left

-- of the names of the level, those are wanted that stand behind none that is left
pub record Leaving (behind : List ℕ) (higher level left : NameSet) : Type 0 where
  pub law : (x : ℕ) → (member level x && not (in_rows places (in_row behind) (member left) x)) ≡ (member higher x && not (in_rows places (in_row behind) (member higher) x))

pub leave_none : (behind : List ℕ) (higher : NameSet) → Leaving behind higher higher higher
leave_none behind higher = record { law = λ x. refl }

without_both : (a u v : Bool) → ((a && not u) && not v) ≡ (a && not (u || v))
without_both false u v = refl
without_both true true v = refl
without_both true false v = refl

module _ (left : NameSet) (a : ℕ) (found : (a < places) × (member left a ≡ true)) (own others : NameSet) (own-law : (j : ℕ) → member others j ≡ (member left j && not (member own j)))
    (row : NameSet) (with-law : (j : ℕ) → member own j ≡ (member row j || eqb a j)) where
  pub leave_fewer : count_below places (member others) < count_below places (member left)
  leave_fewer =
      count_lt places (member others) (member left) (λ x h e. ((and_is (member left x) (not (member own x))).0 (sym (own-law x) ∙ e)).0) a found.0
      (own-law a ∙ rw (with-law a, eq-eqb a a refl, or-true (member row a)) (and-false (member left a))) found.1

  module _ (behind : List ℕ) (t : Transitive behind) (q : row ≡ row_at behind a) where
    -- a name behind another of those left adds nothing
    rows_passed : (x : ℕ) → in_rows places (in_row behind) (member left) x ≡ (in_row behind a x || in_rows places (in_row behind) (member others) x)
    rows_passed x = same_test (in_rows places (in_row behind) (member left) x) (in_row behind a x || in_rows places (in_row behind) (member others) x) to from
      where
        to : in_rows places (in_row behind) (member left) x ≡ true → (in_row behind a x || in_rows places (in_row behind) (member others) x) ≡ true
        to e = let p = (rows_is places (in_row behind) (member left) x).0 e in (or_is (in_row behind a x) _).1 (go p.0 p.1 p.2 p.3 (ℕ_discrete a p.0) (in_row behind a p.0) refl)
          where
            go : (y : ℕ) → y < places → member left y ≡ true → in_row behind y x ≡ true → Dec (a ≡ y) → (b : Bool) → in_row behind a y ≡ b → (in_row behind a x ≡ true) ⊎ (in_rows places (in_row behind) (member others) x ≡ true)
            go y h m r (yes d) b w = inl (subst (λ (z : ℕ). in_row behind z x ≡ true) (sym d) r)
            go y h m r (no d) true w = inl (t a y x w r)
            go y h m r (no d) false w = inr ((rows_is places (in_row behind) (member others) x).1 (y, h, own-law y ∙ rw (m, with-law y, row_is behind a row q y, w, ne_eqb a y d), r))

        from : (in_row behind a x || in_rows places (in_row behind) (member others) x) ≡ true → in_rows places (in_row behind) (member left) x ≡ true
        from e = go ((or_is (in_row behind a x) (in_rows places (in_row behind) (member others) x)).0 e)
          where
            go : (in_row behind a x ≡ true) ⊎ (in_rows places (in_row behind) (member others) x ≡ true) → in_rows places (in_row behind) (member left) x ≡ true
            go (inl r) = (rows_is places (in_row behind) (member left) x).1 (a, found.0, found.1, r)
            go (inr r) = let p = (rows_is places (in_row behind) (member others) x).0 r in (rows_is places (in_row behind) (member left) x).1 (p.0, p.1, ((and_is (member left p.0) (not (member own p.0))).0 (sym (own-law p.0) ∙ p.2)).0, p.3)

    pub leave_more : {higher level : NameSet} → Leaving behind higher level left → (next : NameSet) → ((j : ℕ) → member next j ≡ (member level j && not (member row j))) → Leaving behind higher next others
    leave_more {higher} {level} l next law = record { law = λ x. at x ∙ l.law x }
      where
        at : (x : ℕ) → (member next x && not (in_rows places (in_row behind) (member others) x)) ≡ (member level x && not (in_rows places (in_row behind) (member left) x))
        at x =
            ap (λ (u : Bool). u && not (in_rows places (in_row behind) (member others) x)) (law x ∙ ap (λ (u : Bool). member level x && not u) (row_is behind a row q x))
            ∙ without_both (member level x) (in_row behind a x) (in_rows places (in_row behind) (member others) x)
            ∙ ap (λ (u : Bool). member level x && not u) (sym (rows_passed x))

pub leave_all : {behind : List ℕ} {higher level left : NameSet} → Leaving behind higher level left → ((j : ℕ) → member left j ≡ false) →
    (x : ℕ) → member level x ≡ (member higher x && not (in_rows places (in_row behind) (member higher) x))
leave_all {behind} {higher} {level} {left} l none x = sym (and-true (member level x)) ∙ sym (rw (rows_none places (in_row behind) (member left) x none)) ∙ l.law x
