-- Laws of loop groups: the members of a group, and the groups taken off one after the other.
-- Assumes nothing.
use Prim.Native.Nat.{ℕ, ◌≤◌, ◌<◌}
use mathlib.Core.Path.{◌≡◌, refl, sym, ◌∙◌, ap, subst}
use mathlib.Core.Bool.{Bool, true, false, cond, ◌&&◌, ◌||◌, not, and-true, and-false, or-false}
use mathlib.Core.List.{List}
use mathlib.Core.Logic.{◌↔◌}
use native.Mathlib.Omega.{arith}
use native.Mathlib.Decide.{ℕ_discrete, dec_lt}
use borrow.Author.Tests.{eq-eqb, ne_eqb}
use lib.Dec.{eqb}
use lib.ListN.{length}
use Rattle.nameset.specs.Places.{places}
use Rattle.nameset.specs.declared.NameSet.{NameSet}
use Rattle.nameset.specs.Set.{member, minus}
use Rattle.nameset.specs.Rows.{IsRows, HasRow, row_at, put_row}
use Rattle.nameset.proofs.Laws.{member_minus}
use Rattle.nameset.proofs.Rows.{length_put}
use Rattle.nameset.specs.Names.{Given, Ended}
use Rattle.nameset.proofs.Turns.{given_member, given_rest, none_left}
use Rattle.nameset.proofs.Tests.{same_test}
use Rattle.chain_levels.specs.Below.{any_below, count_below}
use Rattle.chain_levels.proofs.Tests.{some_is, both_ways, refuted, and_is, not_is}
use Rattle.chain_levels.proofs.Below.{count_lt}
use Rattle.chain_rows.specs.Rows.{in_row, OnlyNames, Transitive, Copied}
use Rattle.chain_rows.proofs.Laws.{row_is, put_same, put_other, past, Picked, pick_all}
use Rattle.chain_groups.specs.Groups.{group_in, together, leads_away, smallest, PutEach, Grouped}

pub group_members : (reach behind : List ℕ) (a b : ℕ) → member (group_in reach behind a) b ≡ (in_row reach a b && not (in_row behind a b))
unfolding group_in in_row
group_members reach behind a b = member_minus (row_at reach a) (row_at behind a) b

pub group_made : (reach behind : List ℕ) (a : ℕ) (p q r : NameSet) → p ≡ row_at reach a → q ≡ row_at behind a → r ≡ minus p q → r ≡ group_in reach behind a
unfolding group_in
group_made reach behind a p q r e f g = rw (← e, ← f) g

-- ---- names that reach themselves

pub own_has : (reach : List ℕ) (a : ℕ) (s : NameSet) (more : Bool) → s ≡ row_at reach a → more ≡ member s a → more ≡ in_row reach a a
own_has reach a s more e f = f ∙ row_is reach a s e a

pub own_all : (n : ℕ) (reach : List ℕ) (i : ℕ) (s : NameSet) → OnlyNames n reach → Picked s (λ a. in_row reach a a) i → n ≤ i → (a : ℕ) → member s a ≡ in_row reach a a
own_all n reach i s o p h = pick_all p n h (λ j l. past o j j l)

-- ---- a loop group

-- s has the names of the group that are not left
pub record Joining (reach : List ℕ) (a : ℕ) (left s : NameSet) : Type 0 where
  pub law : (b : ℕ) → together reach a b ≡ (member s b || (member left b && in_row reach b a))

pub joining_none : (reach : List ℕ) (a : ℕ) (row s : NameSet) → row ≡ row_at reach a → ((j : ℕ) → member s j ≡ false) → Joining reach a row s
unfolding together
joining_none reach a row s e none = record { law = λ b. sym (rw (none b, row_is reach a row e b)) }

pub joining_more : {reach : List ℕ} {a : ℕ} {left s : NameSet} → Joining reach a left s → {b : ℕ} {others : NameSet} → Given left b others → {row r : NameSet} {more : Bool} →
    row ≡ row_at reach b → more ≡ member row a → ((j : ℕ) → member r j ≡ (member s j || (more && eqb b j))) → Joining reach a others r
joining_more {reach} {a} {left} {s} p {b} {others} g {row} {r} {more} e f law = record { law = λ j. p.law j ∙ at j (ℕ_discrete b j) }
  where
    m : member left b ≡ true
    m = (given_member g).1

    rest : (j : ℕ) → member others j ≡ (member left j && not (eqb b j))
    rest = given_rest g

    at : (j : ℕ) → Dec (b ≡ j) → (member s j || (member left j && in_row reach j a)) ≡ (member r j || (member others j && in_row reach j a))
    at j (yes q) =
        let z : eqb b b ≡ true = eq-eqb b b refl in
        rw (← q, law b, rest b, m, z, f, row_is reach b row e a, and-true (in_row reach b a), or-false (member s b || in_row reach b a))
    at j (no q) =
        let z : eqb b j ≡ false = ne_eqb b j q in
        rw (law j, rest j, z, and-false more, and-true (member left j), or-false (member s j))

pub joining_all : {reach : List ℕ} {a : ℕ} {left s t : NameSet} → Joining reach a left s → Ended left t → (b : ℕ) → member s b ≡ together reach a b
joining_all {reach} {a} {left} {s} p e b = sym (p.law b ∙ rw (none_left e b, or-false (member s b)))

-- ---- one set put in for a group

-- with the set put in for the names that are left, the rows are those that are wanted
pub record Putting (old now : List ℕ) (group s left : NameSet) : Type 0 where
  pub size : IsRows places now
  pub law : (a b : ℕ) → cond (member left a) (member s b) (in_row now a b) ≡ cond (member group a) (member s b) (in_row old a b)

pub put_none : (old : List ℕ) (group s left : NameSet) → IsRows places old → left ≡ group → Putting old old group s left
put_none old group s left h e = record { size = h; law = λ a b. rw e refl }

pub put_more : {old now : List ℕ} {group s left : NameSet} → Putting old now group s left → {i : ℕ} {others : NameSet} → Given left i others → {next : List ℕ} →
    next ≡ put_row now i s → Putting old next group s others
put_more {old} {now} {group} {s} {left} p {i} {others} g {next} e = record { size = ap length e ∙ length_put now i s ∙ p.size; law = λ a b. ap (λ (t : List ℕ). cond (member others a) (member s b) (in_row t a b)) e ∙ at a b (ℕ_discrete a i) ∙ p.law a b }
  where
    h : i < places
    h = (given_member g).0

    m : member left i ≡ true
    m = (given_member g).1

    rest : (j : ℕ) → member others j ≡ (member left j && not (eqb i j))
    rest = given_rest g

    at : (a b : ℕ) → Dec (a ≡ i) → cond (member others a) (member s b) (in_row (put_row now i s) a b) ≡ cond (member left a) (member s b) (in_row now a b)
    at a b (yes q) =
        let z : HasRow now i = rw p.size h in
        let y : eqb i i ≡ true = eq-eqb i i refl in
        rw (q, rest i, y, m) (put_same now i s b z)
    at a b (no q) =
        let y : eqb i a ≡ false = ne_eqb i a (λ u. q (sym u)) in
        rw (rest a, y, and-true (member left a), put_other now i a s b q)

pub put_all : {old now : List ℕ} {group s left t : NameSet} → Putting old now group s left → Ended left t → PutEach old now group s
put_all {old} {now} {group} {s} {left} p e = record { size = p.size; law = λ a b. sym (rw (none_left e a)) ∙ p.law a b }

-- ---- the groups one after the other

-- The groups of the names that are not left have been taken off.
pub record Taken (reach behind : List ℕ) (leaders left : NameSet) : Type 0 where
  pub size : IsRows places behind
  pub away : (a b : ℕ) → member left a ≡ false → in_row behind a b ≡ leads_away reach a b
  pub own : (a : ℕ) → member left a ≡ true → in_row reach a a ≡ true
  pub whole : (a b : ℕ) → member left a ≡ true → together reach a b ≡ true → member left b ≡ true
  pub lead : (a : ℕ) → member leaders a ≡ (not (member left a) && smallest reach a)

module _ (reach : List ℕ) (t : Transitive reach) where
  together_is : (a b : ℕ) → (together reach a b ≡ true) ↔ ((in_row reach a b ≡ true) × (in_row reach b a ≡ true))
  unfolding together
  together_is a b = and_is (in_row reach a b) (in_row reach b a)

  together_own : (a : ℕ) → in_row reach a a ≡ true → together reach a a ≡ true
  together_own a e = (together_is a a).1 (e, e)

  together_sym : (a b : ℕ) → together reach a b ≡ true → together reach b a ≡ true
  together_sym a b e = let p = (together_is a b).0 e in (together_is b a).1 (p.1, p.0)

  together_trans : (a b c : ℕ) → together reach a b ≡ true → together reach b c ≡ true → together reach a c ≡ true
  together_trans a b c e d =
      let p = (together_is a b).0 e in
      let q = (together_is b c).0 d in
      (together_is a c).1 (t a b c p.0 q.0, t c b a q.1 p.1)

  away_is : (a b : ℕ) → (leads_away reach a b ≡ true) ↔ ((in_row reach a b ≡ true) × (in_row reach b a ≡ false))
  unfolding leads_away
  away_is a b = (
    λ e. let p = (and_is (in_row reach a b) (not (in_row reach b a))).0 e in (p.0, (not_is (in_row reach b a)).0 p.1),
    λ p. (and_is (in_row reach a b) (not (in_row reach b a))).1 (p.0, (not_is (in_row reach b a)).1 p.1),
  )

  -- a name in no group leads away to all that it reaches
  alone_away : (a b : ℕ) → in_row reach a a ≡ false → in_row reach a b ≡ leads_away reach a b
  alone_away a b none =
      same_test (in_row reach a b) (leads_away reach a b) (λ e. (away_is a b).1 (e, refuted (in_row reach b a) (λ d. both_ways (in_row reach a a) (t a b a e d) none)))
      (λ e. ((away_is a b).0 e).0)

  -- the names of a group lead away to what one of them reaches outside the group
  group_away : (a x b : ℕ) → together reach a x ≡ true → (in_row reach a b && not (together reach a b)) ≡ leads_away reach x b
  group_away a x b g = same_test (in_row reach a b && not (together reach a b)) (leads_away reach x b) to from
    where
      to : (in_row reach a b && not (together reach a b)) ≡ true → leads_away reach x b ≡ true
      to e =
          let p = (and_is (in_row reach a b) (not (together reach a b))).0 e in
          let q = (together_is a x).0 g in
          (away_is x b).1 (t x a b q.1 p.0, refuted (in_row reach b x) (λ d. both_ways (together reach a b) ((together_is a b).1 (p.0, t b x a d q.1)) ((not_is (together reach a b)).0 p.1)))

      from : leads_away reach x b ≡ true → (in_row reach a b && not (together reach a b)) ≡ true
      from e =
          let p = (away_is x b).0 e in
          let q = (together_is a x).0 g in
          (and_is (in_row reach a b) (not (together reach a b))).1 (t a x b q.0 p.0, (not_is (together reach a b)).1 (refuted (together reach a b) (λ d. both_ways (in_row reach b x) (t b a x ((together_is a b).0 d).1 q.0) p.1)))

  pub taken_none : (behind : List ℕ) (leaders names : NameSet) → Copied reach behind → ((j : ℕ) → member leaders j ≡ false) → ((a : ℕ) → member names a ≡ in_row reach a a) → Taken reach behind leaders names
  unfolding smallest
  taken_none behind leaders names c none e =
      record {
        size = c.size;
        away = λ a b m. c.law a b ∙ alone_away a b (sym (e a) ∙ m);
        own = λ a m. sym (e a) ∙ m;
        whole = λ a b m g. e b ∙ ((together_is b b).0 (together_trans b a b (together_sym a b g) g)).0;
        lead = λ a. none a ∙ sym (ap (λ (u : Bool). not u && (in_row reach a a && not (any_below a (together reach a)))) (e a) ∙ never (in_row reach a a) (not (any_below a (together reach a))));
      }
    where
      never : (u v : Bool) → (not u && (u && v)) ≡ false
      never true v = refl
      never false v = refl

  module _ {behind : List ℕ} {leaders left : NameSet} (k : Taken reach behind leaders left) {i : ℕ} (found : (i < places) × (member left i ≡ true)) (least : (j : ℕ) → j < i → member left j ≡ false)
      (group : NameSet) (group_law : (b : ℕ) → member group b ≡ together reach i b) (others : NameSet) (others-law : (j : ℕ) → member others j ≡ (member left j && not (member group j))) where
    self : together reach i i ≡ true
    self = together_own i (k.own i found.1)

    others_is : (j : ℕ) → member others j ≡ true → (member left j ≡ true) × (together reach i j ≡ false)
    others_is j e =
        let p = (and_is (member left j) (not (member group j))).0 (sym (others-law j) ∙ e) in
        (p.0, sym (group_law j) ∙ (not_is (member group j)).0 p.1)

    pub taken_fewer : count_below places (member others) < count_below places (member left)
    taken_fewer =
        count_lt places (member others) (member left) (λ x h e. (others_is x e).0) i found.0
        (refuted (member others i) (λ e. both_ways (together reach i i) self (others_is i e).1)) found.1

    -- of a group, the name found is the smallest
    smallest_is : (x : ℕ) → together reach i x ≡ true → eqb i x ≡ smallest reach x
    unfolding smallest
    smallest_is x g = go (ℕ_discrete i x)
      where
        looping : in_row reach x x ≡ true
        looping = ((together_is x x).0 (together_trans x i x (together_sym i x g) g)).0

        go : Dec (i ≡ x) → eqb i x ≡ (in_row reach x x && not (any_below x (together reach x)))
        go (yes q) =
            let z : any_below x (together reach x) ≡ false =
            refuted (any_below x (together reach x)) (λ e. let p = (some_is x (together reach x)).0 e in both_ways (member left p.0) (k.whole i p.0 found.1 (together_trans i x p.0 g p.2)) (least p.0 (omega (arith, q, p.1)))) in
            rw (looping, z) (eq-eqb i x q)
        go (no q) =
            let l : i < x = below (dec_lt x i) in
            let z : any_below x (together reach x) ≡ true = (some_is x (together reach x)).1 (i, l, together_sym i x g) in
            rw (looping, z) (ne_eqb i x q)
          where
            below : Dec (x < i) → i < x
            below (yes l) = absurd (both_ways (member left x) (k.whole i x found.1 g) (least x l))
            below (no l) = omega arith

    pub taken_more : (row rest : NameSet) → row ≡ row_at reach i → ((j : ℕ) → member rest j ≡ (member row j && not (member group j))) → (next : List ℕ) → PutEach behind next group rest →
        (more : NameSet) → ((j : ℕ) → member more j ≡ (member leaders j || eqb i j)) → Taken reach next more others
    taken_more row rest e rest-law next put more more-law =
        record {
          size = put.size;
          away = λ a b m. put.law a b ∙ ap (λ (u : Bool). cond u (member rest b) (in_row behind a b)) (group_law a) ∙ at a b (together reach i a) refl (sym (others-law a) ∙ m);
          own = λ a m. k.own a (others_is a m).0;
          whole = λ a b m g. let p = others_is a m in others-law b ∙ rw (group_law b, k.whole a b p.0 g, refuted (together reach i b) (λ d. both_ways (together reach i a) (together_trans i b a d (together_sym a b g)) p.1));
          lead = λ a. more-law a ∙ lead a (together reach i a) refl ∙ ap (λ (u : Bool). not u && smallest reach a) (sym (others-law a ∙ ap (λ (u : Bool). member left a && not u) (group_law a)));
        }
      where
        row_law : (b : ℕ) → member rest b ≡ (in_row reach i b && not (together reach i b))
        row_law b = rest-law b ∙ rw (group_law b, row_is reach i row e b)

        at : (a b : ℕ) (u : Bool) → together reach i a ≡ u → (member left a && not (member group a)) ≡ false → cond u (member rest b) (in_row behind a b) ≡ leads_away reach a b
        at a b true g m = row_law b ∙ group_away i a b g
        at a b false g m = k.away a b (sym (and-true (member left a)) ∙ sym (ap (λ (u : Bool). member left a && not u) (group_law a ∙ g)) ∙ m)

        lead : (a : ℕ) (u : Bool) → together reach i a ≡ u → (member leaders a || eqb i a) ≡ (not (member left a && not u) && smallest reach a)
        lead a true g = let m : member left a ≡ true = k.whole i a found.1 g in rw (k.lead a, m) (smallest_is a g)
        lead a false g =
            let z : eqb i a ≡ false = ne_eqb i a (λ q. both_ways (together reach i a) (subst (λ (x : ℕ). together reach i x ≡ true) q self) g) in
            rw (z, or-false (member leaders a), and-true (member left a)) (k.lead a)

pub taken_all : {reach behind : List ℕ} {leaders left : NameSet} → Taken reach behind leaders left → ((j : ℕ) → member left j ≡ false) → (names : NameSet) → ((a : ℕ) → member names a ≡ in_row reach a a) → Grouped reach behind names leaders
taken_all {reach} {behind} {leaders} {left} k none names e = record { size = k.size; away = λ a b. k.away a b (none a); own = e; lead = λ a. k.lead a ∙ rw (none a) }
