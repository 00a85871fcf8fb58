-- `add_pairs` meets its contract.
-- Assumes nothing.
use Rattle.std.proofs.Common.{◌≡◌, ℕ, suc, ◌<◌, true, List, ◌∷◌, length, get_or, sym, ◌∙◌, arith}
use Rattle.nameset.specs.Places.{places}
use Rattle.book.specs.Book.{all_below}
use Rattle.book.proofs.Laws.{child_below}
use Rattle.follow.proofs.Words.{no_name_lem, pairs_none, pairs_begin, pairs_next, pairs_done}
use Rattle.follow.proofs.add_pairs.Goals as goal

first_below : (word : List ℕ) (a : ℕ) (w : List ℕ) → word ≡ a ∷ w → all_below places word ≡ true → a < places
first_below word a w e h = child_below places (a ∷ w) (rw e at h) 0 (omega arith)

next_below : (word : List ℕ) (a : ℕ) (w : List ℕ) (i : ℕ) → word ≡ a ∷ w → all_below places word ≡ true → i < length w → get_or w i 0 < places
next_below word a w i e h l = child_below places (a ∷ w) (rw e at h) (suc i) (omega arith)

pub returns-in_default : goal.returns-in_default
returns-in_default c = (pairs_none _ _ (no_name_lem _ c.in_default.ensures.cases), c.requires.0)

pub loop-next-init : goal.loop-next-init
loop-next-init c =
    let e = c.in-Some.ensures.cases.0 in
    record {
      small = rw c.from-a.ensures (first_below _ _ _ e c.requires.1);
      size = c.requires.0;
      left = rw c.from-a.ensures (pairs_begin _ _ _ _ e);
    }

pub with-names-requires : goal.with-names-requires
with-names-requires c = omega (arith, c.from-b.ensures, next_below _ _ _ c.loop-next.next-index c.in-Some.ensures.cases.0 c.requires.1 c.loop-next-test.true)

pub loop-next-preserved : goal.loop-next-preserved
loop-next-preserved c =
    let inv = c.loop-next.invariant in
    record {
      small = rw c.from-b.ensures (next_below _ _ _ c.loop-next.next-index c.in-Some.ensures.cases.0 c.requires.1 c.loop-next-test.true);
      size = c.put_row.ensures.1 ∙ inv.size;
      left = inv.left ∙ pairs_next _ _ _ _ _ _ _ _ c.loop-next-test.true c.from-b.ensures c.row_at.ensures c.with-names.ensures.same c.put_row.ensures.0;
    }

pub returns : goal.returns
returns c = let inv = c.loop-next.invariant in (sym (inv.left ∙ pairs_done _ _ _ _ c.loop-next-test.false), inv.size)
