-- `without_word` meets its contract.
-- Assumes nothing.
use Rattle.std.proofs.Common.{◌≡◌, ℕ, suc, ◌+◌, ◌≤◌, ◌<◌, List, length, get_or, drop, sym, ◌∙◌, arith, drop-cons, drop_of_length-le}
use Rattle.nameset.specs.declared.NameSet.{NameSet}
use Rattle.nameset.specs.Set.{without}
use Rattle.nameset.specs.Places.{places}
use Rattle.book.proofs.Laws.{child_below}
use Rattle.book_unused.specs.Unused.{without_word}
use Rattle.book_unused.proofs.without_word.Goals as goal

-- a number taken out
again : (whole left next : NameSet) (w : List ℕ) (i x : ℕ) → without_word whole w ≡ without_word left (drop i w) → i < length w → x ≡ get_or w i 0 → next ≡ without left x →
    without_word whole w ≡ without_word next (drop (i + 1) w)
unfolding without_word
again whole left next w i x inv h e q = inv ∙ (let k : suc i ≡ i + 1 = omega arith in rw (drop-cons w i 0 h, k, ← e, q))

-- none is left
ended : (whole left : NameSet) (w : List ℕ) (i : ℕ) → without_word whole w ≡ without_word left (drop i w) → length w ≤ i → left ≡ without_word whole w
unfolding without_word
ended whole left w i inv h = sym (inv ∙ rw (drop_of_length-le w h))

pub without-left-requires : goal.without-left-requires
without-left-requires c = omega (arith, c.from.ensures, child_below places _ c.requires c.loop-name.name-index c.loop-name-test.true)

pub loop-name-preserved : goal.loop-name-preserved
loop-name-preserved c = again _ _ _ _ _ _ c.loop-name.invariant c.loop-name-test.true c.from.ensures c.without-left.ensures.same

pub returns : goal.returns
returns c = ended _ _ _ _ c.loop-name.invariant c.loop-name-test.false
