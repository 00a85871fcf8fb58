-- `without_block` meets its contract: the parent is taken out, then the children.
-- Assumes nothing.
use Rattle.std.proofs.Common.{◌≡◌, ℕ, ◌+◌, ◌-◌, ◌<◌, List, get_or, take, drop, ap, ◌∙◌, arith}
use Rattle.nameset.specs.declared.NameSet.{NameSet}
use Rattle.nameset.specs.Set.{without}
use Rattle.nameset.specs.Places.{places}
use Rattle.book.specs.Book.{all_below}
use Rattle.book.specs.Bytes.{head_size}
use Rattle.book_unused.specs.Unused.{without_word, without_block, block_at}
use Rattle.book_unused.proofs.without_block.Goals as goal

-- the part of the bytes that is taken as the children
children : (bytes : List ℕ) (at size : ℕ) → take (at + head_size + size - (at + head_size)) (drop (at + head_size) bytes) ≡ (block_at bytes at size).word
unfolding block_at
children bytes at size = let d : at + head_size + size - (at + head_size) ≡ size = omega arith in ap (λ (k : ℕ). take k (drop (at + head_size) bytes)) d

taken_out : (bytes : List ℕ) (at size : ℕ) (s next : NameSet) (parent : ℕ) → parent ≡ get_or bytes at 0 → next ≡ without s parent → (r : NameSet) →
    r ≡ without_word next (take (at + head_size + size - (at + head_size)) (drop (at + head_size) bytes)) → r ≡ without_block s (block_at bytes at size)
unfolding without_block block_at
taken_out bytes at size s next parent e q r h = h ∙ ap (without_word next) (children bytes at size) ∙ ap (λ (x : NameSet). without_word x (block_at bytes at size).word) (q ∙ ap (without s) e)

parent_small : (bytes : List ℕ) (at size : ℕ) → (block_at bytes at size).parent < places → get_or bytes at 0 < places
unfolding block_at
parent_small bytes at size h = h

pub without-requires : goal.without-requires
without-requires c = omega (arith, c.from-parent.ensures, parent_small _ _ c.args.size c.requires.2)

pub without_word-requires : goal.without_word-requires
without_word-requires c = ap (all_below places) (children _ c.args.at c.args.size) ∙ c.requires.3

pub returns : goal.returns
returns c = taken_out _ c.args.at c.args.size _ _ _ c.from-parent.ensures c.without.ensures.same _ c.without_word.ensures
