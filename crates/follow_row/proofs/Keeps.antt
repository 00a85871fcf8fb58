-- What a row keeps: nothing at first, then one block more after the other.
-- Assumes nothing.
use Prim.Native.Nat.{ℕ, ◌+◌, ◌-◌, ◌≤◌}
use mathlib.Core.Path.{◌≡◌, refl, sym, ◌∙◌, ap}
use mathlib.Core.Bool.{Bool, true, false, ◌&&◌, ◌||◌, cond, or-false}
use mathlib.Core.List.{List, [], ◌∷◌, ◌++◌}
use lib.Dec.{eqb}
use lib.ListN.{take, drop, replicate, length-replicate}
use borrow.Author.Tests.{eq-eqb, ne_eqb}
use Rattle.nameset.specs.Places.{places}
use Rattle.nameset.specs.Rows.{row_at, no_rows}
use Rattle.book.specs.Book.{Block, all_below}
use Rattle.book.specs.Bytes.{head_size}
use Rattle.book.specs.Stops.{BlocksBelow}
use Rattle.book.proofs.Laws.{all_below_more}
use Rattle.book_blocks.proofs.Steps.{BlockRead, part_read}
use Rattle.follow.specs.declared.Facts.{Facts}
use Rattle.follow.specs.Sample.{words_of, has_text}
use Rattle.follow.specs.Adding.{no_facts, with_word, with_words, facts_of}
use Rattle.follow.proofs.Laws.{words_over}
use Rattle.follow.proofs.Text.{text_more}
use Rattle.follow_row.specs.Row.{row_size, facts_in, text_in, RowKeeps, OfWords, RowAdded}

-- ---- the words of one block more

words_own : (p : ℕ) (bs : List Block) (b : Block) → eqb b.parent p ≡ true → words_of p (bs ++ (b ∷ [])) ≡ words_of p bs ++ (b.word ∷ [])
unfolding words_of
words_own p [] b e = rw e
words_own p (c ∷ bs) b e = go (eqb c.parent p) (words_own p bs b e)
  where
    go : (own : Bool) → words_of p (bs ++ (b ∷ [])) ≡ words_of p bs ++ (b.word ∷ []) →
        cond own (c.word ∷ words_of p (bs ++ (b ∷ []))) (words_of p (bs ++ (b ∷ []))) ≡ cond own (c.word ∷ words_of p bs) (words_of p bs) ++ (b.word ∷ [])
    go true ih = ap (λ (ws : List (List ℕ)). c.word ∷ ws) ih
    go false ih = ih

words_other : (p : ℕ) (bs : List Block) (b : Block) → eqb b.parent p ≡ false → words_of p (bs ++ (b ∷ [])) ≡ words_of p bs
unfolding words_of
words_other p [] b e = rw e
words_other p (c ∷ bs) b e = ap (λ (ws : List (List ℕ)). cond (eqb c.parent p) (c.word ∷ ws) ws) (words_other p bs b e)

more_words : (f : Facts) (ws : List (List ℕ)) (w : List ℕ) → with_words f (ws ++ (w ∷ [])) ≡ with_word (with_words f ws) w
unfolding with_words
more_words f [] w = refl
more_words f (v ∷ ws) w = more_words (with_word f v) ws w

more_facts : (ws : List (List ℕ)) (w : List ℕ) → facts_of (ws ++ (w ∷ [])) ≡ with_word (facts_of ws) w
unfolding facts_of
more_facts ws w = more_words no_facts ws w

text_own : (p : ℕ) (bs : List Block) (b : Block) → eqb b.parent p ≡ true → has_text p (bs ++ (b ∷ [])) ≡ (has_text p bs || eqb b.text 1)
text_own p bs b e = text_more p bs b ∙ ap (λ (own : Bool). has_text p bs || (own && eqb b.text 1)) e

text_other : (p : ℕ) (bs : List Block) (b : Block) → eqb b.parent p ≡ false → has_text p (bs ++ (b ∷ [])) ≡ has_text p bs
text_other p bs b e = text_more p bs b ∙ ap (λ (own : Bool). has_text p bs || (own && eqb b.text 1)) e ∙ or-false (has_text p bs)

-- ---- what a row keeps

pub row_none : (p n : ℕ) → n ≡ row_size → RowKeeps p [] (replicate n 0)
unfolding words_of has_text facts_of with_words facts_in text_in no_facts no_rows row_at
row_none p n e = rw e (record { size = length-replicate {A = ℕ} row_size 0; facts = refl; text = refl })

module _ (p : ℕ) (bs : List Block) (b : Block) (u : List ℕ) (k : RowKeeps p bs u) where
  -- a block of the parent
  pub row_own : (v : List ℕ) → b.parent ≡ p → RowAdded u b.text b.word v → RowKeeps p (bs ++ (b ∷ [])) v
  row_own v e a =
      record {
        size = a.size;
        facts =
            a.facts
            ∙ ap (λ (f : Facts). with_word f b.word) k.facts
            ∙ sym (ap facts_of (words_own p bs b (eq-eqb b.parent p e)) ∙ more_facts (words_of p bs) b.word);
        text = a.text ∙ ap (λ (x : Bool). x || eqb b.text 1) k.text ∙ sym (text_own p bs b (eq-eqb b.parent p e));
      }

  -- a block of another parent
  pub row_other : (b.parent ≡ p → ⊥) → RowKeeps p (bs ++ (b ∷ [])) u
  row_other d =
      let other = ne_eqb b.parent p d in
      record {
        size = k.size;
        facts = k.facts ∙ sym (ap facts_of (words_other p bs b other));
        text = k.text ∙ sym (text_other p bs b other);
      }

-- the children of a block that was read can be added to a row
pub word_below : (n : ℕ) (s : List ℕ) (at size : ℕ) (b : BlockRead n s at size) (w : List ℕ) →
    w ≡ take (at + head_size + size - (at + head_size)) (drop (at + head_size) s) → n ≤ places → all_below places w ≡ true
word_below n s at size b w part few = rw (part_read n s at size b w part) (all_below_more n places b.block.value.word few b.children)

-- a row that keeps blocks over n names keeps the facts of words over n names
abbrev pub row_of_words : (n p : ℕ) (bs : List Block) (row : List ℕ) → BlocksBelow n bs → RowKeeps p bs row → OfWords n row
row_of_words n p bs row below k = record { size = k.size; words = words_of p bs; over = words_over n p bs below; facts = k.facts }
