-- The sample of a parent of a book that is not refused: what the theorem of demand 3 asks of it, and the call's answer.
-- Assumes nothing.
use Rattle.std.specs.Prelude.{Ok}
use Prim.Native.Nat.{ℕ, ◌≤◌, ◌<◌}
use mathlib.Core.Path.{◌≡◌, refl, sym, ◌∙◌, ap, ap₂, subst}
use mathlib.Core.Bool.{Bool, true, false, cond, false≢true}
use mathlib.Core.List.{List, [], ◌∷◌, Memᴰ}
use mathlib.Core.Logic.{◌↔◌}
use native.Mathlib.Omega.{arith}
use lib.Dec.{eqb}
use lib.ListN.{length}
use borrow.Author.Tests.{eqb-true}
use Rattle.nameset.specs.Places.{places}
use Rattle.book.specs.Book.{Block, Book, IsBook}
use Rattle.book.specs.declared.Layout.{Layout}
use Rattle.book.specs.Layout.{layout_of, reading_of}
use Rattle.book.specs.Access.{LaidOut}
use Rattle.book.specs.Stops.{BlocksBelow}
use Rattle.book.specs.Taken.{taken_book, TakenAs}
use Rattle.book.proofs.Taken.{is_book, good_parent}
use Rattle.book.proofs.Taken as Taken
use Rattle.book.proofs.Laws.{few_names, blocks_in_lem, blocks_within}
use Rattle.book_reading.specs.Opening.{blocks_read}
use Rattle.book_reading.proofs.Closing.{taken_blocks}
use Rattle.model.specs.Record.{IsModel}
use Rattle.model.specs.Accept.{Names}
use Rattle.follow.specs.Sample.{words_of, has_text, Over}
use Rattle.follow.proofs.Laws.{over_in, sample_over}
use Rattle.follow.specs.View.{view_of}
use Rattle.follow_row.specs.Row.{facts_in, text_in, RowKeeps, OfWords}
use Rattle.follow_row.proofs.Keeps.{row_of_words}
use Rattle.chain_mixed.specs.Mixed.{model_of}
use Rattle.chain_levels.proofs.Tests.{both_ways}
use Rattle.chain_sample.specs.Sample.{model_of_words, show_word}
use Rattle.chain_sample.proofs.Shown.{model_is, shows_is}
use Rattle.chain_sample.proofs.Models.{words_model}
use Rattle.intake_sample.specs.Inference.{sample_of, text_of, no_word, parent_model, model_in, model_answer}

-- a parent with a block is below n where every block's parent is
parent_below : (n p : ℕ) (bs : List Block) → BlocksBelow n bs → ¬ (words_of p bs ≡ []) → p < n
unfolding words_of
parent_below n p [] h d = absurd (d refl)
parent_below n p (b ∷ bs) h d = go (eqb b.parent p) refl (parent_below n p bs h.3) d
  where
    go : (own : Bool) → eqb b.parent p ≡ own → (¬ (words_of p bs ≡ []) → p < n) → ¬ (cond own (b.word ∷ words_of p bs) (words_of p bs) ≡ []) → p < n
    go true e ih d = subst (λ (x : ℕ). x < n) (eqb-true b.parent p e) h.0
    go false e ih d = ih d

-- what the test for a sample without a word means
pub no_word_lem : (ws : List (List ℕ)) → (no_word ws ≡ true) ↔ (ws ≡ [])
unfolding no_word
no_word_lem [] = (λ e. refl, λ e. refl)
no_word_lem (w ∷ ws) = (λ e. absurd (false≢true e), λ e. absurd (let q : ◌≡◌ {A = ℕ} (length (w ∷ ws)) 0 = ap length e in omega arith))

pub some_word_lem : (ws : List (List ℕ)) → (no_word ws ≡ false) ↔ (¬ (ws ≡ []))
unfolding no_word
some_word_lem [] = (λ e. absurd (false≢true (sym e)), λ d. absurd (d refl))
some_word_lem (w ∷ ws) = (λ e z. let q : ◌≡◌ {A = ℕ} (length (w ∷ ws)) 0 = ap length z in absurd (omega arith), λ d. refl)

module _ (bytes : List ℕ) (book : Book) (read : IsBook bytes book) where
  laid : LaidOut bytes (layout_of book)
  laid = record { book = book; read = read; same = refl }

  pub few : length book.names ≤ places
  unfolding layout_of
  few = few_names bytes (layout_of book) laid

  module _ (parent : ℕ) where
    pub sample_words : Over (length book.names) (sample_of book parent)
    unfolding layout_of sample_of laid
    sample_words = subst (λ (bs : List Block). Over (length book.names) (words_of parent bs)) (blocks_in_lem bytes (layout_of book) laid) (sample_over bytes (layout_of book) parent laid)

    pub sample_names : (w : List ℕ) → Memᴰ w (sample_of book parent) → Names (length book.names) w
    sample_names = over_in (length book.names) (sample_of book parent) sample_words

    module _ (block : ¬ (sample_of book parent ≡ [])) where
      -- a parent with a block is one of the book's names,
      pub has_block : parent < length book.names
      unfolding layout_of sample_of laid
      has_block =
          parent_below (length book.names) parent book.blocks
          (subst (BlocksBelow (length book.names)) (blocks_in_lem bytes (layout_of book) laid) (blocks_within bytes (layout_of book) laid)) block

      -- and its model is one over them
      pub sample_model : IsModel places (length book.names) (parent_model book parent)
      unfolding parent_model
      sample_model = words_model (length book.names) few (sample_of book parent) sample_names block (text_of book parent)

-- the answer of the call for a book that is taken
pub answer_given : (bytes : List ℕ) (book : Book) → TakenAs bytes book → (parent : ℕ) → ¬ (sample_of book parent ≡ []) → model_answer bytes parent ≡ Ok (parent_model book parent)
unfolding model_answer model_in
answer_given bytes book taken parent block =
    rw (taken, (good_parent book parent).1 (has_block bytes book (is_book bytes book taken) parent block), (some_word_lem (sample_of book parent)).1 block)

-- ---- a book that was taken, and the row of a parent

module _ (s : List ℕ) (l : Layout) (read : Ok l ≡ reading_of (taken_book s)) (p : ℕ) (row : List ℕ) (kept : RowKeeps p (blocks_read s) row) where
  abbrev pub book : Book
  book = Taken.book s l read

  pub blocks_are : blocks_read s ≡ book.blocks
  blocks_are = taken_blocks s book (Taken.taken s l read)

  pub within : BlocksBelow l.names book.blocks
  within = subst (BlocksBelow l.names) (Taken.blocks_taken s l read) (blocks_within s l (Taken.laid s l read))

  pub few_taken : l.names ≤ places
  few_taken = few_names s l (Taken.laid s l read)

  -- the row keeps the facts of the parent's sample,
  abbrev pub row_kept : OfWords l.names row
  row_kept = row_of_words l.names p book.blocks row within (subst (λ (bs : List Block). RowKeeps p bs row) blocks_are kept)

  -- so they show a word exactly where it has one,
  pub none_shown : show_word places (view_of l.names (facts_in row)) ≡ false → no_word (sample_of book p) ≡ true
  unfolding sample_of
  none_shown e = (no_word_lem (words_of p book.blocks)).1 ((shows_is l.names row few_taken row_kept).0 e)

  pub some_shown : show_word places (view_of l.names (facts_in row)) ≡ true → no_word (sample_of book p) ≡ false
  unfolding sample_of
  some_shown e = (some_word_lem (words_of p book.blocks)).1 (λ z. both_ways _ e ((shows_is l.names row few_taken row_kept).1 z))

  -- and with the mark for text they give its model.
  pub model_shown : model_of places (view_of l.names (facts_in row)) (text_in row) ≡ parent_model book p
  unfolding parent_model sample_of text_of
  model_shown =
      model_is l.names row few_taken row_kept (text_in row)
      ∙ ap₂ (λ (n : ℕ) (b : Bool). model_of_words places n (words_of p book.blocks) b) (Taken.names_are s l read) (kept.text ∙ ap (has_text p) blocks_are)
