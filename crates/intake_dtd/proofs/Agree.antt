-- The lines from the facts and the names alone are those of the book, for which each parent's words are looked up in
-- all blocks.
-- Assumes nothing.
use Prim.Native.Nat.{ℕ, zero, suc, ◌+◌, ◌≤◌, ◌<◌}
use mathlib.Core.Path.{◌≡◌, refl, sym, ◌∙◌, ap, ap₂}
use mathlib.Core.Bool.{Bool, true, false, cond, not, false≢true}
use mathlib.Core.List.{List, [], ◌∷◌, ◌++◌}
use native.Mathlib.Omega.{arith}
use lib.ListN.{length}
use Rattle.nameset.specs.Places.{places}
use Rattle.book.specs.Book.{Book, IsBook}
use Rattle.follow.specs.Follow.{follow_of}
use Rattle.follow.specs.Sample.{Over}
use Rattle.chain_mixed.specs.Mixed.{model_of}
use Rattle.chain_sample.specs.Sample.{model_of_words, show_word}
use Rattle.chain_sample.proofs.Shown.{words_show}
use Rattle.declaration_spelling.specs.House.{declaration}
use Rattle.intake_sample.specs.Inference.{sample_of, text_of, no_word, parent_model}
use Rattle.intake_sample.proofs.Samples.{no_word_lem, some_word_lem, few, sample_words}
use Rattle.dtd_lines.specs.Lines.{ParentFacts, fact_line, fact_lines}
use Rattle.intake_dtd.specs.Dtd.{line_of, lines_from, dtd_of, facts_of}

-- The facts of a sample show a word exactly where it has one.
shown_word : (n : ℕ) (ws : List (List ℕ)) → n ≤ places → Over n ws → show_word places (follow_of n ws) ≡ not (no_word ws)
shown_word n ws few over = go (no_word ws) refl (show_word places (follow_of n ws)) refl
  where
    go : (a : Bool) → no_word ws ≡ a → (b : Bool) → show_word places (follow_of n ws) ≡ b → b ≡ not a
    go true p true q = absurd (false≢true (sym ((words_show places n ws few over).1 ((no_word_lem ws).0 p)) ∙ q))
    go true p false q = refl
    go false p true q = refl
    go false p false q = absurd ((some_word_lem ws).0 p ((words_show places n ws few over).0 q))

or_nothing : (a : Bool) (text : List ℕ) → cond (not a) text [] ≡ cond a [] text
or_nothing true text = refl
or_nothing false text = refl

module _ (b : Book) (small : length b.names ≤ places) (facts : ℕ → ParentFacts) where
  -- one parent
  pub line_by_facts : (p : ℕ) → Over (length b.names) (sample_of b p) → facts p ≡ facts_of b p → fact_line b.names p (facts p) ≡ line_of b p
  unfolding fact_line line_of parent_model model_of_words facts_of
  line_by_facts p over e =
      ap (fact_line b.names p) e
      ∙ ap (λ (x : Bool). cond x (declaration b.names p (model_of places (follow_of (length b.names) (sample_of b p)) (text_of b p)) ++ (10 ∷ [])) []) (shown_word (length b.names) (sample_of b p) small over)
      ∙ or_nothing (no_word (sample_of b p)) _

  -- the k parents from p on
  lines_from_lem : (k p : ℕ) → p + k ≤ length b.names → ((q : ℕ) → q < length b.names → fact_line b.names q (facts q) ≡ line_of b q) → fact_lines b.names facts p k ≡ lines_from b p k
  unfolding fact_lines lines_from
  lines_from_lem zero p h line = refl
  lines_from_lem (suc k) p h line = ap₂ ◌++◌ (line p (omega arith)) (lines_from_lem k (suc p) (omega arith) line)

  -- All lines: whatever else the book has, its names and the facts of each parent give them.
  pub lines_by_facts : ((p : ℕ) → p < length b.names → Over (length b.names) (sample_of b p)) → ((p : ℕ) → p < length b.names → facts p ≡ facts_of b p) →
      fact_lines b.names facts 0 (length b.names) ≡ dtd_of b
  unfolding dtd_of
  lines_by_facts over e = lines_from_lem (length b.names) 0 (omega arith) (λ p h. line_by_facts p (over p h) (e p h))

-- So the DTD of a book that is taken is that of its names and the facts of its parents.
pub dtd_by_facts : (s : List ℕ) (b : Book) → IsBook s b → dtd_of b ≡ fact_lines b.names (facts_of b) 0 (length b.names)
dtd_by_facts s b read =
    sym (lines_by_facts b (few s b read) (facts_of b) (λ p h. sample_words s b read p) (λ p h. refl))
