-- A table of facts that keeps some blocks: the steps that it has for a parent are those that its words show, and it has
-- text for a parent where a block of it does.
-- Assumes nothing.
use Prim.Native.Nat.{ℕ, ◌≤◌, ◌<◌}
use mathlib.Core.Path.{◌≡◌, sym, ap₂, subst}
use mathlib.Core.List.{List}
use mathlib.Core.Logic.{◌↔◌}
use native.Mathlib.Nat.{lt_of_lt_of_le}
use lib.ListN.{length}
use Rattle.nameset.specs.Places.{places}
use Rattle.book.specs.Book.{Block, Book}
use Rattle.book.specs.Stops.{BlocksBelow}
use Rattle.book.specs.Taken.{TakenAs}
use Rattle.book.proofs.Laws.{book_told}
use Rattle.book.proofs.Taken.{is_book}
use Rattle.book_reading.specs.Opening.{blocks_read}
use Rattle.book_reading.proofs.Closing.{taken_blocks}
use Rattle.model_language.specs.Word.{Point, Fact}
use Rattle.follow.specs.Follow.{Follow, follow_of, steps}
use Rattle.follow.specs.Sample.{words_of, has_text}
use Rattle.follow.proofs.Laws.{over_in, words_over}
use Rattle.follow_row.proofs.Keeps.{row_of_words}
use Rattle.follow_table.specs.Table.{tabled, row_of, Keeps}
use Rattle.chain_levels.proofs.Theorem as Levels
use Rattle.chain_sample.proofs.Shown.{view_is}
use Rattle.intake_sample.specs.Inference.{sample_of, text_of}
use Rattle.intake_sample.proofs.Samples.{few, sample_words}
use Rattle.dtd_lines.specs.Lines.{parent_facts, fact_lines, row_facts, table_facts}
use Rattle.intake_dtd.specs.Dtd.{dtd_of, facts_of}
use Rattle.intake_dtd.proofs.Agree.{lines_by_facts}

module _ (n : ℕ) (bs : List Block) (table : List ℕ) (small : n ≤ places) (below : BlocksBelow n bs) (kept : Keeps bs table) (p : ℕ) (named : p < tabled) where
  follow_is : (table_facts n table p).follow ≡ follow_of n (words_of p bs)
  unfolding table_facts row_facts
  follow_is = view_is n (row_of table p) small (row_of_words n p bs (row_of table p) below (kept.rows p named))

  pub text_kept : (table_facts n table p).text ≡ has_text p bs
  unfolding table_facts row_facts
  text_kept = (kept.rows p named).text

  facts_are : table_facts n table p ≡ parent_facts (follow_of n (words_of p bs)) (has_text p bs)
  facts_are = ap₂ parent_facts follow_is text_kept

  pub facts_kept : (x y : Point) → steps (table_facts n table p).follow x y ↔ Fact (words_of p bs) x y
  facts_kept x y =
      subst (λ (f : Follow). steps f x y ↔ Fact (words_of p bs) x y) (sym follow_is)
      (Levels.follow_law n (words_of p bs) (over_in n (words_of p bs) (words_over n p bs below)) x y)

-- The table that the reading of a book leaves gives the book's DTD.
pub dtd_by_table : (bytes : List ℕ) (b : Book) (table : List ℕ) → TakenAs bytes b → Keeps (blocks_read bytes) table →
    dtd_of b ≡ fact_lines b.names (table_facts (length b.names) table) 0 (length b.names)
unfolding sample_of text_of facts_of
dtd_by_table bytes b table taken kept =
    let n = length b.names in
    let read = is_book bytes b taken in
    let small : n ≤ places = few bytes b read in
    let all : Keeps b.blocks table = subst (λ (bs : List Block). Keeps bs table) (taken_blocks bytes b taken) kept in
    sym
    (lines_by_facts b small (table_facts n table) (λ p h. sample_words bytes b read p)
    (λ p h. facts_are n b.blocks table small (book_told bytes b read).within all p (lt_of_lt_of_le h small)))
