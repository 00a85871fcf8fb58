-- A means: the rows of a table of models, from the facts of each parent. `rows_are` in
-- crates/intake_models/proofs/Fill.antt says that they are the rows of the book, for which each parent's words are
-- looked up in all of its blocks. To be believed is `rows_below`.
-- Assumes nothing.
use Rattle.std.specs.Prelude.{ℕ, zero, suc, cond, List, [], ◌++◌}
use Rattle.nameset.specs.Places.{places}
use Rattle.chain_mixed.specs.Mixed.{model_of}
use Rattle.chain_sample.specs.Sample.{show_word}
use Rattle.model_table.specs.Table.{model_row, empty_row}
use Rattle.dtd_lines.specs.Lines.{ParentFacts, table_facts}

-- The rows of the names below k, one behind the other.
unfoldable pub rows_below : (ℕ → List ℕ) → ℕ → List ℕ
rows_below row zero = []
rows_below row (suc k) = rows_below row k ++ row k

-- The row of a parent whose facts are f: that of the model which they give, or the one for no model where they show no
-- word.
unfoldable pub fact_row : ParentFacts → List ℕ
fact_row f = cond (show_word places f.follow) (model_row (model_of places f.follow f.text)) empty_row

-- The row of parent p, over n names, by a table of facts.
unfoldable pub table_row : ℕ → List ℕ → ℕ → List ℕ
table_row n table p = fact_row (table_facts n table p)
