-- To be believed: the lines of a DTD as a function of the names and of the facts of each parent, and of nothing else
-- (paper 02, U2: "the declarations come from these facts and the names alone"; U5: "That a parent has text is a fact
-- too"). `lines_by_facts` in
-- crates/intake_dtd/proofs/Agree.antt says that they are the lines of the book, for which each parent's words are looked
-- up in all of its blocks. `TableOfWords` is a means.
-- Assumes nothing.
use Rattle.std.specs.Prelude.{ℕ, zero, suc, ◌≤◌, ◌<◌, ◌≡◌, Bool, cond, List, [], ◌∷◌, ◌++◌, length}
use Rattle.nameset.specs.Places.{places}
use Rattle.follow.specs.Follow.{Follow}
use Rattle.follow.specs.View.{view_of}
use Rattle.follow_row.specs.Row.{facts_in, text_in, OfWords}
use Rattle.follow_table.specs.Table.{tabled, table_size, row_of}
use Rattle.chain_mixed.specs.Mixed.{model_of}
use Rattle.chain_sample.specs.Sample.{show_word}
use Rattle.declaration_spelling.specs.House.{declaration}

-- The facts of a parent: the follow facts of its words, and whether some block of it has text.
pub record ParentFacts : Type 0 where
  pub follow : Follow
  pub text : Bool

abbrev pub parent_facts : Follow → Bool → ParentFacts
parent_facts follow text = record { follow = follow; text = text }

-- The line of parent p, whose facts are f: its declaration and a line feed, or nothing where f shows no word.
unfoldable pub fact_line : List (List ℕ) → ℕ → ParentFacts → List ℕ
fact_line names p f =
    cond (show_word places f.follow) (declaration names p (model_of places f.follow f.text) ++ (10 ∷ [])) []

-- The lines of the k parents from p on, "in rising number"; `facts p` are the facts of parent p.
unfoldable pub fact_lines : List (List ℕ) → (ℕ → ParentFacts) → ℕ → ℕ → List ℕ
fact_lines names facts p zero = []
fact_lines names facts p (suc k) = fact_line names p (facts p) ++ fact_lines names facts (suc p) k

-- The facts over n names that a row keeps, and those of each parent that a table keeps.
unfoldable pub row_facts : ℕ → List ℕ → ParentFacts
row_facts n row = parent_facts (view_of n (facts_in row)) (text_in row)

unfoldable pub table_facts : ℕ → List ℕ → ℕ → ParentFacts
table_facts n table p = row_facts n (row_of table p)

-- The table keeps, for each of n parents, the facts of some words over n names.
pub record TableOfWords (n : ℕ) (table : List ℕ) : Type 0 where
  pub few : n ≤ tabled
  pub size : length table ≡ table_size
  pub rows : (p : ℕ) → p < n → OfWords n (row_of table p)

-- No line has more bytes: the longest declaration, and a line feed.
abbrev pub longest_line : ℕ
longest_line = 2254
