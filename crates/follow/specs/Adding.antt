-- A means: a struct with words added; `facts_shown` in crates/follow/proofs/Laws.antt joins it to `follow_of`.
-- Assumes nothing.
-- `word_shown` there joins the struct with one more word to `showing`.
use Rattle.std.specs.Prelude.{ℕ, false, ◌||◌, List, [], ◌∷◌}
use Rattle.nameset.specs.Places.{places}
use Rattle.nameset.specs.declared.NameSet.{NameSet}
use Rattle.nameset.specs.Set.{empty as no_names, with}
use Rattle.nameset.specs.Rows.{row_at, put_row, no_rows}
use Rattle.follow.specs.declared.Facts.{Facts}
use Rattle.follow.specs.Follow.{Follow, begins_with, ends_with, has_pair, is_empty}

-- No fact at all.
unfoldable pub no_facts : Facts
no_facts = record { starts = no_names; ends = no_names; follows = no_rows places; empty = false }

-- the set with the first name of the word put in
unfoldable pub with_first : NameSet → List ℕ → NameSet
with_first s [] = s
with_first s (x ∷ w) = with s x

-- the set with the last name of the word put in
unfoldable pub with_last : NameSet → List ℕ → NameSet
with_last s [] = s
with_last s (x ∷ []) = with s x
with_last s (x ∷ (y ∷ w)) = with_last s (y ∷ w)

-- the rows with b put into row a
unfoldable pub with_pair : List ℕ → ℕ → ℕ → List ℕ
with_pair rows a b = put_row rows a (with (row_at rows a) b)

-- the rows with each pair of neighbours of the word put in
unfoldable pub with_pairs : List ℕ → List ℕ → List ℕ
with_pairs rows [] = rows
with_pairs rows (x ∷ []) = rows
with_pairs rows (x ∷ (y ∷ w)) = with_pairs (with_pair rows x y) (y ∷ w)

-- The struct with a word added.
unfoldable pub with_word : Facts → List ℕ → Facts
with_word facts w =
    record {
      starts = with_first facts.starts w;
      ends = with_last facts.ends w;
      follows = with_pairs facts.follows w;
      empty = facts.empty || is_empty w;
    }

-- The struct with every one of the words added.
unfoldable pub with_words : Facts → List (List ℕ) → Facts
with_words facts [] = facts
with_words facts (w ∷ ws) = with_words (with_word facts w) ws

-- The struct that a sample gives.
unfoldable pub facts_of : List (List ℕ) → Facts
facts_of words = with_words no_facts words

-- The facts f and those that the word w shows, no others.
-- Paper 01: "Adding a word changes only the facts which that word shows."
abbrev pub showing : Follow → List ℕ → Follow
showing f w =
    record {
      names = f.names;
      starts = λ a. f.starts a || begins_with a w;
      ends = λ a. f.ends a || ends_with a w;
      follows = λ a b. f.follows a b || has_pair a b w;
      empty = f.empty || is_empty w;
    }
