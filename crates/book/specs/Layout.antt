-- A means: where the parts of a book are among its bytes, so that a name or a block is found again without reading from
-- the start. The laws of crates/book/proofs/Laws.antt join it to the book.
-- Assumes nothing.
use Rattle.std.specs.Prelude.{ℕ, ◌+◌, List, [], ◌∷◌, length, replicate, Ok, Err}
use Rattle.std.proofs.lemmas.List.Edits.{sets}
use Rattle.refusal.specs.Answer.{Answer}
use Rattle.nameset.specs.Places.{places}
use Rattle.book.specs.declared.Layout.{Layout}
use Rattle.book.specs.Field.{count_size}
use Rattle.book.specs.Book.{Book}

-- The offset of each name's length byte, where the names stand one after the other from `at` on.
unfoldable pub offsets_from : ℕ → List (List ℕ) → List ℕ
offsets_from at [] = []
offsets_from at (x ∷ xs) = at ∷ offsets_from (at + 1 + length x) xs

-- The place after the last of those names.
unfoldable pub end_from : ℕ → List (List ℕ) → ℕ
end_from at [] = at
end_from at (x ∷ xs) = end_from (at + 1 + length x) xs

-- one entry for each of the 64 numbers that a name may have, all 0
unfoldable pub no_offsets : List ℕ
no_offsets = replicate places 0

-- the offsets of the names, which stand behind the count N, by number, and 0 from N on
unfoldable pub offset_table : List (List ℕ) → List ℕ
offset_table names = sets no_offsets 0 (offsets_from count_size names)

-- N, the offsets, where the blocks begin (behind the names and the count M), and M
unfoldable pub layout_of : Book → Layout
layout_of b =
    record {
      names = length b.names;
      offsets = offset_table b.names;
      body = end_from count_size b.names + count_size;
      blocks = length b.blocks;
    }

-- The answer to every book: its layout, or the refusal that comes first.
unfoldable pub reading_of : Answer Book → Answer Layout
reading_of (Ok b) = Ok (layout_of b)
reading_of (Err r) = Err r
