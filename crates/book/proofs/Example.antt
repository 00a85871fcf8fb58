-- Paper 01's example book, with text byte 0 in each block (paper 02, U5), read by the definition; and two faults at
-- once, in a name and in a block.
-- Assumes nothing.
use Rattle.std.specs.Prelude.{Ok, Err}
use Prim.Native.Nat.{ℕ}
use mathlib.Core.Path.{◌≡◌, refl}
use mathlib.Core.List.{List, [], ◌∷◌, ◌++◌}
use Rattle.refusal.specs.declared.Refusal.TheVariants.{BadName, NumberNotBelow, BadText}
use Rattle.nameset.specs.Places.{good_count}
use Rattle.name.specs.Class.{start_byte, later_byte, between}
use Rattle.name.specs.Rule.{good_length, good_bytes, all_later}
use Rattle.name_order.specs.Order.{order_of, rises}
use Rattle.book.specs.Field.{byte_of, bytes_of, count_of}
use Rattle.book.specs.Book.{Block, all_below, name_of, names_of, block_of, blocks_of, name_section, block_section, book_of}

contribution : List ℕ
contribution = 99 ∷ 111 ∷ 110 ∷ 116 ∷ 114 ∷ 105 ∷ 98 ∷ 117 ∷ 116 ∷ 105 ∷ 111 ∷ 110 ∷ []

entry : List ℕ
entry = 101 ∷ 110 ∷ 116 ∷ 114 ∷ 121 ∷ []

leaver : List ℕ
leaver = 108 ∷ 101 ∷ 97 ∷ 118 ∷ 101 ∷ 114 ∷ []

member : List ℕ
member = 109 ∷ 101 ∷ 109 ∷ 98 ∷ 101 ∷ 114 ∷ []

reason : List ℕ
reason = 114 ∷ 101 ∷ 97 ∷ 115 ∷ 111 ∷ 110 ∷ []

total : List ℕ
total = 116 ∷ 111 ∷ 116 ∷ 97 ∷ 108 ∷ []

-- N = 6 and the names, then M = 3 and the blocks (1,0,3: 3 0 5), (1,0,3: 3 2 4), (1,0,3: 3 0 4)
bytes : List ℕ
bytes =
    (6 ∷ 0 ∷ 12 ∷ contribution)
    ++ ((5 ∷ entry)
    ++ ((6 ∷ leaver)
    ++ ((6 ∷ member)
    ++ ((6 ∷ reason)
    ++ ((5 ∷ total)
    ++ (3 ∷ 0 ∷ 1 ∷ 0 ∷ 3 ∷ 3 ∷ 0 ∷ 5 ∷ 1 ∷ 0 ∷ 3 ∷ 3 ∷ 2 ∷ 4 ∷ 1 ∷ 0 ∷ 3 ∷ 3 ∷ 0 ∷ 4 ∷ []))))))

block : List ℕ → Block
block word = record { parent = 1; text = 0; word = word }

example :
    book_of bytes
    ≡ Ok
    (record {
      names = contribution ∷ entry ∷ leaver ∷ member ∷ reason ∷ total ∷ [];
      blocks = block (3 ∷ 0 ∷ 5 ∷ []) ∷ block (3 ∷ 2 ∷ 4 ∷ []) ∷ block (3 ∷ 0 ∷ 4 ∷ []) ∷ [];
    })
unfolding contribution entry leaver member reason total bytes block good_count start_byte later_byte between good_length good_bytes all_later order_of rises byte_of bytes_of count_of all_below name_of names_of block_of blocks_of name_section block_section book_of
example = refl

-- 4 comes before 5: a name of one bad byte, which is not above the name before it
bad_and_not_above : name_of leaver (1 ∷ 33 ∷ []) ≡ Err BadName
unfolding leaver start_byte later_byte between good_length good_bytes all_later order_of rises byte_of bytes_of name_of
bad_and_not_above = refl

-- 6 of the parent comes before 16, and 16 before 2 of the child count and before 6 of a child
parent_and_text : block_of 6 (6 ∷ 2 ∷ []) ≡ Err NumberNotBelow
unfolding byte_of block_of
parent_and_text = refl

text_and_count : block_of 6 (5 ∷ 2 ∷ []) ≡ Err BadText
unfolding byte_of block_of
text_and_count = refl

text_and_child : block_of 6 (5 ∷ 2 ∷ 1 ∷ 6 ∷ []) ≡ Err BadText
unfolding byte_of bytes_of all_below block_of
text_and_child = refl
