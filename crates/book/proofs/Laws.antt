-- The laws of a book that was read, for the layers above.
-- Assumes nothing.
use Rattle.std.specs.Prelude.{Ok, Err}
use Prim.Native.Nat.{ℕ, zero, suc, ◌+◌, ◌≤◌, ◌<◌}
use mathlib.Core.Path.{◌≡◌, refl, sym, ◌∙◌, ap, subst}
use mathlib.Core.Bool.{true, false, false≢true}
use mathlib.Core.List.{List, [], ◌∷◌, ◌++◌}
use native.Mathlib.Omega.{arith}
use native.Mathlib.Decide.{dec_lt}
use native.Mathlib.Nat.{le_of_suc-le-suc, lt_of_lt_of_le}
use lib.Dec.{ltb}
use lib.ListN.{length, take, drop, get_or, length-replicate, get_or-append}
use lib.Seq.{sets-eq}
use borrow.Author.Tests.{lt-ltb, ltb-true, ltb-false}
use Rattle.refusal.specs.declared.Refusal.{Refusal}
use Rattle.refusal.specs.declared.Refusal.TheVariants.{BookTooLong}
use Rattle.refusal.specs.Answer.{Answer, onward}
use Rattle.refusal.proofs.Answers.{onward_given, check_given, given_same, refused_same, given_refused}
use Rattle.nameset.specs.Places.{places}
use Rattle.nameset.proofs.Tests.{both, and_left, and_right}
use Rattle.nameset.proofs.Count.{count_bounds}
use Rattle.name.specs.Rule.{is_name}
use Rattle.std.specs.declared.cmp.Ordering.TheVariants.{Less, Equal}
use Rattle.name_order.specs.Order.{order_of}
use Rattle.name_order.proofs.Ordering.{rises_below, below_trans, same_refl}
use Rattle.book.specs.declared.Layout.{Layout}
use Rattle.book.specs.Field.{Field, count_size}
use Rattle.book.specs.Book.{Block, Book, all_below, longest_book, name_section, block_section, book_of, names_in, blocks_in}
use Rattle.book.specs.Bytes.{name_bytes, names_bytes}
use Rattle.book.specs.Layout.{offsets_from, no_offsets, offset_table, layout_of, reading_of}
use Rattle.book.specs.Access.{LaidOut}
use Rattle.book.specs.Stops.{Rising, none, one, BlocksBelow}
use Rattle.book.proofs.Parts.{byte_at}
use Rattle.book.proofs.Placed.{name_placed}
use Rattle.book.proofs.Sections.{name_section_told, block_section_told}

-- ---- the whole book

pub record BookTold (s : List ℕ) (b : Book) : Type 0 where
  -- a read book has at most 60,000 bytes
  pub short : length s ≤ longest_book
  -- N is 1 to 64
  pub some_name : 1 ≤ length b.names
  pub few_names : length b.names ≤ places
  -- the names keep the rule and rise strictly
  pub rising : Rising [] b.names
  -- every parent and every child number is below N, and every text byte is 0 or 1
  pub within : BlocksBelow (length b.names) b.blocks
  -- the names stand behind the count N
  pub after_names : List ℕ
  pub names_stand : drop count_size s ≡ names_bytes b.names after_names

pub book_told : (s : List ℕ) (b : Book) → book_of s ≡ Ok b → BookTold s b
unfolding book_of
book_told s b e = named (check_given (ltb longest_book (length s)) BookTooLong _ b e)
  where
    whole : (f : Field (List (List ℕ))) (bs : List Block) → length s ≤ longest_book → name_section s ≡ Ok f → block_section (length f.value) f.rest ≡ Ok bs →
        BookTold s (record { names = f.value; blocks = bs })
    whole f bs l p q =
        let t = name_section_told s f p in
        let u = block_section_told (length f.value) f.rest bs q in
        let c = count_bounds (length f.value) t.good in
        record {
          short = l;
          some_name = c.0;
          few_names = c.1;
          rising = t.rising;
          within = u.within;
          after_names = f.rest;
          names_stand = t.bytes;
        }

    blocked : length s ≤ longest_book → (f : Field (List (List ℕ))) → name_section s ≡ Ok f →
        ((bs : List Block) × (block_section (length f.value) f.rest ≡ Ok bs) × (◌≡◌ {A = Answer Book} (Ok (record { names = f.value; blocks = bs })) (Ok b))) → BookTold s b
    blocked l f p (bs, q, e) = subst (BookTold s) (given_same _ b e) (whole f bs l p q)

    named : ((ltb longest_book (length s) ≡ false) × (onward (name_section s) (λ names.
        onward (block_section (length names.value) names.rest) (λ blocks. Ok (record { names = names.value; blocks = blocks }))) ≡ Ok b)) →
        BookTold s b
    named (l, e) =
        let o = onward_given (name_section s) _ b e in
        blocked (ltb-false longest_book (length s) l) o.0 o.1 (onward_given (block_section (length o.0.value) o.0.rest) _ b o.2)

-- ---- its names

-- number order is byte order
pub names_rise : (before : List ℕ) (xs : List (List ℕ)) → Rising before xs → (i j : ℕ) → i < j → j < length xs → order_of (get_or xs i []) (get_or xs j []) ≡ Less
names_rise before [] none i j h l = absurd (omega arith)
names_rise before (x ∷ xs) (one a b c r) zero zero h l = absurd (omega arith)
names_rise before (x ∷ xs) (one a b c r) zero (suc j) h l = first x xs r j (le_of_suc-le-suc l)
  where
    first : (x : List ℕ) (xs : List (List ℕ)) → Rising x xs → (j : ℕ) → j < length xs → order_of x (get_or xs j []) ≡ Less
    first x [] none j l = absurd (omega arith)
    first x (y ∷ ys) (one a b c r) zero l = rises_below x y c
    first x (y ∷ ys) (one a b c r) (suc j) l = below_trans x y (get_or ys j []) (rises_below x y c) (first y ys r j (le_of_suc-le-suc l))
names_rise before (x ∷ xs) (one a b c r) (suc i) zero h l = absurd (omega arith)
names_rise before (x ∷ xs) (one a b c r) (suc i) (suc j) h l = names_rise x xs r i j (le_of_suc-le-suc h) (le_of_suc-le-suc l)

-- a byte string has at most one number
pub one_number : (before : List ℕ) (xs : List (List ℕ)) → Rising before xs → (i j : ℕ) → i < length xs → j < length xs → get_or xs i [] ≡ get_or xs j [] → i ≡ j
one_number before xs r i j hi hj e = go (dec_lt i j) (dec_lt j i)
  where
    differ : (a b : List ℕ) → a ≡ b → order_of a b ≡ Less → ⊥
    differ a b p q =
        let s : order_of a b ≡ Equal = ap (order_of a) (sym p) ∙ same_refl a in
        false≢true cc

    go : Dec (i < j) → Dec (j < i) → i ≡ j
    go (yes h) k = absurd (differ (get_or xs i []) (get_or xs j []) e (names_rise before xs r i j h hj))
    go (no h) (yes k) = absurd (differ (get_or xs j []) (get_or xs i []) (sym e) (names_rise before xs r j i k hi))
    go (no h) (no k) = omega arith

-- every name keeps the rule
pub name_good : (before : List ℕ) (xs : List (List ℕ)) → Rising before xs → (i : ℕ) → i < length xs → is_name (get_or xs i []) ≡ true
unfolding is_name
name_good before [] none i l = absurd (omega arith)
name_good before (x ∷ xs) (one a b c r) zero l = rw (a, b)
name_good before (x ∷ xs) (one a b c r) (suc i) l = name_good x xs r i (le_of_suc-le-suc l)

-- name i stands where the offsets say
name_stands : (s : List ℕ) (at : ℕ) (xs : List (List ℕ)) (after : List ℕ) → drop at s ≡ names_bytes xs after → (i : ℕ) → i < length xs →
    (rest : List ℕ) × (drop (get_or (offsets_from at xs) i 0) s ≡ name_bytes (get_or xs i []) rest)
unfolding names_bytes offsets_from
name_stands s at [] after e i l = absurd (omega arith)
name_stands s at (x ∷ xs) after e zero l = (names_bytes xs after, e)
name_stands s at (x ∷ xs) after e (suc i) l =
    name_stands s (at + 1 + length x) xs after (name_placed s at x (names_bytes xs after) e).2 i (le_of_suc-le-suc l)

offsets_length : (at : ℕ) (xs : List (List ℕ)) → length (offsets_from at xs) ≡ length xs
unfolding offsets_from
offsets_length at [] = refl
offsets_length at (x ∷ xs) = ap suc (offsets_length (at + 1 + length x) xs)

table_entry : (xs : List (List ℕ)) → length xs ≤ places → (i : ℕ) → i < length xs → get_or (offset_table xs) i 0 ≡ get_or (offsets_from count_size xs) i 0
unfolding offset_table no_offsets
table_entry xs h i l =
    let n : length (offsets_from count_size xs) ≡ length xs = offsets_length count_size xs in
    let r : 0 + length (offsets_from count_size xs) ≤ length no_offsets = omega (arith, length-replicate {A = ℕ} places 0) in
    ap (λ (t : List ℕ). get_or t i 0) (sets-eq (offsets_from count_size xs) no_offsets 0 r)
    ∙ get_or-append (offsets_from count_size xs) (drop (0 + length (offsets_from count_size xs)) no_offsets) 0 i (omega arith)

-- what stands where name i does
pub record NameLaid (s : List ℕ) (at : ℕ) (name : List ℕ) : Type 0 where
  pub size : at + 1 ≤ length s
  pub whole : at + 1 + get_or s at 0 ≤ length s
  pub bytes : take (get_or s at 0) (drop (at + 1) s) ≡ name

name_laid_at : (s : List ℕ) (at : ℕ) (name rest : List ℕ) → drop at s ≡ name_bytes name rest → NameLaid s at name
unfolding name_bytes
name_laid_at s at name rest e =
    let p = name_placed s at name rest e in
    let b : get_or s at 0 ≡ length name = byte_at s at (length name) (name ++ rest) e in
    record { size = omega (arith, p.0); whole = rw b p.0; bytes = rw b p.1 }

module _ (s : List ℕ) (l : Layout) (laid : LaidOut s l) where
  laid_told : BookTold s laid.book
  laid_told = book_told s laid.book laid.read

  -- the names and the blocks are those of the book
  pub names_in_lem : names_in s ≡ laid.book.names
  unfolding names_in
  names_in_lem = rw laid.read

  pub blocks_in_lem : blocks_in s ≡ laid.book.blocks
  unfolding blocks_in
  blocks_in_lem = rw laid.read

  -- the layout's count is that of the names
  pub name_count : l.names ≡ length (names_in s)
  unfolding layout_of
  name_count = ap (λ (x : Layout). x.names) laid.same ∙ ap length (sym names_in_lem)

  pub few_names : l.names ≤ places
  few_names = rw (name_count, names_in_lem) laid_told.few_names

  pub some_name : 1 ≤ l.names
  some_name = rw (name_count, names_in_lem) laid_told.some_name

  pub names_rising : Rising [] (names_in s)
  names_rising = rw names_in_lem laid_told.rising

  -- every parent and every child is below N, and every text byte is 0 or 1
  pub blocks_within : BlocksBelow l.names (blocks_in s)
  blocks_within = rw (name_count, names_in_lem, blocks_in_lem) laid_told.within

  pub name_laid : (i : ℕ) → i < l.names → NameLaid s (get_or l.offsets i 0) (get_or (names_in s) i [])
  unfolding layout_of
  name_laid i h =
      let k : i < length laid.book.names = subst (λ (n : ℕ). i < n) (name_count ∙ ap length names_in_lem) h in
      let t = name_stands s count_size laid.book.names laid_told.after_names laid_told.names_stand i k in
      let e : get_or l.offsets i 0 ≡ get_or (offsets_from count_size laid.book.names) i 0 =
      ap (λ (x : Layout). get_or x.offsets i 0) laid.same ∙ table_entry laid.book.names laid_told.few_names i k in
      rw (names_in_lem, e) (name_laid_at s (get_or (offsets_from count_size laid.book.names) i 0) (get_or laid.book.names i []) t.0 t.1)

-- what the reading of an answer tells of it: the book that was given, with its layout, or the refusal
pub reading_done : (a : Answer Book) (l : Layout) → Ok l ≡ reading_of a → (b : Book) × (a ≡ Ok b) × (l ≡ layout_of b)
unfolding reading_of
reading_done (Ok b) l e = (b, refl, given_same _ _ e)
reading_done (Err f) l e = absurd (given_refused l f e)

pub reading_refused : (a : Answer Book) (f : Refusal) → Err f ≡ reading_of a → a ≡ Err f
unfolding reading_of
reading_refused (Ok b) f e = absurd (given_refused (layout_of b) f (sym e))
reading_refused (Err g) f e = ap Err (sym (refused_same {A = Layout} f g e))

-- ---- its words

-- each number of a word is below n
pub child_below : (n : ℕ) (w : List ℕ) → all_below n w ≡ true → (k : ℕ) → k < length w → get_or w k 0 < n
unfolding all_below
child_below n [] e k l = absurd (omega arith)
child_below n (x ∷ w) e zero l = ltb-true x n (and_left (ltb x n) (all_below n w) e)
child_below n (x ∷ w) e (suc k) l = child_below n w (and_right (ltb x n) (all_below n w) e) k (le_of_suc-le-suc l)

-- a word over n names is one over more of them
pub all_below_more : (n m : ℕ) (w : List ℕ) → n ≤ m → all_below n w ≡ true → all_below m w ≡ true
unfolding all_below
all_below_more n m [] l h = refl
all_below_more n m (x ∷ w) l h =
    both (ltb x m) (all_below m w)
    (lt-ltb x m (lt_of_lt_of_le (ltb-true x n (and_left (ltb x n) (all_below n w) h)) l))
    (all_below_more n m w l (and_right (ltb x n) (all_below n w) h))
