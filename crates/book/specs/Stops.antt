-- To be believed: which bytes are refused by which number while they are read, rows 1 to 7 of paper 01's "Where a call
-- stops" and 16 of paper 02, U5, and which are a book. Stated of the bytes, without the function that reads;
-- `book_refused` and `book_whole` in proofs/Stops.antt say that `book_of` agrees. 17 comes after: Used.antt and
-- Taken.antt. Read from `Stops`, at the end, upwards.
-- Assumes nothing.
use Rattle.std.specs.Prelude.{ℕ, ◌≤◌, ◌<◌, ◌≡◌, true, false, List, [], ◌∷◌, ◌⊎◌, length, drop}
use Rattle.refusal.specs.declared.Refusal.{Refusal}
use Rattle.refusal.specs.declared.Refusal.TheVariants.{BookTooLong, BytesMissing, BadNameCount, BadName, NameNotAbove, NumberNotBelow, BytesLeftOver, BadText}
use Rattle.nameset.specs.Places.{places, OutOfRange}
use Rattle.name.specs.Rule.{good_length, good_bytes}
use Rattle.name_order.specs.Order.{rises}
use Rattle.book.specs.Field.{count_size, count_at}
use Rattle.book.specs.Book.{Block, Book, longest_book, all_below}
use Rattle.book.specs.Bytes.{name_bytes, names_bytes, block_bytes, blocks_bytes}

-- ---- what was read before a place

-- names behind the name `before`: each keeps the rule and stands above the one before it
pub data Rising : List ℕ → List (List ℕ) → Type 0 where
  none : {before : List ℕ} → Rising before []
  one : {before x : List ℕ} {xs : List (List ℕ)} → good_length (length x) ≡ true → good_bytes x ≡ true → rises before x ≡ true → Rising x xs →
      Rising before (x ∷ xs)

-- the last of the names, `before` where there is none
unfoldable pub last_of : List ℕ → List (List ℕ) → List ℕ
last_of before [] = before
last_of before (x ∷ xs) = last_of x xs

-- blocks over n names, each with a text byte of 0 or 1
abbrev pub BlocksBelow : ℕ → List Block → Type 0
BlocksBelow n [] = Unit {0}
BlocksBelow n (b ∷ bs) = (b.parent < n) × (b.text ≤ 1) × (all_below n b.word ≡ true) × BlocksBelow n bs

-- The count N is good and these names stand behind it, in order; `rest` follows them. N is `count_at s 0`.
pub record NamesRead (s : List ℕ) (names : List (List ℕ)) (rest : List ℕ) : Type 0 where
  pub short : length s ≤ longest_book
  pub enough : count_size ≤ length s
  pub some : 1 ≤ count_at s 0
  pub few : count_at s 0 ≤ places
  pub rising : Rising [] names
  pub stand : drop count_size s ≡ names_bytes names rest

-- The next to be read, in `rest`, is a name: they are fewer than N. `last` is the one before it.
pub record AtName (s last rest : List ℕ) : Type 0 where
  pub names : List (List ℕ)
  pub read : NamesRead s names rest
  pub fewer : length names < count_at s 0
  pub before : last_of [] names ≡ last

-- The next to be read, in `rest`, is section 2: they are N.
pub record AtSection (s rest : List ℕ) : Type 0 where
  pub names : List (List ℕ)
  pub read : NamesRead s names rest
  pub all : length names ≡ count_at s 0

-- All names are read, the count of section 2 is m, and these blocks stand behind it; `rest` follows them.
pub record BlocksRead (s : List ℕ) (m : ℕ) (blocks : List Block) (rest : List ℕ) : Type 0 where
  pub section : List ℕ
  pub before : AtSection s section
  pub enough : count_size ≤ length section
  pub count : count_at section 0 ≡ m
  pub within : BlocksBelow (count_at s 0) blocks
  pub stand : drop count_size section ≡ blocks_bytes blocks rest

-- The next to be read, in `rest`, is a block: they are fewer than M.
pub record AtBlock (s rest : List ℕ) : Type 0 where
  pub m : ℕ
  pub blocks : List Block
  pub read : BlocksRead s m blocks rest
  pub fewer : length blocks < m

-- The last block was read: they are M.
pub record AtEnd (s rest : List ℕ) : Type 0 where
  pub m : ℕ
  pub blocks : List Block
  pub read : BlocksRead s m blocks rest
  pub all : length blocks ≡ m

-- The bytes are the book b, whole: the count N, its names, the count M, its blocks, and nothing behind them.
pub record Whole (s : List ℕ) (b : Book) : Type 0 where
  pub section : List ℕ
  pub names : NamesRead s b.names section
  pub all_names : length b.names ≡ count_at s 0
  pub enough : count_size ≤ length section
  pub all_blocks : count_at section 0 ≡ length b.blocks
  pub within : BlocksBelow (count_at s 0) b.blocks
  pub stand : drop count_size section ≡ blocks_bytes b.blocks []

-- ---- what is wrong there

-- A name's length byte is missing; or the length is good, and bytes of the name are missing.
abbrev pub NameMissing : List ℕ → Type 0
NameMissing rest = (rest ≡ []) ⊎ ((size : ℕ) × (more : List ℕ) × (rest ≡ size ∷ more) × (good_length size ≡ true) × (length more < size))

-- The length is bad; or the name is there, and has a bad byte.
abbrev pub NameBad : List ℕ → Type 0
NameBad rest = ((size : ℕ) × (more : List ℕ) × (rest ≡ size ∷ more) × (good_length size ≡ false))
    ⊎ ((x more : List ℕ) × (rest ≡ name_bytes x more) × (good_length (length x) ≡ true) × (good_bytes x ≡ false))

-- The name keeps the rule, and is not above the one before.
abbrev pub NameLow : List ℕ → List ℕ → Type 0
NameLow last rest = (x more : List ℕ) × (rest ≡ name_bytes x more) × (good_length (length x) ≡ true) × (good_bytes x ≡ true) × (rises last x ≡ false)

-- The parent is missing; or it is below n, and the text byte is missing; or that is 0 or 1, and the child count is
-- missing; or there are fewer children than it says.
abbrev pub BlockMissing : ℕ → List ℕ → Type 0
BlockMissing n rest = (rest ≡ []) ⊎ (((p : ℕ) × (rest ≡ p ∷ []) × (p < n))
    ⊎ (((p text : ℕ) × (rest ≡ p ∷ text ∷ []) × (p < n) × (text ≤ 1))
    ⊎ ((p text size : ℕ) × (more : List ℕ) × (rest ≡ p ∷ text ∷ size ∷ more) × (p < n) × (text ≤ 1) × (length more < size))))

-- The parent is below n, and the text byte is above 1.
abbrev pub BlockText : ℕ → List ℕ → Type 0
BlockText n rest = (p text : ℕ) × (more : List ℕ) × (rest ≡ p ∷ text ∷ more) × (p < n) × (1 < text)

-- The parent is not below n; or the block is there, its text byte is 0 or 1, and it has a child that is not below n.
abbrev pub BlockBad : ℕ → List ℕ → Type 0
BlockBad n rest = ((p : ℕ) × (more : List ℕ) × (rest ≡ p ∷ more) × (n ≤ p))
    ⊎ ((b : Block) × (more : List ℕ) × (rest ≡ block_bytes b more) × (b.parent < n) × (b.text ≤ 1) × (all_below n b.word ≡ false))

-- ---- the rows

-- 2: bytes are missing for the count N, for a name, for the count M, or for a block.
abbrev pub Missing : List ℕ → Type 0
Missing s = (length s < count_size) ⊎ (((last rest : List ℕ) × AtName s last rest × NameMissing rest)
    ⊎ (((rest : List ℕ) × AtSection s rest × (length rest < count_size)) ⊎ ((rest : List ℕ) × AtBlock s rest × BlockMissing (count_at s 0) rest)))

-- 3: the count N is there, and is 0 or above 64.
abbrev pub BadCount : List ℕ → Type 0
BadCount s = (length s ≤ longest_book) × (count_size ≤ length s) × OutOfRange (count_at s 0)

-- The bytes are refused by this number while they are read. There is one line for each such number.
pub data Stops (s : List ℕ) : Refusal → Type 0 where
  -- 1: "above 60,000 bytes"
  too_long : longest_book < length s → Stops s BookTooLong
  -- 2: "bytes missing for it, before its value"
  missing_bytes : Missing s → Stops s BytesMissing
  -- 3: "0 or above 64"
  bad_count : BadCount s → Stops s BadNameCount
  -- 4: "bad length or byte"
  bad_name : {last rest : List ℕ} → AtName s last rest → NameBad rest → Stops s BadName
  -- 5: "not above the one before"
  low_name : {last rest : List ℕ} → AtName s last rest → NameLow last rest → Stops s NameNotAbove
  -- 6: "number not below N"
  bad_block : {rest : List ℕ} → AtBlock s rest → BlockBad (count_at s 0) rest → Stops s NumberNotBelow
  -- 16: "a text byte above 1"
  bad_text : {rest : List ℕ} → AtBlock s rest → BlockText (count_at s 0) rest → Stops s BadText
  -- 7: "bytes left over"
  left_over : {rest : List ℕ} → AtEnd s rest → 0 < length rest → Stops s BytesLeftOver
