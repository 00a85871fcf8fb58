-- To be believed: what it means that something is gathered from the blocks while they are read (paper 02, U2: "After
-- each block the facts of every parent are exactly those that the blocks so far show").
-- `K bs t` stands for "the words t of a buffer keep what the blocks bs show".
-- Assumes nothing.
use Rattle.std.specs.Prelude.{ℕ, zero, suc, ◌≡◌, List, [], ◌∷◌, ◌++◌, Ok, Err}
use Rattle.refusal.specs.Answer.{Answer}
use Rattle.book.specs.Field.{Field}
use Rattle.book.specs.Book.{Block, block_of}

-- After the block b: a buffer that kept the blocks before it now keeps b too.
abbrev pub KeepsMore : (List Block → List ℕ → Type 0) → Block → List ℕ → List ℕ → Type 0
KeepsMore K b t u = (bs : List Block) → K bs t → K (bs ++ (b ∷ [])) u

-- After a block was read: a buffer that kept the blocks before it now keeps one more. A block that is refused changes
-- nothing.
abbrev pub Gathers : (List Block → List ℕ → Type 0) → Answer (Field Block) → List ℕ → List ℕ → Type 0
Gathers K (Ok b) t u = KeepsMore K b.value t u
Gathers K (Err r) t u = u ≡ t

-- a block, if it is not refused, and those that stand behind it
unfoldable pub with_others : Answer (Field Block) → (List ℕ → List Block) → List Block
with_others (Ok b) others = b.value ∷ others b.rest
with_others (Err r) others = []

-- The blocks over n names at the front of these bytes: at most m, and only those before the first that is refused.
unfoldable pub blocks_from : ℕ → ℕ → List ℕ → List Block
blocks_from n zero bytes = []
blocks_from n (suc m) bytes = with_others (block_of n bytes) (blocks_from n m)

-- After so many of them: a buffer that kept the blocks before them now keeps these too.
abbrev pub GathersAll : (List Block → List ℕ → Type 0) → List Block → List ℕ → List ℕ → Type 0
GathersAll K more t u = (bs : List Block) → K bs t → K (bs ++ more) u
