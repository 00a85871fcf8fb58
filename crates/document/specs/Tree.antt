-- To be believed: a document as a tree of elements, its byte pairs, and when it is valid (paper 02, U7).
-- Assumes nothing.
use Rattle.std.specs.Prelude.{ℕ, suc, ◌≤◌, ◌<◌, max, ◌≡◌, List, [], ◌∷◌, Some, None}
use Rattle.model.specs.Accept.{Accepts}
use Rattle.model_table.specs.Table.{Entry}

-- What is between the tags of an element: nothing; text, and what follows it; or an element with its name and its own
-- content, and what follows it.
pub data Content : Type 0 where
  nothing : Content
  text : Content → Content
  element : ℕ → Content → Content → Content

-- A document is one element, the root.
pub record Tree : Type 0 where
  pub root : ℕ
  pub content : Content

-- ---- its byte pairs: "0 open, 1 close, 2 text; then the name number, 0 for text"

-- The pairs of a content, and then `rest`.
abbrev pub pairs : Content → List ℕ → List ℕ
pairs nothing rest = rest
pairs (text c) rest = 2 ∷ 0 ∷ pairs c rest
pairs (element x inner c) rest = 0 ∷ x ∷ pairs inner (1 ∷ x ∷ pairs c rest)

-- The pairs of a tree.
abbrev pub document_of : Tree → List ℕ
document_of t = pairs (element t.root t.content nothing) []

-- ---- its names and its depth

-- The number of every element is below n.
abbrev pub NamesBelow : ℕ → Content → Type 0
NamesBelow n nothing = Unit {0}
NamesBelow n (text c) = NamesBelow n c
NamesBelow n (element x inner c) = (x < n) × NamesBelow n inner × NamesBelow n c

-- How many elements at most are one inside the other.
abbrev pub depth_of : Content → ℕ
depth_of nothing = 0
depth_of (text c) = depth_of c
depth_of (element x inner c) = max (suc (depth_of inner)) (depth_of c)

-- "Depth is at most 32, the root being at depth 1."
abbrev pub deepest : ℕ
deepest = 32

-- A tree over n names that is not too deep.
pub record Admitted (n : ℕ) (t : Tree) : Type 0 where
  pub root : t.root < n
  pub names : NamesBelow n t.content
  pub depth : suc (depth_of t.content) ≤ deepest

-- The pairs w are those of the tree t, over n names and not too deep.
abbrev pub IsDocument : ℕ → Tree → List ℕ → Type 0
IsDocument n t w = Admitted n t × (w ≡ document_of t)

-- ---- its validity: "every element has a model, its children in order are a word of it, and text stands only where it
-- is allowed"

-- The names of the children in order. Text is no child.
abbrev pub children : Content → List ℕ
children nothing = []
children (text c) = children c
children (element x inner c) = x ∷ children c

-- There is text in the content itself, not only in an element of it.
abbrev pub HasText : Content → Type 0
HasText nothing = ⊥
HasText (text c) = Unit {0}
HasText (element x inner c) = HasText c

-- The content of an element whose name has this entry in the table of models. `Accepts` is acceptance as in demand 2,
-- of words of any length.
abbrev pub Fits : Entry → Content → Type 0
Fits None c = ⊥
Fits (Some m) c = Accepts m.chain (children c) × (HasText c → m.text ≡ 1)

-- Every element in a content has a content that fits.
abbrev pub AllFit : (ℕ → Entry) → Content → Type 0
AllFit entries nothing = Unit {0}
AllFit entries (text c) = AllFit entries c
AllFit entries (element x inner c) = Fits (entries x) inner × AllFit entries inner × AllFit entries c

-- The root has a content that fits, and so has every element in it.
abbrev pub Valid : (ℕ → Entry) → Tree → Type 0
Valid entries t = Fits (entries t.root) t.content × AllFit entries t.content
