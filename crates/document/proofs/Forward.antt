-- The walk over the pairs of a tree is not refused, and what it answers goes by the tree.
-- Assumes nothing.
use Rattle.std.specs.Prelude.{Ok}
use Prim.Native.Nat.{ℕ, suc, ◌+◌, ◌%◌, ◌≤◌, ◌<◌}
use mathlib.Core.Path.{◌≡◌, refl, ◌∙◌}
use mathlib.Core.Bool.{Bool, true, false, ◌&&◌}
use mathlib.Core.List.{List, [], ◌∷◌}
use native.Mathlib.Omega.{arith}
use borrow.Author.Tests.{lt-ltb, lt-leb, eq-eqb}
use lib.ListN.{length}
use Rattle.model.specs.declared.State.{State}
use Rattle.model.specs.Run.{state}
use Rattle.model_table.specs.Table.{Entry}
use Rattle.model_table_step.specs.Run.{move_in, may_close, allows_text}
use Rattle.document.specs.declared.Frame.{Frame}
use Rattle.document.specs.Tree.{Content, nothing, text, element, Tree, pairs, document_of, depth_of, NamesBelow, deepest, Admitted}
use Rattle.document.specs.Walk.{within, progress, opening, kept, goes_on, out_of, opened, closed, texted, by_kind, one_pair, ended, walk, start}

-- Where the run through the children stands after a content.
unfoldable pub last_state : Entry → State → Content → State
last_state e s nothing = s
last_state e s (text c) = last_state e s c
last_state e s (element x inner c) = last_state e (kept s (move_in e s x)) c

abbrev pub first : State
first = state 0 false

-- Whether the document is good so far, after a content of an element of this name.
unfoldable pub good_after : (ℕ → Entry) → ℕ → State → Content → Bool → Bool
good_after entries name s nothing g = g
good_after entries name s (text c) g = good_after entries name s c (allows_text (entries name) && g)
good_after entries name s (element x inner c) g =
    good_after entries name (kept s (move_in (entries name) s x)) c
    (may_close (entries x) (last_state (entries x) first inner) && good_after entries x first inner (goes_on (move_in (entries name) s x) && g))

abbrev pub frame : ℕ → State → Frame
frame name s = record { name = name; state = s }

module _ (n : ℕ) (entries : ℕ → Entry) (some : 0 < n) where
  walk_text : (f : Frame) (fs : List Frame) (g : Bool) (rest : List ℕ) →
      walk n entries (progress (within f fs) g) (2 ∷ 0 ∷ rest) ≡ walk n entries (progress (within f fs) (allows_text (entries f.name) && g)) rest
  unfolding walk one_pair by_kind texted
  walk_text f fs g rest = rw (lt-ltb 0 n some)

  walk_open : (f : Frame) (fs : List Frame) (g : Bool) (x : ℕ) (rest : List ℕ) → x < n → suc (length fs) < deepest →
      walk n entries (progress (within f fs) g) (0 ∷ x ∷ rest) ≡ walk n entries
      (progress (within (opening x) (frame f.name (kept f.state (move_in (entries f.name) f.state x)) ∷ fs)) (goes_on (move_in (entries f.name) f.state x) && g)) rest
  unfolding walk one_pair by_kind opened
  walk_open f fs g x rest l d = rw (lt-ltb x n l, lt-leb deepest (suc (length fs)) d)

  walk_close : (f : Frame) (fs : List Frame) (g : Bool) (x : ℕ) (rest : List ℕ) → x < n → x ≡ f.name →
      walk n entries (progress (within f fs) g) (1 ∷ x ∷ rest) ≡ walk n entries (progress (out_of fs) (may_close (entries f.name) f.state && g)) rest
  unfolding walk one_pair by_kind closed
  walk_close f fs g x rest l e = rw (lt-ltb x n l, eq-eqb x f.name e)

  root_open : (x : ℕ) (rest : List ℕ) → x < n → walk n entries start (0 ∷ x ∷ rest) ≡ walk n entries (progress (within (opening x) []) true) rest
  unfolding walk one_pair by_kind opened
  root_open x rest l = rw (lt-ltb x n l)

  pub walk_content : (name : ℕ) (s : State) (fs : List Frame) (g : Bool) (c : Content) (rest : List ℕ) → NamesBelow n c → depth_of c + suc (length fs) ≤ deepest →
      walk n entries (progress (within (frame name s) fs) g) (pairs c rest)
      ≡ walk n entries (progress (within (frame name (last_state (entries name) s c)) fs) (good_after entries name s c g)) rest
  unfolding last_state good_after out_of
  walk_content name s fs g nothing rest b d = refl
  walk_content name s fs g (text c) rest b d = walk_text (frame name s) fs g (pairs c rest) ∙ walk_content name s fs (allows_text (entries name) && g) c rest b d
  walk_content name s fs g (element x inner c) rest b d =
      let m = move_in (entries name) s x in
      let f = frame name (kept s m) in
      let i = good_after entries x first inner (goes_on m && g) in
      walk_open (frame name s) fs g x (pairs inner (1 ∷ x ∷ pairs c rest)) b.0 (omega arith)
      ∙ walk_content x first (f ∷ fs) (goes_on m && g) inner (1 ∷ x ∷ pairs c rest) b.1 (omega arith)
      ∙ walk_close (frame x (last_state (entries x) first inner)) (f ∷ fs) i x (pairs c rest) b.0 refl
      ∙ walk_content name (kept s m) fs (may_close (entries x) (last_state (entries x) first inner) && i) c rest b.2 (omega arith)

  -- The whole document.
  pub walk_tree : (t : Tree) → Admitted n t → walk n entries start (document_of t)
      ≡ Ok (may_close (entries t.root) (last_state (entries t.root) first t.content) && good_after entries t.root first t.content true)
  unfolding walk out_of ended
  walk_tree t a =
      let x = t.root in
      let c = t.content in
      root_open x (pairs c (1 ∷ x ∷ [])) a.root
      ∙ walk_content x first [] true c (1 ∷ x ∷ []) a.names (omega (arith, a.depth))
      ∙ walk_close (frame x (last_state (entries x) first c)) [] (good_after entries x first c true) x [] a.root refl

-- ---- its length

even_pairs : (c : Content) (rest : List ℕ) → length rest % 2 ≡ 0 → length (pairs c rest) % 2 ≡ 0
even_pairs nothing rest e = e
even_pairs (text c) rest e = let h = even_pairs c rest e in omega arith
even_pairs (element x inner c) rest e =
    let q = even_pairs c rest e in
    let h = even_pairs inner (1 ∷ x ∷ pairs c rest) (omega arith) in
    omega arith

-- A document has an even number of bytes.
pub even_document : (t : Tree) → length (document_of t) % 2 ≡ 0
even_document t = even_pairs (element t.root t.content nothing) [] refl
