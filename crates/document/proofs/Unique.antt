-- A document is that of one tree.
-- Assumes nothing.
use Prim.Native.Nat.{ℕ}
use mathlib.Core.Path.{◌≡◌, refl, ap}
use mathlib.Core.List.{List, [], ◌∷◌}
use native.Mathlib.Omega.{arith}
use Rattle.document.specs.Tree.{Content, nothing, text, element, Tree, pairs, document_of}

head_same : {x y : ℕ} {xs ys : List ℕ} → x ∷ xs ≡ y ∷ ys → x ≡ y
head_same e = cc

tail_same : {x y : ℕ} {xs ys : List ℕ} → x ∷ xs ≡ y ∷ ys → xs ≡ ys
tail_same e = cc

rest_same : {a b x y : ℕ} {xs ys : List ℕ} → a ∷ x ∷ xs ≡ b ∷ y ∷ ys → xs ≡ ys
rest_same e = tail_same (tail_same e)

-- A content ends where a close follows that is not of its own: there the two lists agree.
content_same : (c d : Content) (v w : List ℕ) → pairs c (1 ∷ v) ≡ pairs d (1 ∷ w) → (c ≡ d) × (v ≡ w)
content_same nothing nothing v w e = (refl, tail_same e)
content_same nothing (text d) v w e = absurd (let z = head_same e in omega arith)
content_same nothing (element y i d) v w e = absurd (let z = head_same e in omega arith)
content_same (text c) nothing v w e = absurd (let z = head_same e in omega arith)
content_same (text c) (text d) v w e = let p = content_same c d v w (rest_same e) in (ap text p.0, p.1)
content_same (text c) (element y i d) v w e = absurd (let z = head_same e in omega arith)
content_same (element x h c) nothing v w e = absurd (let z = head_same e in omega arith)
content_same (element x h c) (text d) v w e = absurd (let z = head_same e in omega arith)
content_same (element x h c) (element y i d) v w e =
    let p = content_same h i (x ∷ pairs c (1 ∷ v)) (y ∷ pairs d (1 ∷ w)) (rest_same e) in
    let q = content_same c d v w (tail_same p.1) in
    (cc (head_same p.1, p.0, q.0), q.1)

pub tree_same : (s t : Tree) → document_of s ≡ document_of t → s ≡ t
tree_same s t e =
    let p = content_same s.content t.content (s.root ∷ []) (t.root ∷ []) (rest_same e) in
    rw (head_same p.1, p.0)
