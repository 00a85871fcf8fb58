-- To be believed: the faults of a document's pairs, one constructor for each phrase of paper 02, U7, and the first of
-- them. Models play no part in it. `beginning` in proofs/Beginning.antt says that pairs have no fault exactly where
-- they begin the pairs of a tree over n names that is not too deep.
-- Assumes nothing.
use Rattle.std.specs.Prelude.{ℕ, ◌≤◌, ◌<◌, ◌≡◌, List, [], ◌∷◌, length}
use Rattle.refusal.specs.declared.Refusal.{Refusal}
use Rattle.refusal.specs.declared.Refusal.TheVariants.{BadDocument, TooDeep}
use Rattle.document.specs.Tree.{deepest}

-- What is open before a pair: nothing, and the root is still to come; an element, inside others, by their names, the
-- innermost first; or nothing, and the root is closed.
pub data Open : Type 0 where
  unbegun : Open
  inside : ℕ → List ℕ → Open
  over : Open

-- What is open when the innermost element is closed, which was inside these.
abbrev pub around : List ℕ → Open
around [] = over
around (y ∷ ys) = inside y ys

-- No element is open.
abbrev pub Outside : Open → Type 0
Outside unbegun = Unit {0}
Outside (inside y ys) = ⊥
Outside over = Unit {0}

-- The pair of this kind and number x has a fault where o is open. "At one pair 18 goes before 19": the condition of 19
-- says that none of 18 holds.
pub data Fault (n : ℕ) (o : Open) (kind x : ℕ) : Refusal → Type 0 where
  -- "a kind above 2"
  kind_above_2 : 2 < kind → Fault n o kind x BadDocument
  -- "a number not below N"
  number_not_below : n ≤ x → Fault n o kind x BadDocument
  -- "text with a number other than 0"
  text_with_number : kind ≡ 2 → ¬ (x ≡ 0) → Fault n o kind x BadDocument
  -- "a close unlike its open"
  close_unlike_open : (y : ℕ) (ys : List ℕ) → kind ≡ 1 → o ≡ inside y ys → ¬ (x ≡ y) → Fault n o kind x BadDocument
  -- "or with none open"
  close_with_none_open : kind ≡ 1 → Outside o → Fault n o kind x BadDocument
  -- "text outside the root"
  text_outside_root : kind ≡ 2 → Outside o → Fault n o kind x BadDocument
  -- "a second root"
  second_root : kind ≡ 0 → o ≡ over → Fault n o kind x BadDocument
  -- "19, an open that would make depth 33"
  depth_33 : (y : ℕ) (ys : List ℕ) → kind ≡ 0 → x < n → o ≡ inside y ys → deepest ≤ length (y ∷ ys) → Fault n o kind x TooDeep

-- The pair has no fault, and q is open after it.
pub data Fine (n : ℕ) (o : Open) (kind x : ℕ) (q : Open) : Type 0 where
  the_root : kind ≡ 0 → x < n → o ≡ unbegun → q ≡ inside x [] → Fine n o kind x q
  an_open : (y : ℕ) (ys : List ℕ) → kind ≡ 0 → x < n → o ≡ inside y ys → length (y ∷ ys) < deepest → q ≡ inside x (y ∷ ys) → Fine n o kind x q
  its_close : (ys : List ℕ) → kind ≡ 1 → x < n → o ≡ inside x ys → q ≡ around ys → Fine n o kind x q
  some_text : (y : ℕ) (ys : List ℕ) → kind ≡ 2 → x < n → x ≡ 0 → o ≡ inside y ys → q ≡ o → Fine n o kind x q

-- "The pairs are taken left to right and the first fault counts": the pairs w, before which o is open, are refused
-- for r.
pub data FirstFault (n : ℕ) : Open → List ℕ → Refusal → Type 0 where
  here : {o : Open} {kind x : ℕ} {w : List ℕ} {r : Refusal} → Fault n o kind x r → FirstFault n o (kind ∷ x ∷ w) r
  later : {o q : Open} {kind x : ℕ} {w : List ℕ} {r : Refusal} → Fine n o kind x q → FirstFault n q w r → FirstFault n o (kind ∷ x ∷ w) r
  -- "no root"
  no_root : FirstFault n unbegun [] BadDocument
  -- "or an open left at the end"
  open_left : {y : ℕ} {ys : List ℕ} → FirstFault n (inside y ys) [] BadDocument

-- The pairs p have no fault, and lead from where o is open to where q is open.
pub data Leads (n : ℕ) : Open → List ℕ → Open → Type 0 where
  done : {o : Open} → Leads n o [] o
  onto : {o q s : Open} {kind x : ℕ} {p : List ℕ} → Fine n o kind x q → Leads n q p s → Leads n o (kind ∷ x ∷ p) s
