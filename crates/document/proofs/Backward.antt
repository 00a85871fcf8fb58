-- A walk that is not refused goes over the pairs of a tree.
-- Assumes nothing.
use Rattle.std.specs.Prelude.{Ok, Err}
use Prim.Native.Nat.{ℕ, zero, suc, ◌+◌, ◌≤◌, ◌<◌}
use mathlib.Core.Path.{◌≡◌, refl, sym}
use mathlib.Core.Bool.{Bool, true, not}
use mathlib.Core.List.{List, [], ◌∷◌}
use native.Mathlib.Omega.{arith}
use borrow.Author.Tests.{ltb-true, leb-false, eqb-true, not-false}
use lib.Dec.{ltb, leb, eqb}
use lib.ListN.{length}
use Rattle.refusal.specs.declared.Refusal.TheVariants.{BadDocument}
use Rattle.refusal.proofs.Answers.{onward_given, check_given, given_same, given_refused}
use Rattle.refusal.specs.Answer.{Answer}
use Rattle.model_table.specs.Table.{Entry}
use Rattle.document.specs.declared.Frame.{Frame}
use Rattle.document.specs.Tree.{Content, nothing, text, element, Tree, pairs, document_of, depth_of, NamesBelow, deepest, Admitted}
use Rattle.document.specs.Walk.{Place, before, within, behind, Progress, progress, opening, out_of, opened, closed, texted, by_kind, one_pair, ended, walk, start}

-- The rest of a document inside these elements, the innermost first: the rest of its content, its close, and the rest
-- inside the others.
pub Parsed : ℕ → List Frame → List ℕ → Type 0
Parsed n [] w = w ≡ []
Parsed n (f ∷ fs) w =
    (c : Content) × (rest : List ℕ) × (w ≡ pairs c (1 ∷ f.name ∷ rest)) × NamesBelow n c × (depth_of c + suc (length fs) ≤ deepest) × Parsed n fs rest

refused_never : {A : Type 0} {b : A} → ◌≡◌ {A = Answer A} (Err BadDocument) (Ok b) → ⊥
refused_never e = given_refused _ _ (sym e)

refused_ended : (f : Frame) (fs : List Frame) (g : Bool) {b : Bool} → ended (within f fs) g ≡ Ok b → ⊥
unfolding ended
refused_ended f fs g e = refused_never e

-- ---- what a pair that is no fault tells

module _ (n : ℕ) (entries : ℕ → Entry) where
  pair_given : (p : Place) (g : Bool) (k x : ℕ) (t : Progress) → one_pair n entries (progress p g) k x ≡ Ok t → (x < n) × (by_kind entries x k p g ≡ Ok t)
  unfolding one_pair
  pair_given p g k x t e =
      let h = check_given (not (ltb x n)) BadDocument (by_kind entries x k p g) t e in
      (ltb-true x n (not-false (ltb x n) h.0), h.1)

  open_given : (x : ℕ) (f : Frame) (fs : List Frame) (g : Bool) (t : Progress) → opened entries x (within f fs) g ≡ Ok t →
      (suc (length fs) < deepest) × (f' : Frame) × (g' : Bool) × (f'.name ≡ f.name) × (progress (within (opening x) (f' ∷ fs)) g' ≡ t)
  unfolding opened
  open_given x f fs g t e =
      let h = check_given (leb deepest (suc (length fs))) _ _ t e in
      (leb-false deepest (suc (length fs)) h.0, _, _, refl, given_same _ t h.1)

  close_given : (x : ℕ) (f : Frame) (fs : List Frame) (g : Bool) (t : Progress) → closed entries x (within f fs) g ≡ Ok t →
      (x ≡ f.name) × (g' : Bool) × (progress (out_of fs) g' ≡ t)
  unfolding closed
  close_given x f fs g t e =
      let h = check_given (not (eqb x f.name)) _ _ t e in
      (eqb-true x f.name (not-false (eqb x f.name) h.0), _, given_same _ t h.1)

  text_given : (x : ℕ) (f : Frame) (fs : List Frame) (g : Bool) (t : Progress) → texted entries x (within f fs) g ≡ Ok t →
      (x ≡ 0) × (g' : Bool) × (progress (within f fs) g' ≡ t)
  unfolding texted
  text_given x f fs g t e =
      let h = check_given (not (eqb x 0)) _ _ t e in
      (eqb-true x 0 (not-false (eqb x 0) h.0), _, given_same _ t h.1)

  -- ---- behind the root nothing follows

  never_behind : (k x : ℕ) (g : Bool) {t : Progress} → by_kind entries x k behind g ≡ Ok t → ⊥
  unfolding by_kind opened closed texted
  never_behind zero x g h = refused_never h
  never_behind (suc zero) x g h = refused_never h
  never_behind (suc (suc zero)) x g h = refused_never h
  never_behind (suc (suc (suc k))) x g h = refused_never h

  end_behind : (w : List ℕ) (g b : Bool) → walk n entries (progress behind g) w ≡ Ok b → w ≡ []
  unfolding walk
  end_behind [] g b e = refl
  end_behind (k ∷ []) g b e = absurd (refused_never e)
  end_behind (k ∷ x ∷ w) g b e =
      let h = onward_given (one_pair n entries (progress behind g) k x) (λ t. walk n entries t w) b e in
      absurd (never_behind k x g (pair_given behind g k x h.0 h.1).1)

  -- ---- inside elements

  module _ (b : Bool) where
    -- What is to be shown of the rest w, and its parts for the first pair.
    abbrev Rest : List ℕ → Type 0
    Rest w = (f : Frame) (fs : List Frame) (g : Bool) → suc (length fs) ≤ deepest → walk n entries (progress (within f fs) g) w ≡ Ok b → Parsed n (f ∷ fs) w

    with_element : (x : ℕ) (w : List ℕ) (f f' : Frame) (fs : List Frame) → x < n → f'.name ≡ f.name → Parsed n (opening x ∷ f' ∷ fs) w → Parsed n (f ∷ fs) (0 ∷ x ∷ w)
    unfolding Parsed
    with_element x w f f' fs l q (inner, r, e, h, d, (c, r', e', h', d', p)) =
        (element x inner c, r', rw (e, e', q), (l, h, h'), omega arith, p)

    with_close : (w : List ℕ) (f : Frame) (fs : List Frame) (g : Bool) → suc (length fs) ≤ deepest → Rest w → walk n entries (progress (out_of fs) g) w ≡ Ok b → Parsed n fs w
    unfolding Parsed out_of
    with_close w f [] g d ih e = end_behind w g b e
    with_close w f (f' ∷ fs) g d ih e = ih f' fs g (omega arith) e

    with_text_lem : (w : List ℕ) (f : Frame) (fs : List Frame) → Parsed n (f ∷ fs) w → Parsed n (f ∷ fs) (2 ∷ 0 ∷ w)
    unfolding Parsed
    with_text_lem w f fs (c, r, e, h, d, p) = (text c, r, rw e, h, d, p)

    one_pair_lem : (k x : ℕ) (w : List ℕ) (f : Frame) (fs : List Frame) (g : Bool) → suc (length fs) ≤ deepest → Rest w → (t : Progress) → x < n →
        by_kind entries x k (within f fs) g ≡ Ok t → walk n entries t w ≡ Ok b → Parsed n (f ∷ fs) (k ∷ x ∷ w)
    unfolding by_kind Parsed
    one_pair_lem zero x w f fs g d ih t l h e = go (open_given x f fs g t h)
      where
        go : (suc (length fs) < deepest) × (f' : Frame) × (g' : Bool) × (f'.name ≡ f.name) × (progress (within (opening x) (f' ∷ fs)) g' ≡ t) → Parsed n (f ∷ fs) (0 ∷ x ∷ w)
        go (m, f', g', q, r) = with_element x w f f' fs l q (ih (opening x) (f' ∷ fs) g' m (rw r e))
    one_pair_lem (suc zero) x w f fs g d ih t l h e = go (close_given x f fs g t h)
      where
        go : (x ≡ f.name) × (g' : Bool) × (progress (out_of fs) g' ≡ t) → Parsed n (f ∷ fs) (1 ∷ x ∷ w)
        go (q, g', r) = (nothing, w, rw q, tt, omega arith, with_close w f fs g' d ih (rw r e))
    one_pair_lem (suc (suc zero)) x w f fs g d ih t l h e = go (text_given x f fs g t h)
      where
        go : (x ≡ 0) × (g' : Bool) × (progress (within f fs) g' ≡ t) → Parsed n (f ∷ fs) (2 ∷ x ∷ w)
        go (q, g', r) = rw q (with_text_lem w f fs (ih f fs g' d (rw r e)))
    one_pair_lem (suc (suc (suc k))) x w f fs g d ih t l h e = absurd (refused_never h)

    pub parsed : (w : List ℕ) → Rest w
    unfolding walk
    parsed [] f fs g d e = absurd (refused_ended f fs g e)
    parsed (k ∷ []) f fs g d e = absurd (refused_never e)
    parsed (k ∷ x ∷ w) f fs g d e =
        let h = onward_given (one_pair n entries (progress (within f fs) g) k x) (λ t. walk n entries t w) b e in
        let p = pair_given (within f fs) g k x h.0 h.1 in
        one_pair_lem k x w f fs g d (parsed w) h.0 p.0 p.1 h.2

  -- ---- the whole document

  -- A tree of the document w.
  abbrev pub TreeOf : List ℕ → Type 0
  TreeOf w = (t : Tree) × Admitted n t × (w ≡ document_of t)

  root_pair : (k x : ℕ) (w : List ℕ) (b : Bool) (t : Progress) → x < n → by_kind entries x k before true ≡ Ok t → walk n entries t w ≡ Ok b → TreeOf (k ∷ x ∷ w)
  unfolding by_kind opened closed texted Parsed
  root_pair zero x w b t l h e = go (parsed b w (opening x) [] true (omega arith) (rw (given_same (progress (within (opening x) []) true) t h) e))
    where
      go : Parsed n (opening x ∷ []) w → TreeOf (0 ∷ x ∷ w)
      go (c, r, q, m, d, p) = (record { root = x; content = c }, record { root = l; names = m; depth = omega arith }, rw (q, p))
  root_pair (suc zero) x w b t l h e = absurd (refused_never h)
  root_pair (suc (suc zero)) x w b t l h e = absurd (refused_never h)
  root_pair (suc (suc (suc k))) x w b t l h e = absurd (refused_never h)

  refused_before : {b : Bool} → ended before true ≡ Ok b → ⊥
  unfolding ended
  refused_before e = refused_never e

  pub has_tree : (w : List ℕ) (b : Bool) → walk n entries start w ≡ Ok b → TreeOf w
  unfolding walk
  has_tree [] b e = absurd (refused_before e)
  has_tree (k ∷ []) b e = absurd (refused_never e)
  has_tree (k ∷ x ∷ w) b e =
      let h = onward_given (one_pair n entries start k x) (λ t. walk n entries t w) b e in
      let p = pair_given before true k x h.0 h.1 in
      root_pair k x w b h.0 p.0 p.1 h.2
