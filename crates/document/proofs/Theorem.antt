-- What the walk over the pairs of a document answers, in terms of the document's tree and of its faults.
-- Assumes nothing.
use Rattle.std.specs.Prelude.{Ok, Err}
use Prim.Native.Nat.{ℕ, ◌%◌, ◌<◌}
use mathlib.Core.Path.{◌≡◌, refl, sym, ◌∙◌, ap}
use mathlib.Core.Bool.{Bool, true, false, ◌&&◌, false≢true}
use mathlib.Core.List.{List, [], ◌∷◌}
use mathlib.Core.Logic.{◌↔◌, ◌⊎◌, inl, inr, ⊎_elim}
use lib.ListN.{length}
use Rattle.refusal.specs.declared.Refusal.{Refusal}
use Rattle.refusal.specs.declared.Refusal.TheVariants.{BadDocument, TooDeep}
use Rattle.refusal.specs.Answer.{Answer}
use Rattle.refusal.proofs.Answers.{given_same, refused_same, given_refused, onward_refused}
use Rattle.model_table.specs.Table.{Entry}
use Rattle.model_table_step.specs.Run.{may_close}
use Rattle.document.specs.Tree.{Tree, IsDocument, Valid}
use Rattle.document.specs.Fault.{Open, unbegun, Fault, kind_above_2, number_not_below, text_with_number, close_unlike_open, close_with_none_open, text_outside_root, second_root, depth_33, FirstFault}
use Rattle.document.specs.Walk.{Place, before, within, behind, Progress, one_pair, ended, walk, start}
use Rattle.document.proofs.Forward.{first, last_state, good_after, walk_tree}
use Rattle.document.proofs.Backward.{has_tree}
use Rattle.document.proofs.Validity.{tree_law}
use Rattle.document.proofs.Faults.{open_at, Right, pair_right, refused_fault, fault_walk}

module _ (n : ℕ) (entries : ℕ → Entry) where
  -- whether a tree is valid, as the walk computes it
  valid : Tree → Bool
  valid t = may_close (entries t.root) (last_state (entries t.root) first t.content) && good_after entries t.root first t.content true

  valid_law : (t : Tree) → (valid t ≡ true) ↔ Valid entries t
  unfolding valid
  valid_law = tree_law entries

  module _ (some : 0 < n) (w : List ℕ) where
    on_tree : (t : Tree) → IsDocument n t w → walk n entries start w ≡ Ok (valid t)
    unfolding valid
    on_tree t (a, e) = ap (walk n entries start) e ∙ walk_tree n entries some t a

    -- The pairs of a tree get a verdict.
    pub walk_given : (t : Tree) → IsDocument n t w → (b : Bool) × (walk n entries start w ≡ Ok b)
    walk_given t d = (valid t, on_tree t d)

    -- A verdict b is given exactly where the pairs are those of a tree for which it is computed.
    given_law : (b : Bool) → (walk n entries start w ≡ Ok b) ↔ ((t : Tree) × IsDocument n t w × (valid t ≡ b))
    given_law b = (to, λ (t, d, e). on_tree t d ∙ ap Ok e)
      where
        to : walk n entries start w ≡ Ok b → (t : Tree) × IsDocument n t w × (valid t ≡ b)
        to e = let (t, a, q) = has_tree n entries w b e in (t, (a, q), given_same (valid t) b (sym (on_tree t (a, q)) ∙ e))

    pub walk_yes : (walk n entries start w ≡ Ok true) ↔ ((t : Tree) × IsDocument n t w × Valid entries t)
    walk_yes = (
      λ e. let (t, d, v) = (given_law true).0 e in (t, d, (valid_law t).0 v),
      λ (t, d, v). (given_law true).1 (t, d, (valid_law t).1 v),
    )

    pub walk_no : (walk n entries start w ≡ Ok false) ↔ ((t : Tree) × IsDocument n t w × (¬ Valid entries t))
    walk_no = (
      λ e. let (t, d, v) = (given_law false).0 e in (t, d, λ h. false≢true (sym v ∙ (valid_law t).1 h)),
      λ (t, d, v). (given_law false).1 (t, d, by t (valid t) refl (λ e. v ((valid_law t).0 e))),
    )
      where
        by : (t : Tree) (b : Bool) → valid t ≡ b → ¬ (valid t ≡ true) → valid t ≡ false
        by t true e h = absurd (h e)
        by t false e h = e

  -- A refusal is given exactly for the first fault.
  pub walk_refused : (w : List ℕ) → length w % 2 ≡ 0 → (r : Refusal) → (walk n entries start w ≡ Err r) ↔ FirstFault n unbegun w r
  unfolding open_at
  walk_refused w even r = (refused_fault n entries w before true r even, λ f. fault_walk n entries f before true refl)

-- ---- no other refusal

fault_which : {n : ℕ} {o : Open} {k x : ℕ} {r : Refusal} → Fault n o k x r → (r ≡ BadDocument) ⊎ (r ≡ TooDeep)
fault_which (kind_above_2 l) = inl refl
fault_which (number_not_below l) = inl refl
fault_which (text_with_number e h) = inl refl
fault_which (close_unlike_open y ys e q h) = inl refl
fault_which (close_with_none_open e h) = inl refl
fault_which (text_outside_root e h) = inl refl
fault_which (second_root e q) = inl refl
fault_which (depth_33 y ys e l q d) = inr refl

module _ (n : ℕ) (entries : ℕ → Entry) where
  pair_which : (o : Open) (k x : ℕ) (a : Answer Progress) → Right n entries o k x a → (r : Refusal) → a ≡ Err r → (r ≡ BadDocument) ⊎ (r ≡ TooDeep)
  unfolding Right
  pair_which o k x (Ok t) h r e = absurd (given_refused t r e)
  pair_which o k x (Err f) h r e = rw (← refused_same {A = Progress} f r e) (fault_which h)

  end_which : (p : Place) (g : Bool) (r : Refusal) → ended p g ≡ Err r → (r ≡ BadDocument) ⊎ (r ≡ TooDeep)
  unfolding ended
  end_which before g r e = inl (sym (refused_same {A = Bool} BadDocument r e))
  end_which (within f fs) g r e = inl (sym (refused_same {A = Bool} BadDocument r e))
  end_which behind g r e = absurd (given_refused g r e)

  -- a walk is refused for nothing but 18 and 19
  pub walk_which : (w : List ℕ) (s : Progress) (r : Refusal) → walk n entries s w ≡ Err r → (r ≡ BadDocument) ⊎ (r ≡ TooDeep)
  unfolding walk
  walk_which [] s r e = end_which s.place s.good r e
  walk_which (k ∷ []) s r e = inl (sym (refused_same {A = Bool} BadDocument r e))
  walk_which (k ∷ x ∷ w) s r e =
      ⊎_elim (pair_which (open_at s.place) k x (one_pair n entries s k x) (pair_right n entries k x s.place s.good) r)
      (λ (t, p, q). walk_which w t r q) (onward_refused (one_pair n entries s k x) (λ t. walk n entries t w) r e)
