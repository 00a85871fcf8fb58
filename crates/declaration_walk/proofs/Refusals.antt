-- Each refusal for its condition and for no other.
-- Assumes nothing.
use Rattle.std.specs.Prelude.{Ok, Err}
use Prim.Native.Nat.{ℕ, zero, suc, ◌<◌}
use mathlib.Core.Path.{◌≡◌, refl, sym, ◌∙◌, subst}
use mathlib.Core.Bool.{Bool, true, false, not, ◌&&◌, true≢false, false≢true}
use mathlib.Core.List.{List, Memᴰ}
use mathlib.Core.Logic.{◌↔◌, ◌⊎◌, inl, inr, ⊎_elim}
use native.Mathlib.Omega.{arith}
use native.Mathlib.Decide.{ℕ_discrete}
use lib.Dec.{leb}
use lib.ListN.{length}
use borrow.Author.Tests.{leb-false, lt-leb, not-false}
use Rattle.refusal.specs.declared.Refusal.{Refusal}
use Rattle.refusal.specs.declared.Refusal.TheVariants.{NotADeclaration, UnknownName, NameTwice}
use Rattle.refusal.specs.Answer.{refuse_if}
use Rattle.refusal.proofs.Answers.{check_refused, given_refused}
use Rattle.declaration_spelling.specs.House.{Factor}
use Rattle.declaration_spelling.specs.Stops.{Form, model_names, form_names, Twice, HasForm}
use Rattle.declaration_spelling.specs.declared.Declared.{Declared}
use Rattle.declaration_spelling.specs.Read.{known}
use Rattle.declaration_spelling.proofs.Record.{numbered, all_form, total, none_twice}
use Rattle.declaration_spelling.proofs.Names.{GoodNames}
use Rattle.declaration_spelling.proofs.Named.{all_law, some_law, known_in, unknown_in, twice_names}
use Rattle.declaration_walk.specs.Gather.{text_answer}
use Rattle.declaration_walk.specs.Walk.{has_form}
use Rattle.declaration_walk.proofs.Formed.{form_sound}
use Rattle.declaration_walk.proofs.Answer.{judged, formed_answer, unformed_answer, answer_formed}

-- the three ends of a text that has the form
unknown_is : (a b : Bool) (x : Declared) → (refuse_if (not a) UnknownName (refuse_if (not b) NameTwice (Ok x)) ≡ Err UnknownName) → a ≡ false
unknown_is true true x e = absurd (false≢true cc)
unknown_is true false x e = absurd (false≢true cc)
unknown_is false b x e = refl

twice_is : (a b : Bool) (x : Declared) → (refuse_if (not a) UnknownName (refuse_if (not b) NameTwice (Ok x)) ≡ Err NameTwice) → (a ≡ true) × (b ≡ false)
twice_is true true x e = absurd (false≢true cc)
twice_is true false x e = (refl, refl)
twice_is false b x e = absurd (false≢true cc)

not_13 : (a b : Bool) (x : Declared) → refuse_if (not a) UnknownName (refuse_if (not b) NameTwice (Ok x)) ≡ Err NotADeclaration → ⊥
not_13 true true x e = false≢true cc
not_13 true false x e = false≢true cc
not_13 false b x e = false≢true cc

-- a number stands in the model twice
twice_law : (n : ℕ) (fs : List (Factor ℕ)) → (none_twice n fs ≡ false) ↔ ((x : ℕ) × (x < n) × (1 < total x fs))
unfolding none_twice
twice_law zero fs = (λ e. absurd (true≢false e), λ p. absurd (omega (arith, p.1)))
twice_law (suc n) fs = (λ e. to (leb (total n fs) 1) refl e (twice_law n fs).0, λ p. from p (twice_law n fs).1)
  where
    later : ((x : ℕ) × (x < n) × (1 < total x fs)) → (x : ℕ) × (x < suc n) × (1 < total x fs)
    later (x, l, t) = (x, omega arith, t)

    to : (b : Bool) → leb (total n fs) 1 ≡ b → (b && none_twice n fs) ≡ false → (none_twice n fs ≡ false → (x : ℕ) × (x < n) × (1 < total x fs)) → (x : ℕ) × (x < suc n) × (1 < total x fs)
    to true q e ih = later (ih e)
    to false q e ih = (n, omega arith, leb-false (total n fs) 1 q)

    and-false : (b c : Bool) → c ≡ false → (b && c) ≡ false
    and-false true c e = e
    and-false false c e = refl

    at_top : (x : ℕ) → x ≡ n → 1 < total x fs → (leb (total n fs) 1 && none_twice n fs) ≡ false
    at_top x q t = let k : 1 < total n fs = subst (λ (y : ℕ). 1 < total y fs) q t in rw (lt-leb (total n fs) 1 k)

    from : ((x : ℕ) × (x < suc n) × (1 < total x fs)) → (((x : ℕ) × (x < n) × (1 < total x fs)) → none_twice n fs ≡ false) → (leb (total n fs) 1 && none_twice n fs) ≡ false
    from (x, l, t) ih = go (ℕ_discrete x n)
      where
        go : Dec (x ≡ n) → (leb (total n fs) 1 && none_twice n fs) ≡ false
        go (yes q) = at_top x q t
        go (no q) = and-false (leb (total n fs) 1) (none_twice n fs) (ih (x, omega arith, t))

module _ (size : ℕ) (names : List (List ℕ)) (G : GoodNames size names) where
  formed : (text : List ℕ) (d : Form) → HasForm text d → text_answer size names text ≡ judged size names d
  formed = formed_answer size names G.small G.place G.few

  -- 13: the text has not the form
  pub refused_13 : (text : List ℕ) → (text_answer size names text ≡ Err NotADeclaration) ↔ ((d : Form) → HasForm text d → ⊥)
  unfolding judged
  refused_13 text = (
    λ e d F. not_13 (all_form (known names) d) (none_twice (length names) (numbered names d.factors)) _ (sym (formed text d F) ∙ e),
    unformed_answer size names text,
  )

  -- no text is refused by another number than 13, 14 and 15
  pub refused_only : (text : List ℕ) (f : Refusal) → text_answer size names text ≡ Err f → (NotADeclaration ≡ f) ⊎ ((UnknownName ≡ f) ⊎ (NameTwice ≡ f))
  unfolding text_answer judged
  refused_only text f e =
      ⊎_elim (λ h. inl h.1)
      (λ h. let (d, F) = form_sound text (not-false _ h.0) in by_names d (sym (formed text d F) ∙ e))
      (check_refused (not (has_form text)) NotADeclaration _ f e)
    where
      by_names : (d : Form) → judged size names d ≡ Err f → (NotADeclaration ≡ f) ⊎ ((UnknownName ≡ f) ⊎ (NameTwice ≡ f))
      by_names d q =
          ⊎_elim (λ h. inr (inl h.1))
          (λ h. ⊎_elim (λ k. inr (inr k.1)) (λ k. absurd (given_refused _ f k.1))
          (check_refused (not (none_twice (length names) (numbered names d.factors))) NameTwice _ f h.1))
          (check_refused (not (all_form (known names) d)) UnknownName _ f q)

  -- the names of a form that the book has
  unknown_form : (d : Form) → (all_form (known names) d ≡ false) ↔ ((x : List ℕ) × Memᴰ x (form_names d) × (¬ Memᴰ x names))
  unknown_form d =
      let h = some_law (known names) d in
      (λ e. let r = h.0 e in (r.0, r.1, (unknown_in names r.0).0 r.2), λ (x, m, n). h.1 (x, m, (unknown_in names x).1 n))

  known_form : (d : Form) → (all_form (known names) d ≡ true) ↔ ((x : List ℕ) → Memᴰ x (form_names d) → Memᴰ x names)
  known_form d =
      let h = all_law (known names) d in
      (λ e x m. (known_in names x).0 (h.0 e x m), λ k. h.1 (λ x m. (known_in names x).1 (k x m)))

  -- 14: it has the form, and a name of it is not in the book
  pub refused_14 : (text : List ℕ) →
      (text_answer size names text ≡ Err UnknownName) ↔ ((d : Form) × HasForm text d × ((x : List ℕ) × Memᴰ x (form_names d) × (¬ Memᴰ x names)))
  unfolding judged
  refused_14 text = (λ e. to e (answer_formed size names text (λ q. false≢true cc)), λ (d, F, u). formed text d F ∙ rw ((unknown_form d).1 u))
    where
      to : text_answer size names text ≡ Err UnknownName → ((d : Form) × HasForm text d) →
          (d : Form) × HasForm text d × ((x : List ℕ) × Memᴰ x (form_names d) × (¬ Memᴰ x names))
      to e (d, F) =
          (d, F, (unknown_form d).0 (unknown_is (all_form (known names) d) (none_twice (length names) (numbered names d.factors)) _ (sym (formed text d F) ∙ e)))

  -- 15: it has the form, all its names are in the book, and one comes twice in the model
  pub refused_15 : (text : List ℕ) → (text_answer size names text ≡ Err NameTwice)
      ↔ ((d : Form) × HasForm text d × ((x : List ℕ) → Memᴰ x (form_names d) → Memᴰ x names) × Twice (model_names d.factors))
  unfolding judged form_names
  refused_15 text = (λ e. to e (answer_formed size names text (λ q. false≢true cc)), from)
    where
      twice_form : (d : Form) → ((x : List ℕ) → Memᴰ x (form_names d) → Memᴰ x names) → (none_twice (length names) (numbered names d.factors) ≡ false) ↔ Twice (model_names d.factors)
      twice_form d k =
          let n = twice_law (length names) (numbered names d.factors) in
          let t = twice_names names d.factors (λ x m. (known_in names x).1 (k x (Memᴰ.tail m))) in
          (λ e. t.0 (n.0 e), λ w. n.1 (t.1 w))

      to : text_answer size names text ≡ Err NameTwice → ((d : Form) × HasForm text d) →
          (d : Form) × HasForm text d × ((x : List ℕ) → Memᴰ x (form_names d) → Memᴰ x names) × Twice (model_names d.factors)
      to e (d, F) =
          let p = twice_is (all_form (known names) d) (none_twice (length names) (numbered names d.factors)) _ (sym (formed text d F) ∙ e) in
          let k = (known_form d).0 p.0 in
          (d, F, k, (twice_form d k).0 p.1)

      from : ((d : Form) × HasForm text d × ((x : List ℕ) → Memᴰ x (form_names d) → Memᴰ x names) × Twice (model_names d.factors)) → text_answer size names text ≡ Err NameTwice
      from (d, F, k, t) = formed text d F ∙ rw ((known_form d).1 k, (twice_form d k).1 t)
