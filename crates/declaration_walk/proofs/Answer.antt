-- What is answered to a text: 13 without the form, else by its names and its repeats.
-- Assumes nothing.
use Rattle.std.specs.Prelude.{Ok, Err}
use Prim.Native.Nat.{ℕ, zero, suc, ◌≤◌, ◌<◌}
use mathlib.Core.Path.{◌≡◌, refl, sym, ◌∙◌, ap}
use mathlib.Core.Bool.{Bool, true, false, cond, not, ◌&&◌, true≢false, false≢true}
use mathlib.Core.List.{List, [], ◌∷◌}
use mathlib.Core.Option.{Option, none, some}
use mathlib.Core.Logic.{inl, inr}
use native.Mathlib.Omega.{arith}
use native.Mathlib.Nat.{zero-add}
use lib.Dec.{eqb}
use lib.ListN.{length, replicate, length-replicate, drop}
use borrow.Author.Tests.{not-true}
use Rattle.refusal.specs.declared.Refusal.TheVariants.{NotADeclaration, UnknownName, NameTwice}
use Rattle.refusal.specs.Answer.{Answer, onward, refuse_if}
use Rattle.model.specs.declared.Chain.{Chain}
use Rattle.model.specs.declared.Model.{Model}
use Rattle.model.specs.Record.{no_factor, model_with, empty_chain}
use Rattle.model.proofs.Empty.{replicate_at}
use Rattle.declaration_spelling.specs.Token.{Token, word, lpar, rpar, end, mark as markToken}
use Rattle.declaration_spelling.specs.House.{Factor, empty_word, pcdata_word}
use Rattle.declaration_spelling.specs.Spelled.{bars_tokens, IsPlain, IsMixed, IsContent}
use Rattle.declaration_spelling.specs.Kind.{word_kind, empty_kind, pcdata_kind, token_kind}
use Rattle.declaration_spelling.specs.Cut.{same, cut, tokens}
use Rattle.declaration_spelling.specs.Stops.{Form, HasForm}
use Rattle.declaration_spelling.specs.declared.Declared.{Declared}
use Rattle.declaration_spelling.specs.Read.{known, number_for, declared, or_refuse}
use Rattle.declaration_spelling.proofs.Record.{numbered, all_names, all_factors, all_form, total, none_twice, values_from, place_from, mode_at, record_of}
use Rattle.declaration_spelling.proofs.Tests.{and_is}
use Rattle.declaration_spelling.proofs.Names.{AllBelow, factors_known}
use Rattle.declaration_spelling.proofs.Shape.{Full, Small, model_shape, full_numbered, small_numbered}
use Rattle.declaration_spelling.proofs.Numbers.{once_all, values_is, place_none, total_le, few_factors}
use Rattle.declaration_walk.specs.Walk.{is_word, has_form}
use Rattle.declaration_walk.specs.Gather.{known_tokens, Rows, start_rows, and_then, gather_from, model_of, factors_answer, no_factors, begins_with_word, begins_with, mixed_answer, content_answer, tokens_answer, text_answer}
use Rattle.declaration_walk.proofs.Words.{model_pass, mixed_pass}
use Rattle.declaration_walk.proofs.Formed.{form_sound, form_plain, form_complete, form_tokens}
use Rattle.declaration_walk.proofs.Rows.{place_factor, place_others, row}
use Rattle.declaration_walk.proofs.Factors.{mark, Filled, all_filled, all_place}
use Rattle.declaration_walk.proofs.Tokens.{by_number, model_taken, mixed_taken}
use Rattle.declaration_walk.proofs.Arrows.{pcdata_kind_lem, is_plain}

-- ---- what is answered to a text that has the form

-- 14, then 15, else the parent and the record
unfoldable pub judged : ℕ → List (List ℕ) → Form → Answer Declared
judged size names d =
    refuse_if (not (all_form (known names) d)) UnknownName
    (refuse_if (not (none_twice (length names) (numbered names d.factors))) NameTwice
    (Ok (declared (number_for names d.parent) (model_with (record_of size (numbered names d.factors)) d.mixed))))

-- ---- the record that is filled

module _ (size : ℕ) (fs : List (Factor ℕ)) (k : Rows) (F : Filled 0 fs (replicate size no_factor) (replicate size 0) k) where
  factor_at : (x : ℕ) → place_from 0 fs x ≡ row k.factor x
  factor_at x = go (total x fs) refl
    where
      go : (t : ℕ) → total x fs ≡ t → place_from 0 fs x ≡ row k.factor x
      go zero e = place_none 0 x fs e ∙ sym (replicate_at size x no_factor) ∙ sym (F.kept x e)
      go (suc t) e = sym (F.held x (omega arith))

  mode_at_lem : (i : ℕ) → mode_at fs i ≡ mark k.mode i
  mode_at_lem i = sym (F.marks i) ∙ ap (mark k.mode) (zero-add i)

  pub record_filled : (t : ℕ) → model_of t k ≡ model_with (record_of size fs) t
  unfolding model_of
  record_filled t =
      let p : suc k.index ≡ length fs = omega (arith, F.count) in
      let q : values_from 0 size (place_from 0 fs) ≡ k.factor
      = values_is 0 size (place_from 0 fs) no_factor k.factor (F.places ∙ length-replicate {A = ℕ} size no_factor) (λ x h. ap (place_from 0 fs) (zero-add x) ∙ factor_at x) in
      let s : values_from 0 size (mode_at fs) ≡ k.mode
      = values_is 0 size (mode_at fs) 0 k.mode (F.modes ∙ length-replicate {A = ℕ} size 0) (λ x h. ap (mode_at fs) (zero-add x) ∙ mode_at_lem x) in
      sym (λ i. model_with record { count = sym p i; factor = q i; mode = s i } t)

-- ---- by numbers: 15, else the record

module _ (size n : ℕ) (fits : size ≤ 255) (some-place : 0 < size) (few : n ≤ size) (f : Factor ℕ) (fs : List (Factor ℕ)) (full : Full (f ∷ fs)) (low : AllBelow n (f ∷ fs)) (small : Small (f ∷ fs)) where
  filled : (k : Rows) → and_then (place_factor f (start_rows size)) (place_others size fs) ≡ some k → Filled 0 (f ∷ fs) (replicate size no_factor) (replicate size 0) k
  unfolding start_rows
  filled k e =
      all_filled size n fits few f fs record { index = 0; factor = replicate size no_factor; mode = replicate size 0 } k refl some-place
      (length-replicate {A = ℕ} size no_factor, length-replicate {A = ℕ} size 0) low (λ j. replicate_at size j 0) e

  place : ((y : ℕ) → total y (f ∷ fs) ≤ 1) → length fs < size → (k : Rows) × (and_then (place_factor f (start_rows size)) (place_others size fs) ≡ some k)
  unfolding start_rows
  place o l =
      all_place size n fits few f fs record { index = 0; factor = replicate size no_factor; mode = replicate size 0 } (omega arith)
      (length-replicate {A = ℕ} size no_factor, length-replicate {A = ℕ} size 0) low o (λ y h. replicate_at size y no_factor)

  pub placed_answer : (p t : ℕ) → onward (or_refuse NameTwice (and_then (place_factor f (start_rows size)) (place_others size fs))) (λ g. Ok (declared p (model_of t g)))
      ≡ refuse_if (not (none_twice n (f ∷ fs))) NameTwice (Ok (declared p (model_with (record_of size (f ∷ fs)) t)))
  placed_answer p m = go (and_then (place_factor f (start_rows size)) (place_others size fs)) refl (none_twice n (f ∷ fs)) refl
    where
      go : (o : Option Rows) → and_then (place_factor f (start_rows size)) (place_others size fs) ≡ o → (b : Bool) → none_twice n (f ∷ fs) ≡ b →
          onward (or_refuse NameTwice o) (λ g. Ok (declared p (model_of m g))) ≡ refuse_if (not b) NameTwice (Ok (declared p (model_with (record_of size (f ∷ fs)) m)))
      go (some k) e true t = ap (λ (r : Model). Ok (declared p r)) (record_filled size (f ∷ fs) k (filled k e) m)
      go (some k) e false t = absurd (true≢false (sym (once_all n (f ∷ fs) (filled k e).once) ∙ t))
      go none e false t = refl
      go none e true t =
          let w = place (total_le size n fits few (f ∷ fs) full low small t) (omega (arith, few_factors size n fits few (f ∷ fs) full low small t)) in
          absurd (let z : none ≡ some w.0 = sym e ∙ w.1 in false≢true cc)

-- ---- by tokens

none_twice_nil : (n : ℕ) → none_twice n [] ≡ true
unfolding total
none_twice_nil n = once_all n [] (λ x. omega arith)

empty_record : (size : ℕ) → record_of size [] ≡ empty_chain size
unfolding empty_chain place_from mode_at
empty_record size =
    let q : values_from 0 size (place_from 0 []) ≡ replicate size no_factor
    = values_is 0 size (place_from 0 []) no_factor (replicate size no_factor) (length-replicate {A = ℕ} size no_factor) (λ x h. sym (replicate_at size x no_factor)) in
    let s : values_from 0 size (mode_at []) ≡ replicate size 0 = values_is 0 size (mode_at []) 0 (replicate size 0) (length-replicate {A = ℕ} size 0) (λ x h. sym (replicate_at size x 0)) in
    λ i. record { count = 0; factor = q i; mode = s i }

module _ (size : ℕ) (names : List (List ℕ)) (fits : size ≤ 255) (some-place : 0 < size) (few : length names ≤ size) where
  abbrev Walked : ℕ → ℕ → Factor (List ℕ) → List (Factor (List ℕ)) → Answer Declared
  Walked p t f fs = onward (or_refuse NameTwice (and_then (place_factor (by_number size names f) (start_rows size)) (place_others size (numbered names fs)))) (λ g. Ok (declared p (model_of t g)))

  -- 15, else the record
  abbrev Single : ℕ → ℕ → List (Factor (List ℕ)) → Answer Declared
  Single p t fs = refuse_if (not (none_twice (length names) (numbered names fs))) NameTwice (Ok (declared p (model_with (record_of size (numbered names fs)) t)))

  -- 14 before it
  abbrev Due : ℕ → ℕ → List (Factor (List ℕ)) → Answer Declared
  Due p t fs = refuse_if (not (all_factors (known names) fs)) UnknownName (Single p t fs)

  walked : (p t : ℕ) (f : Factor (List ℕ)) (fs : List (Factor (List ℕ))) → Full (f ∷ fs) → Small (f ∷ fs) → all_factors (known names) (f ∷ fs) ≡ true → Walked p t f fs ≡ Single p t (f ∷ fs)
  unfolding numbered
  walked p t f fs full small e =
      placed_answer size (length names) fits some-place few (by_number size names f) (numbered names fs)
      (full_numbered names (f ∷ fs) full) (factors_known names (f ∷ fs) e).1 (small_numbered names (f ∷ fs) small) p t

  -- tokens that have the names of these factors and fill the rows as they do
  factors_answer_lem : (p t : ℕ) (f : Factor (List ℕ)) (fs : List (Factor (List ℕ))) (ts : List Token) → Full (f ∷ fs) → Small (f ∷ fs) →
      known_tokens names ts ≡ all_factors (known names) (f ∷ fs) →
      gather_from size names ts (start_rows size) ≡ and_then (place_factor (by_number size names f) (start_rows size)) (place_others size (numbered names fs)) →
      factors_answer size names p t ts ≡ Due p t (f ∷ fs)
  unfolding factors_answer
  factors_answer_lem p t f fs ts full small k g = rw (k, g) (go (all_factors (known names) (f ∷ fs)) refl)
    where
      go : (b : Bool) → all_factors (known names) (f ∷ fs) ≡ b → refuse_if (not b) UnknownName (Walked p t f fs) ≡ refuse_if (not b) UnknownName (Single p t (f ∷ fs))
      go true e = walked p t f fs full small e
      go false e = refl

  -- no factor: neither 14 nor 15
  none_answer : (p t : ℕ) → no_factors size p t ≡ Due p t []
  unfolding all_factors numbered
  none_answer p t = rw (none_twice_nil (length names)) (ap (λ (c : Chain). Ok (declared p (model_with c t))) (sym (empty_record size)))

  -- ---- without text

  -- a model with a factor begins with a bracket, and behind it no `#PCDATA` stands
  no_word_lem : (f : Factor (List ℕ)) (fs : List (Factor (List ℕ))) (ts : List Token) → IsPlain (f ∷ fs) ts → begins_with_word ts ≡ false
  unfolding begins_with_word is_word
  no_word_lem f fs ts (inl (us, after, e, F, L)) = rw e
  no_word_lem f fs ts (inr (e, (x, xs, q, l, r))) = rw r

  first_plain : (x : List ℕ) (xs : List (List ℕ)) → all_names is_plain (x ∷ xs) ≡ true → eqb (token_kind (word x)) pcdata_kind ≡ false
  unfolding all_names token_kind is_plain
  first_plain x xs g = rw (not-true (same x pcdata_word) ((and_is (not (same x pcdata_word)) (all_names is_plain xs)).0 g).0) (go (same x empty_word))
    where
      go : (b : Bool) → eqb (cond b empty_kind word_kind) pcdata_kind ≡ false
      go true = refl
      go false = refl

  no_text : (f : Factor (List ℕ)) (fs : List (Factor (List ℕ))) (ts : List Token) → IsPlain (f ∷ fs) ts → all_names is_plain f.names ≡ true → begins_with pcdata_kind (drop 1 ts) ≡ false
  unfolding begins_with token_kind
  no_text f fs ts (inl (us, after, e, inl (x, q, l, r), L)) g = rw (e, r) (first_plain x [] (ap (all_names is_plain) (sym q) ∙ g))
  no_text f fs ts (inl (us, after, e, inr (x, xs, q, l, r), L)) g = rw (e, r)
  no_text f fs ts (inr (e, (x, xs, q, l, r))) g = rw r (first_plain x xs (ap (all_names is_plain) (sym q) ∙ g))

  plain_answer : (p : ℕ) (fs : List (Factor (List ℕ))) (ts : List Token) → IsPlain fs ts → Full fs → Small fs → all_factors is_plain fs ≡ true → content_answer size names p ts ≡ Due p 0 fs
  unfolding content_answer begins_with_word is_word all_factors
  plain_answer p [] ts e full small g = rw e (none_answer p 0)
  plain_answer p (f ∷ fs) ts M full small g =
      rw (no_word_lem f fs ts M, no_text f fs ts M ((and_is (all_names is_plain f.names) (all_factors is_plain fs)).0 g).0)
      (factors_answer_lem p 0 f fs ts full small (model_pass (known names) f fs ts M) (model_taken size names f fs ts (start_rows size) M))

  -- ---- with text

  -- `#PCDATA` stands behind the bracket
  some_text : (p : ℕ) (ts : List Token) → content_answer size names p (lpar ∷ word pcdata_word ∷ ts) ≡ mixed_answer size names p ts
  unfolding content_answer begins_with_word is_word begins_with
  some_text p ts = rw pcdata_kind_lem

  mixed_answer_lem : (p : ℕ) (fs : List (Factor (List ℕ))) (ts : List Token) → IsMixed fs ts → Full fs → Small fs → content_answer size names p ts ≡ Due p 1 fs
  unfolding mixed_answer begins_with token_kind bars_tokens
  mixed_answer_lem p [] ts (inl e) full small = rw e (some_text p (rpar ∷ end ∷ []) ∙ none_answer p 1)
  mixed_answer_lem p [] ts (inr e) full small = rw e (some_text p (rpar ∷ markToken 2 ∷ end ∷ []) ∙ none_answer p 1)
  mixed_answer_lem p (f ∷ fs) ts (e, l, (x, xs, q, r)) full small =
      let M : IsMixed (f ∷ fs) ts = (e, l, (x, xs, q, r)) in
      let us = bars_tokens (x ∷ xs) (markToken 2 ∷ end ∷ []) in
      ap (content_answer size names p) r ∙ some_text p us
      ∙ factors_answer_lem p 1 f fs us full small
      (ap (λ (k : List Token). known_tokens names (drop 2 k)) (sym r) ∙ mixed_pass (known names) (f ∷ fs) ts M)
      (ap (λ (k : List Token). gather_from size names (drop 2 k) (start_rows size)) (sym r) ∙ mixed_taken size names f fs ts (start_rows size) M)

  model_answer_lem : (p t : ℕ) (fs : List (Factor (List ℕ))) (ts : List Token) → IsContent t fs ts → all_factors is_plain fs ≡ true → content_answer size names p ts ≡ Due p t fs
  model_answer_lem p t fs ts M g = let (full, small, goes) = model_shape t fs ts M in go t M full small
    where
      go : (t : ℕ) → IsContent t fs ts → Full fs → Small fs → content_answer size names p ts ≡ Due p t fs
      go zero M full small = plain_answer p fs ts M full small g
      go (suc zero) M full small = mixed_answer_lem p fs ts M full small
      go (suc (suc t)) M full small = absurd M

  first_unknown : (a b : Bool) (A M : Answer Declared) → M ≡ refuse_if (not b) UnknownName A → refuse_if (not a) UnknownName M ≡ refuse_if (not (a && b)) UnknownName A
  first_unknown true b A M e = e
  first_unknown false b A M e = refl

  -- the tokens of a declaration
  tokens_answer_lem : (d : Form) (ts : List Token) → IsContent d.mixed d.factors ts → all_form is_plain d ≡ true → tokens_answer size names (word d.parent ∷ ts) ≡ judged size names d
  unfolding tokens_answer judged all_form
  tokens_answer_lem d ts M g =
      first_unknown (known names d.parent) (all_factors (known names) d.factors) (Single (number_for names d.parent) d.mixed d.factors)
      (content_answer size names (number_for names d.parent) ts)
      (model_answer_lem (number_for names d.parent) d.mixed d.factors ts M ((and_is (is_plain d.parent) (all_factors is_plain d.factors)).0 g).1)

  -- once the form is there, names and then repeats decide
  pub formed_answer : (text : List ℕ) (d : Form) → HasForm text d → text_answer size names text ≡ judged size names d
  unfolding text_answer
  formed_answer text d F =
      rw (form_complete text d F) (ap (tokens_answer size names) (form_tokens text d F) ∙ tokens_answer_lem d F.spelled.tokens F.spelled.model (form_plain text d F))

-- without it the answer is 13
pub unformed_answer : (size : ℕ) (names : List (List ℕ)) (text : List ℕ) → ((d : Form) → HasForm text d → ⊥) → text_answer size names text ≡ Err NotADeclaration
unfolding text_answer
unformed_answer size names text h = go (has_form text) refl
  where
    go : (b : Bool) → has_form text ≡ b → refuse_if (not (has_form text)) NotADeclaration (tokens_answer size names (tokens (cut (drop 9 text)).pieces)) ≡ Err NotADeclaration
    go true q = let (d, F) = form_sound text q in absurd (h d F)
    go false q = rw q

-- what is answered by another number than 13 has the form
pub answer_formed : (size : ℕ) (names : List (List ℕ)) (text : List ℕ) → (text_answer size names text ≡ Err NotADeclaration → ⊥) → (d : Form) × HasForm text d
unfolding text_answer
answer_formed size names text h = go (has_form text) refl h
  where
    go : (b : Bool) → has_form text ≡ b → (refuse_if (not b) NotADeclaration (tokens_answer size names (tokens (cut (drop 9 text)).pieces)) ≡ Err NotADeclaration → ⊥) → (d : Form) × HasForm text d
    go true q k = form_sound text q
    go false q k = absurd (k refl)
