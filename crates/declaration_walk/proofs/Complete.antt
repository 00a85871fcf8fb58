-- The walk takes the tokens of every model.
-- Assumes nothing.
use Prim.Native.Nat.{ℕ, zero, suc, ◌≤◌}
use mathlib.Core.Path.{◌≡◌, refl, sym, ◌∙◌, ap}
use mathlib.Core.Bool.{Bool, true, false, cond}
use mathlib.Core.List.{List, [], ◌∷◌}
use mathlib.Core.Logic.{inl, inr}
use native.Mathlib.Omega.{arith}
use borrow.Author.Tests.{not-true}
use Rattle.declaration_spelling.specs.Token.{Token, word, lpar, rpar, end, mark}
use Rattle.declaration_spelling.specs.House.{Factor, empty_word, pcdata_word}
use Rattle.declaration_spelling.specs.Spelled.{mark_tokens, bars_tokens, IsGroup, IsFactor, AreLater, IsPlain, IsMixed, IsContent}
use Rattle.declaration_spelling.specs.Stops.{Form}
use Rattle.declaration_spelling.specs.Cut.{same}
use Rattle.declaration_spelling.specs.Kind.{word_kind, empty_kind, lpar_kind, rpar_kind, bar_kind, question_kind, plus_kind, star_kind, mark_kind, token_kind}
use Rattle.declaration_spelling.proofs.Record.{all_names, all_factors, all_form}
use Rattle.declaration_spelling.proofs.Tests.{and_is, same_refl}
use Rattle.declaration_walk.specs.Walk.{State, before_parent, before_model, behind_bracket, behind_first, whole_bar, whole_name, whole_group, before_factor, in_group, group_name, behind_names, behind_mark, behind_text, text_bar, text_name, before_star, before_end, arrows, along, step, number_of, walk}
use Rattle.declaration_walk.proofs.Arrows.{pcdata_kind_lem, is_plain}

-- ---- one step

-- every word but `#PCDATA`, and every mark, leads from s to r
abbrev Words : State → State → Type 0
Words s r = (step s word_kind ≡ r) × (step s empty_kind ≡ r)

abbrev Marks : State → State → Type 0
Marks s r = (step s question_kind ≡ r) × (step s plus_kind ≡ r) × (step s star_kind ≡ r)

at_state : (s r : State) (ts : List Token) → s ≡ r → walk r ts ≡ true → walk s ts ≡ true
at_state s r ts e h = ap (λ (k : State). walk k ts) e ∙ h

word_on : (s r : State) → Words s r → (x : List ℕ) → is_plain x ≡ true → (ts : List Token) → walk r ts ≡ true → walk s (word x ∷ ts) ≡ true
unfolding walk token_kind is_plain
word_on s r (p, q) x g ts h = rw (not-true (same x pcdata_word) g) (go (same x empty_word))
  where
    go : (b : Bool) → walk (step s (cond b empty_kind word_kind)) ts ≡ true
    go true = at_state (step s empty_kind) r ts q h
    go false = at_state (step s word_kind) r ts p h

mark_on : (s r : State) → Marks s r → (m : ℕ) (ts : List Token) → m ≤ 3 → walk s ts ≡ true → walk r ts ≡ true → walk s (mark_tokens m ts) ≡ true
unfolding walk token_kind mark_kind mark_tokens
mark_on s r e zero ts l a b = a
mark_on s r e (suc zero) ts l a b = at_state (step s question_kind) r ts e.0 b
mark_on s r e (suc (suc zero)) ts l a b = at_state (step s plus_kind) r ts e.1 b
mark_on s r e (suc (suc (suc zero))) ts l a b = at_state (step s star_kind) r ts e.2 b
mark_on s r e (suc (suc (suc (suc m)))) ts l a b = absurd (omega arith)

-- ---- a group

-- the later names of a group: from u, behind a name, to r, behind the bracket
bars_on : (b u r : State) → step u rpar_kind ≡ r → step u bar_kind ≡ b → Words b u → (xs : List (List ℕ)) → all_names is_plain xs ≡ true → (ts : List Token) → walk r ts ≡ true → walk u (bars_tokens xs ts) ≡ true
unfolding walk token_kind bars_tokens all_names
bars_on b u r p q w [] g ts h = at_state (step u rpar_kind) r ts p h
bars_on b u r p q w (x ∷ xs) g ts h =
    let (g₁, g₂) = (and_is (is_plain x) (all_names is_plain xs)).0 g in
    at_state (step u bar_kind) b (word x ∷ bars_tokens xs ts) q (word_on b u w x g₁ (bars_tokens xs ts) (bars_on b u r p q w xs g₂ ts h))

-- behind the first name of a model
first_on : (xs : List (List ℕ)) → all_names is_plain xs ≡ true → (ts : List Token) → walk whole_group ts ≡ true → walk behind_first (bars_tokens xs ts) ≡ true
unfolding walk step arrows along token_kind bars_tokens all_names
first_on [] g ts h = h
first_on (x ∷ xs) g ts h =
    let (g₁, g₂) = (and_is (is_plain x) (all_names is_plain xs)).0 g in
    word_on whole_bar whole_name (refl, refl) x g₁ (bars_tokens xs ts) (bars_on whole_bar whole_name whole_group refl refl (refl, refl) xs g₂ ts h)

-- names that are those of a factor
names_plain : (f : Factor (List ℕ)) (x : List ℕ) (xs : List (List ℕ)) → f.names ≡ x ∷ xs → all_names is_plain f.names ≡ true → (is_plain x ≡ true) × (all_names is_plain xs ≡ true)
unfolding all_names
names_plain f x xs e g = (and_is (is_plain x) (all_names is_plain xs)).0 (ap (all_names is_plain) (sym e) ∙ g)

-- ---- factors

factor_on : (s r : State) → step s lpar_kind ≡ in_group → Words s r → (f : Factor (List ℕ)) (after ts : List Token) → IsFactor f after ts →
    all_names is_plain f.names ≡ true → walk behind_names (mark_tokens f.mode after) ≡ true → walk r (mark_tokens f.mode after) ≡ true → walk s ts ≡ true
unfolding walk step arrows along token_kind
factor_on s r p w f after ts (inl (x, e, l, q)) g a b = rw q (word_on s r w x (names_plain f x [] e g).0 (mark_tokens f.mode after) b)
factor_on s r p w f after ts (inr (x, xs, e, l, q)) g a b =
    let (g₁, g₂) = names_plain f x xs e g in
    rw q
    (at_state (step s lpar_kind) in_group (word x ∷ bars_tokens xs (mark_tokens f.mode after)) p
    (word_on in_group group_name (refl, refl) x g₁ (bars_tokens xs (mark_tokens f.mode after))
    (bars_on in_group group_name behind_names refl refl (refl, refl) xs g₂ (mark_tokens f.mode after) a)))

-- what stands behind a factor leads on from behind a first name, behind names and behind a mark
abbrev Open : List Token → Type 0
Open ts = (walk behind_first ts ≡ true) × (walk behind_names ts ≡ true) × (walk behind_mark ts ≡ true)

mode_of_lem : (f : Factor (List ℕ)) (after ts : List Token) → IsFactor f after ts → f.mode ≤ 3
mode_of_lem f after ts (inl (x, e, l, q)) = l
mode_of_lem f after ts (inr (x, xs, e, l, q)) = l

marked_open : (m : ℕ) (ts : List Token) → m ≤ 3 → Open ts → (walk behind_names (mark_tokens m ts) ≡ true) × (walk behind_first (mark_tokens m ts) ≡ true)
unfolding step arrows along
marked_open m ts l (a, b, c) = (mark_on behind_names behind_mark (refl, refl, refl) m ts l b c, mark_on behind_first behind_mark (refl, refl, refl) m ts l a c)

closed : (walk whole_group (end ∷ []) ≡ true) × (walk before_end (end ∷ []) ≡ true)
unfolding walk step arrows along token_kind number_of
closed = (refl, refl)

last_open : (ts : List Token) → ts ≡ rpar ∷ end ∷ [] → Open ts
unfolding walk step arrows along token_kind
last_open ts e = rw e (closed.0, closed.1, closed.1)

later_open : (fs : List (Factor (List ℕ))) (ts : List Token) → AreLater fs ts → all_factors is_plain fs ≡ true → Open ts
unfolding walk step arrows along token_kind all_factors
later_open [] ts e g = last_open ts e
later_open (f ∷ fs) ts (us, after, e, F, L) g =
    let (g₁, g₂) = (and_is (all_names is_plain f.names) (all_factors is_plain fs)).0 g in
    let o = marked_open f.mode after (mode_of_lem f after us F) (later_open fs after L g₂) in
    let w : walk before_factor us ≡ true = factor_on before_factor behind_names refl (refl, refl) f after us F g₁ o.0 o.0 in
    rw e (w, w, w)

-- ---- the model

group_on : (f : Factor (List ℕ)) (ts : List Token) → IsGroup f (end ∷ []) ts → all_names is_plain f.names ≡ true → walk before_model ts ≡ true
unfolding walk step arrows along token_kind
group_on f ts (x, xs, e, l, q) g =
    let (g₁, g₂) = names_plain f x xs e g in
    let m = mark_on whole_group before_end (refl, refl, refl) f.mode (end ∷ []) l closed.0 closed.1 in
    rw q (word_on behind_bracket behind_first (refl, refl) x g₁ (bars_tokens xs (mark_tokens f.mode (end ∷ []))) (first_on xs g₂ (mark_tokens f.mode (end ∷ [])) m))

empty_on : walk before_model (word empty_word ∷ end ∷ []) ≡ true
unfolding walk step arrows along token_kind
empty_on = rw (same_refl empty_word) closed.1

plain_on : (fs : List (Factor (List ℕ))) (ts : List Token) → IsPlain fs ts → all_factors is_plain fs ≡ true → walk before_model ts ≡ true
unfolding walk step arrows along token_kind all_factors
plain_on [] ts e g = rw e empty_on
plain_on (f ∷ fs) ts (inl (us, after, e, F, L)) g =
    let (g₁, g₂) = (and_is (all_names is_plain f.names) (all_factors is_plain fs)).0 g in
    let o = marked_open f.mode after (mode_of_lem f after us F) (later_open fs after L g₂) in
    rw e (factor_on behind_bracket behind_first refl (refl, refl) f after us F g₁ o.0 o.1)
plain_on (f ∷ fs) ts (inr (e, G)) g = group_on f ts G ((and_is (all_names is_plain f.names) (all_factors is_plain fs)).0 g).0

-- behind `(#PCDATA`
text_on : (ts : List Token) → walk behind_text ts ≡ true → walk before_model (lpar ∷ word pcdata_word ∷ ts) ≡ true
unfolding walk step arrows along token_kind
text_on ts h = ap (λ (k : ℕ). walk (step behind_bracket k) ts) pcdata_kind_lem ∙ h

starred : walk before_star (mark 2 ∷ end ∷ []) ≡ true
unfolding walk step arrows along token_kind mark_kind
starred = closed.1

mixed_on : (fs : List (Factor (List ℕ))) (ts : List Token) → IsMixed fs ts → all_factors is_plain fs ≡ true → walk before_model ts ≡ true
unfolding walk step arrows along token_kind mark_kind bars_tokens all_factors all_names
mixed_on [] ts (inl e) g = rw e (text_on (rpar ∷ end ∷ []) closed.0)
mixed_on [] ts (inr e) g = rw e (text_on (rpar ∷ mark 2 ∷ end ∷ []) closed.1)
mixed_on (f ∷ fs) ts (e, l, (x, xs, q, r)) g =
    let (g₁, g₂) = names_plain f x xs q ((and_is (all_names is_plain f.names) (all_factors is_plain fs)).0 g).0 in
    rw r
    (text_on (bars_tokens (x ∷ xs) (mark 2 ∷ end ∷ []))
    (word_on text_bar text_name (refl, refl) x g₁ (bars_tokens xs (mark 2 ∷ end ∷ []))
    (bars_on text_bar text_name before_star refl refl (refl, refl) xs g₂ (mark 2 ∷ end ∷ []) starred)))

model_on : (t : ℕ) (fs : List (Factor (List ℕ))) (ts : List Token) → IsContent t fs ts → all_factors is_plain fs ≡ true → walk before_model ts ≡ true
model_on zero fs ts M g = plain_on fs ts M g
model_on (suc zero) fs ts M g = mixed_on fs ts M g
model_on (suc (suc t)) fs ts M g = absurd M

-- the walk takes every parent and model
pub walk_complete : (d : Form) (ts : List Token) → IsContent d.mixed d.factors ts → all_form is_plain d ≡ true → walk before_parent (word d.parent ∷ ts) ≡ true
unfolding step arrows along all_form
walk_complete d ts M g =
    let (g₁, g₂) = (and_is (is_plain d.parent) (all_factors is_plain d.factors)).0 g in
    word_on before_parent before_model (refl, refl) d.parent g₁ ts (model_on d.mixed d.factors ts M g₂)
