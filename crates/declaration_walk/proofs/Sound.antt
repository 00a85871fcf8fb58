-- What the walk takes are the tokens of a parent and a model, and no name of these is `#PCDATA`.
-- Assumes nothing.
use Prim.Native.Nat.{ℕ, suc, ◌≤◌, ◌<◌}
use mathlib.Core.Path.{◌≡◌, refl, sym, ◌∙◌, ap, subst}
use mathlib.Core.Bool.{true}
use mathlib.Core.List.{List, [], ◌∷◌}
use mathlib.Core.Logic.{◌⊎◌, inl, inr}
use native.Mathlib.Omega.{arith}
use borrow.Author.Tests.{eqb-true}
use Rattle.declaration_spelling.specs.Token.{Token, word, lpar, rpar, comma, bar, end, mark}
use Rattle.declaration_spelling.specs.House.{Factor, empty_word, pcdata_word}
use Rattle.declaration_spelling.specs.Spelled.{mark_tokens, bars_tokens, IsGroup, IsBare, IsFactor, AreLater, IsPlain, IsMixed, IsContent}
use Rattle.declaration_spelling.specs.Stops.{Form}
use Rattle.declaration_spelling.specs.Cut.{same}
use Rattle.declaration_spelling.proofs.Record.{all_factors, all_form}
use Rattle.declaration_spelling.proofs.Tests.{and_is}
use Rattle.declaration_walk.specs.Walk.{State, before_parent, before_model, behind_bracket, behind_first, whole_bar, whole_name, whole_group, before_factor, in_group, group_name, behind_names, behind_mark, behind_text, text_alone, text_bar, text_name, before_star, before_end, behind_end, nowhere, by_word, by_mark, arrows, step, number_of, state_of, walk, passes, all_pass}
use Rattle.declaration_walk.proofs.States.{state_number}
use Rattle.declaration_walk.proofs.Arrows.{Taken, taken, word_taken, mark_taken, lpar_is, rpar_is, comma_is, bar_is, end_is, star_is, empty_is, pcdata_is, is_plain}
use Rattle.declaration_walk.proofs.Plain.{is_later, plain_on}
use Rattle.declaration_walk.proofs.Words.{plain_pass, mixed_pass}

-- ---- what is left of a text in each state

abbrev Others : List Token → Type 0
Others ts = (fs : List (Factor (List ℕ))) × AreLater fs ts

abbrev Over : List Token → Type 0
Over ts = ts ≡ end ∷ []

-- a mark or none, later names, names: and then what P says
abbrev Marked : (List Token → Type 0) → List Token → Type 0
Marked P ts = (m : ℕ) × (k : List Token) × (m ≤ 3) × (ts ≡ mark_tokens m k) × P k

abbrev Bars : (List Token → Type 0) → List Token → Type 0
Bars P ts = (xs : List (List ℕ)) × (k : List Token) × (ts ≡ bars_tokens xs k) × Marked P k

abbrev Names : (List Token → Type 0) → List Token → Type 0
Names P ts = (x : List ℕ) × (k : List Token) × (ts ≡ word x ∷ k) × Bars P k

-- a model, none of whose names is `#PCDATA`
abbrev Content : List Token → Type 0
Content ts = (t : ℕ) × (fs : List (Factor (List ℕ))) × IsContent t fs ts × (all_factors is_plain fs ≡ true)

abbrev Plain : List Token → Type 0
Plain ts = (fs : List (Factor (List ℕ))) × IsPlain fs ts

abbrev Starred : List Token → Type 0
Starred ts = ts ≡ mark 2 ∷ end ∷ []

-- later names behind `#PCDATA`
abbrev StarredBars : List Token → Type 0
StarredBars ts = (xs : List (List ℕ)) × (ts ≡ bars_tokens xs (mark 2 ∷ end ∷ []))

abbrev Left : State → List Token → Type 0
Left before_parent ts = (d : Form) × (us : List Token) × (ts ≡ word d.parent ∷ us) × IsContent d.mixed d.factors us × (all_form is_plain d ≡ true)
Left before_model ts = Content ts
Left behind_bracket ts = Content (lpar ∷ ts)
Left behind_first ts = Bars Over ts ⊎ Marked Others ts
Left whole_bar ts = Names Over ts
Left whole_name ts = Bars Over ts
Left whole_group ts = Marked Over ts
Left before_factor ts = (f : Factor (List ℕ)) × (after : List Token) × IsFactor f after ts × Others after
Left in_group ts = Names Others ts
Left group_name ts = Bars Others ts
Left behind_names ts = Marked Others ts
Left behind_mark ts = Others ts
Left behind_text ts = (fs : List (Factor (List ℕ))) × IsMixed fs (lpar ∷ word pcdata_word ∷ ts)
Left text_alone ts = Over ts ⊎ Starred ts
Left text_bar ts = (x : List ℕ) × (k : List Token) × (ts ≡ word x ∷ k) × StarredBars k
Left text_name ts = StarredBars ts
Left before_star ts = Starred ts
Left before_end ts = Over ts
Left behind_end ts = ts ≡ []
Left nowhere ts = ⊥

-- ---- one token more before it

abbrev cons : Token → List Token → List Token
cons t ts = t ∷ ts

none_marked : (P : List Token → Type 0) (ts : List Token) → P ts → Marked P ts
unfolding mark_tokens
none_marked P ts h = (0, ts, omega arith, refl, h)

one_marked : (P : List Token → Type 0) (m : ℕ) (ts : List Token) → m < 3 → P ts → Marked P (mark m ∷ ts)
unfolding mark_tokens
one_marked P m ts l h = (suc m, ts, l, refl, h)

rpar_bars : (P : List Token → Type 0) (ts : List Token) → Marked P ts → Bars P (rpar ∷ ts)
unfolding bars_tokens
rpar_bars P ts h = ([], ts, refl, h)

bar_bars : (P : List Token → Type 0) (ts : List Token) → Names P ts → Bars P (bar ∷ ts)
unfolding bars_tokens
bar_bars P ts (x, k, e, (xs, j, f, h)) = (x ∷ xs, j, ap (cons bar) (e ∙ ap (cons (word x)) f), h)

-- a group, and one name without brackets
group_left : (P : List Token → Type 0) (ts : List Token) → Names P ts → (f : Factor (List ℕ)) × (after : List Token) × IsGroup f after (lpar ∷ ts) × P after
group_left P ts (x, k, e, (xs, j, f, (m, after, l, g, h))) =
    (record { names = x ∷ xs; mode = m }, after, (x, xs, refl, l, ap (cons lpar) (e ∙ ap (cons (word x)) (f ∙ ap (bars_tokens xs) g))), h)

bare_left : (P : List Token → Type 0) (x : List ℕ) (ts : List Token) → Marked P ts → (f : Factor (List ℕ)) × (after : List Token) × IsBare f after (word x ∷ ts) × P after
bare_left P x ts (m, after, l, g, h) = (record { names = x ∷ []; mode = m }, after, (x, refl, l, ap (cons (word x)) g), h)

comma_others : (ts : List Token) → Left before_factor ts → Others (comma ∷ ts)
comma_others ts (f, after, F, (fs, L)) = (f ∷ fs, (ts, after, refl, F, L))

rpar_others : (ts : List Token) → Over ts → Others (rpar ∷ ts)
rpar_others ts e = ([], ap (cons rpar) e)

group_factor : (ts : List Token) → Names Others ts → Left before_factor (lpar ∷ ts)
group_factor ts h = let (f, after, G, o) = group_left Others ts h in (f, after, inr G, o)

bare_factor : (x : List ℕ) (ts : List Token) → Marked Others ts → Left before_factor (word x ∷ ts)
bare_factor x ts h = let (f, after, B, o) = bare_left Others x ts h in (f, after, inl B, o)

-- the factors in brackets are a model, and so is one group
factors_model : (ts : List Token) → Left before_factor ts → Plain (lpar ∷ ts)
factors_model ts (f, after, F, (fs, L)) = (f ∷ fs, inl (ts, after, refl, F, L))

group_model : (x : List ℕ) (ts : List Token) → Bars Over ts → Plain (lpar ∷ word x ∷ ts)
group_model x ts h =
    let (f, after, G, e) = group_left Over (word x ∷ ts) (x, ts, refl, h) in
    (f ∷ [], inr (refl, subst (λ (k : List Token). IsGroup f k (lpar ∷ word x ∷ ts)) e G))

first_model : (x : List ℕ) (ts : List Token) → Left behind_first ts → Plain (lpar ∷ word x ∷ ts)
first_model x ts (inl h) = group_model x ts h
first_model x ts (inr h) = factors_model (word x ∷ ts) (bare_factor x ts h)

-- one without text, where no word is `#PCDATA`
plain_model : (ts : List Token) → Plain ts → all_pass is_plain ts ≡ true → Content ts
unfolding is_plain same empty_word pcdata_word
plain_model ts (fs, M) e = (0, fs, M, sym (plain_pass is_plain refl fs ts M) ∙ e)

-- `(#PCDATA)` and names behind `#PCDATA`
alone_mixed : (ts : List Token) → Left text_alone ts → Left behind_text (rpar ∷ ts)
alone_mixed ts (inl e) = ([], inl (ap (λ (l : List Token). lpar ∷ word pcdata_word ∷ rpar ∷ l) e))
alone_mixed ts (inr e) = ([], inr (ap (λ (l : List Token). lpar ∷ word pcdata_word ∷ rpar ∷ l) e))

bar_starred : (ts : List Token) → Left text_bar ts → (x : List ℕ) × (xs : List (List ℕ)) × (bar ∷ ts ≡ bars_tokens (x ∷ xs) (mark 2 ∷ end ∷ []))
unfolding bars_tokens
bar_starred ts (x, k, e, (xs, f)) = (x, xs, ap (cons bar) (e ∙ ap (cons (word x)) f))

names_mixed : (ts : List Token) → Left text_bar ts → Left behind_text (bar ∷ ts)
names_mixed ts h =
    let (x, xs, e) = bar_starred ts h in
    (record { names = x ∷ xs; mode = 3 } ∷ [], (refl, refl, (x, xs, refl, ap (λ (l : List Token). lpar ∷ word pcdata_word ∷ l) e)))

rpar_starred : (ts : List Token) → Starred ts → StarredBars (rpar ∷ ts)
unfolding bars_tokens
rpar_starred ts e = ([], ap (cons rpar) e)

text_model : (ts : List Token) → Left behind_text ts → all_pass is_plain ts ≡ true → Left behind_bracket (word pcdata_word ∷ ts)
text_model ts (fs, M) e = (1, fs, M, sym (mixed_pass is_plain fs (lpar ∷ word pcdata_word ∷ ts) M) ∙ e)

-- ---- the walk, from its end

-- a token like u is before it
swap : (s : State) (t u : Token) (ts : List Token) → t ≡ u → Left s (u ∷ ts) → Left s (t ∷ ts)
swap s t u ts e = subst (λ (v : Token). Left s (v ∷ ts)) (sym e)

abbrev All : List Token → Type 0
All ts = (s : State) → walk s ts ≡ true → Left s ts

by_word_lem : (s r : State) (t : Token) (ts : List Token) → All ts → Taken (by_word r) t ts → ((x : List ℕ) → is_plain x ≡ true → Left r ts → Left s (word x ∷ ts)) → Left s (t ∷ ts)
by_word_lem s r t ts ih h back = let (x, e, g, q) = word_taken t ts r h in swap s t (word x) ts e (back x g (ih r q))

by_mark_lem : (s r : State) (t : Token) (ts : List Token) → All ts → Taken (by_mark r) t ts → ((m : ℕ) → m < 3 → Left r ts → Left s (mark m ∷ ts)) → Left s (t ∷ ts)
by_mark_lem s r t ts ih h back = let (m, e, l, q) = mark_taken t ts r h in swap s t (mark m) ts e (back m l (ih r q))

-- the walk behind the first token of the model's brackets
at_bracket : (ts : List Token) → All ts → walk in_group ts ≡ true → Left behind_bracket (lpar ∷ ts)
unfolding all_pass passes is_later number_of
at_bracket ts ih q = plain_model (lpar ∷ lpar ∷ ts) (factors_model (lpar ∷ ts) (group_factor ts (ih in_group q))) (plain_on in_group ts refl q)

at_name : (x : List ℕ) (ts : List Token) → All ts → is_plain x ≡ true → walk behind_first ts ≡ true → Left behind_bracket (word x ∷ ts)
unfolding all_pass passes is_later number_of
at_name x ts ih g q =
    plain_model (lpar ∷ word x ∷ ts) (first_model x ts (ih behind_first q))
    ((and_is (is_plain x) (all_pass is_plain ts)).1 (g, plain_on behind_first ts refl q))

at_text : (ts : List Token) → All ts → walk behind_text ts ≡ true → Left behind_bracket (word pcdata_word ∷ ts)
unfolding is_later number_of
at_text ts ih q = text_model ts (ih behind_text q) (plain_on behind_text ts refl q)

-- a parent before a model
parent_model_lem : (x : List ℕ) (ts : List Token) → is_plain x ≡ true → Content ts → Left before_parent (word x ∷ ts)
unfolding all_form
parent_model_lem x ts g (t, fs, M, e) =
    (record { parent = x; mixed = t; factors = fs }, ts, refl, M, (and_is (is_plain x) (all_factors is_plain fs)).1 (g, e))

empty_model_lem : (ts : List Token) → Over ts → Content (word empty_word ∷ ts)
unfolding all_factors
empty_model_lem ts e = (0, [], ap (cons (word empty_word)) e, refl)

back : (s : State) (t : Token) (ts : List Token) → All ts → Taken (arrows s) t ts → Left s (t ∷ ts)
unfolding arrows
back before_parent t ts ih h = by_word_lem before_parent before_model t ts ih h (λ x. parent_model_lem x ts)
back before_model t ts ih (inl (k, q)) = swap before_model t (word empty_word) ts (empty_is t k) (empty_model_lem ts (ih before_end q))
back before_model t ts ih (inr (inl (k, q))) = swap before_model t lpar ts (lpar_is t k) (ih behind_bracket q)
back behind_bracket t ts ih (inl (k, q)) = swap behind_bracket t lpar ts (lpar_is t k) (at_bracket ts ih q)
back behind_bracket t ts ih (inr (inl (k, q))) = swap behind_bracket t (word pcdata_word) ts (pcdata_is t k) (at_text ts ih q)
back behind_bracket t ts ih (inr (inr h)) = let (x, e, g, q) = word_taken t ts behind_first h in swap behind_bracket t (word x) ts e (at_name x ts ih g q)
back behind_first t ts ih (inl (k, q)) = swap behind_first t rpar ts (rpar_is t k) (inl (rpar_bars Over ts (ih whole_group q)))
back behind_first t ts ih (inr (inl (k, q))) = swap behind_first t bar ts (bar_is t k) (inl (bar_bars Over ts (ih whole_bar q)))
back behind_first t ts ih (inr (inr (inl (k, q)))) = swap behind_first t comma ts (comma_is t k) (inr (none_marked Others (comma ∷ ts) (comma_others ts (ih before_factor q))))
back behind_first t ts ih (inr (inr (inr h))) = by_mark_lem behind_first behind_mark t ts ih h (λ m l o. inr (one_marked Others m ts l o))
back whole_bar t ts ih h = by_word_lem whole_bar whole_name t ts ih h (λ x g o. (x, ts, refl, o))
back whole_name t ts ih (inl (k, q)) = swap whole_name t rpar ts (rpar_is t k) (rpar_bars Over ts (ih whole_group q))
back whole_name t ts ih (inr (inl (k, q))) = swap whole_name t bar ts (bar_is t k) (bar_bars Over ts (ih whole_bar q))
back whole_group t ts ih (inl (k, q)) = swap whole_group t end ts (end_is t k) (none_marked Over (end ∷ ts) (ap (cons end) (ih behind_end q)))
back whole_group t ts ih (inr h) = by_mark_lem whole_group before_end t ts ih h (λ m l o. one_marked Over m ts l o)
back before_factor t ts ih (inl (k, q)) = swap before_factor t lpar ts (lpar_is t k) (group_factor ts (ih in_group q))
back before_factor t ts ih (inr h) = by_word_lem before_factor behind_names t ts ih h (λ x g. bare_factor x ts)
back in_group t ts ih h = by_word_lem in_group group_name t ts ih h (λ x g o. (x, ts, refl, o))
back group_name t ts ih (inl (k, q)) = swap group_name t rpar ts (rpar_is t k) (rpar_bars Others ts (ih behind_names q))
back group_name t ts ih (inr (inl (k, q))) = swap group_name t bar ts (bar_is t k) (bar_bars Others ts (ih in_group q))
back behind_names t ts ih (inl (k, q)) = swap behind_names t rpar ts (rpar_is t k) (none_marked Others (rpar ∷ ts) (rpar_others ts (ih before_end q)))
back behind_names t ts ih (inr (inl (k, q))) = swap behind_names t comma ts (comma_is t k) (none_marked Others (comma ∷ ts) (comma_others ts (ih before_factor q)))
back behind_names t ts ih (inr (inr h)) = by_mark_lem behind_names behind_mark t ts ih h (λ m l o. one_marked Others m ts l o)
back behind_mark t ts ih (inl (k, q)) = swap behind_mark t rpar ts (rpar_is t k) (rpar_others ts (ih before_end q))
back behind_mark t ts ih (inr (inl (k, q))) = swap behind_mark t comma ts (comma_is t k) (comma_others ts (ih before_factor q))
back behind_text t ts ih (inl (k, q)) = swap behind_text t rpar ts (rpar_is t k) (alone_mixed ts (ih text_alone q))
back behind_text t ts ih (inr (inl (k, q))) = swap behind_text t bar ts (bar_is t k) (names_mixed ts (ih text_bar q))
back text_alone t ts ih (inl (k, q)) = swap text_alone t end ts (end_is t k) (inl (ap (cons end) (ih behind_end q)))
back text_alone t ts ih (inr (inl (k, q))) = swap text_alone t (mark 2) ts (star_is t k) (inr (ap (cons (mark 2)) (ih before_end q)))
back text_bar t ts ih h = by_word_lem text_bar text_name t ts ih h (λ x g o. (x, ts, refl, o))
back text_name t ts ih (inl (k, q)) = swap text_name t rpar ts (rpar_is t k) (rpar_starred ts (ih before_star q))
back text_name t ts ih (inr (inl (k, q))) = swap text_name t bar ts (bar_is t k) (let (x, xs, e) = bar_starred ts (ih text_bar q) in (x ∷ xs, e))
back before_star t ts ih (inl (k, q)) = swap before_star t (mark 2) ts (star_is t k) (ap (cons (mark 2)) (ih before_end q))
back before_end t ts ih (inl (k, q)) = swap before_end t end ts (end_is t k) (ap (cons end) (ih behind_end q))
back before_model t ts ih (inr (inr h)) = elim h [ ]
back whole_name t ts ih (inr (inr h)) = elim h [ ]
back group_name t ts ih (inr (inr h)) = elim h [ ]
back behind_mark t ts ih (inr (inr h)) = elim h [ ]
back behind_text t ts ih (inr (inr h)) = elim h [ ]
back text_alone t ts ih (inr (inr h)) = elim h [ ]
back text_name t ts ih (inr (inr h)) = elim h [ ]
back before_star t ts ih (inr h) = elim h [ ]
back before_end t ts ih (inr h) = elim h [ ]
back behind_end t ts ih h = elim h [ ]
back nowhere t ts ih h = elim h [ ]

-- the walk ends in one state alone
ends : (s : State) → walk s [] ≡ true → Left s []
unfolding walk
ends s e =
    let is : s ≡ behind_end = sym (state_number s).0 ∙ ap state_of (eqb-true (number_of s) (number_of behind_end) e) ∙ (state_number behind_end).0 in
    subst (λ (r : State). Left r []) (sym is) refl

sound : (ts : List Token) → All ts
unfolding walk step
sound [] s e = ends s e
sound (t ∷ ts) s e = back s t ts (sound ts) (taken (arrows s) t ts e)

-- what the walk takes is a parent and a model
pub walk_sound : (ts : List Token) → walk before_parent ts ≡ true →
    (d : Form) × (us : List Token) × (ts ≡ word d.parent ∷ us) × IsContent d.mixed d.factors us × (all_form is_plain d ≡ true)
walk_sound ts e = sound ts before_parent e
