-- Behind the first word of a model the walk takes no `#PCDATA`.
-- Assumes nothing.
use Prim.Native.Nat.{ℕ}
use mathlib.Core.Path.{◌≡◌, refl, sym, ◌∙◌, ap}
use mathlib.Core.Bool.{Bool, true, false, cond, not, ◌&&◌, false≢true}
use mathlib.Core.List.{List, [], ◌∷◌}
use lib.Dec.{eqb, leb}
use borrow.Author.Tests.{eq-eqb, eqb-true, not-true}
use Rattle.declaration_spelling.specs.Token.{Token}
use Rattle.declaration_spelling.specs.Kind.{pcdata_kind, token_kind}
use Rattle.declaration_spelling.proofs.Tests.{and_is}
use Rattle.declaration_walk.specs.Walk.{State, before_parent, before_model, behind_bracket, behind_first, whole_bar, whole_name, whole_group, before_factor, in_group, group_name, behind_names, behind_mark, behind_text, text_alone, text_bar, text_name, before_star, before_end, behind_end, nowhere, Arrow, arrows, along, step, number_of, walk, passes, all_pass}
use Rattle.declaration_walk.proofs.Arrows.{lost, is_plain, kind_plain}

-- the states behind the first word of a model have the later numbers
unfoldable pub is_later : State → Bool
is_later s = leb 3 (number_of s)

-- each arrow leads to such a state, and none is for `#PCDATA`
are_later : List Arrow → Bool
are_later [] = true
are_later (a ∷ as') = (not (eqb a.kind pcdata_kind) && is_later a.to) && are_later as'

later_arrows : (s : State) → is_later s ≡ true → are_later (arrows s) ≡ true
unfolding is_later are_later arrows number_of
later_arrows before_parent h = absurd (false≢true h)
later_arrows before_model h = absurd (false≢true h)
later_arrows behind_bracket h = absurd (false≢true h)
later_arrows behind_first h = refl
later_arrows whole_bar h = refl
later_arrows whole_name h = refl
later_arrows whole_group h = refl
later_arrows before_factor h = refl
later_arrows in_group h = refl
later_arrows group_name h = refl
later_arrows behind_names h = refl
later_arrows behind_mark h = refl
later_arrows behind_text h = refl
later_arrows text_alone h = refl
later_arrows text_bar h = refl
later_arrows text_name h = refl
later_arrows before_star h = refl
later_arrows before_end h = refl
later_arrows behind_end h = refl
later_arrows nowhere h = refl

-- the first of them, and the others
arrow_told : (a : Arrow) (as' : List Arrow) → are_later (a ∷ as') ≡ true → (eqb a.kind pcdata_kind ≡ false) × (is_later a.to ≡ true) × (are_later as' ≡ true)
unfolding are_later
arrow_told a as' h =
    let p = (and_is (not (eqb a.kind pcdata_kind) && is_later a.to) (are_later as')).0 h in
    let q = (and_is (not (eqb a.kind pcdata_kind)) (is_later a.to)).0 p.0 in
    (not-true (eqb a.kind pcdata_kind) q.0, q.1, p.1)

-- along such arrows any token leads to such a state
later_along : (as' : List Arrow) (k : ℕ) → are_later as' ≡ true → is_later (along as' k) ≡ true
unfolding along is_later number_of
later_along [] k h = refl
later_along (a ∷ as') k h = let (d, l, r) = arrow_told a as' h in go (eqb k a.kind) l (later_along as' k r)
  where
    go : (b : Bool) → is_later a.to ≡ true → is_later (along as' k) ≡ true → is_later (cond b a.to (along as' k)) ≡ true
    go true l ih = l
    go false l ih = ih

-- and `#PCDATA` nowhere
text_lost : (as' : List Arrow) → are_later as' ≡ true → along as' pcdata_kind ≡ nowhere
unfolding along
text_lost [] h = refl
text_lost (a ∷ as') h = let (d, l, r) = arrow_told a as' h in go (eqb pcdata_kind a.kind) refl d (text_lost as' r)
  where
    go : (b : Bool) → eqb pcdata_kind a.kind ≡ b → eqb a.kind pcdata_kind ≡ false → along as' pcdata_kind ≡ nowhere → cond b a.to (along as' pcdata_kind) ≡ nowhere
    go true q d ih = absurd (false≢true (sym d ∙ eq-eqb a.kind pcdata_kind (sym (eqb-true pcdata_kind a.kind q))))
    go false q d ih = ih

pub plain_on : (s : State) (ts : List Token) → is_later s ≡ true → walk s ts ≡ true → all_pass is_plain ts ≡ true
unfolding all_pass walk step
plain_on s [] h w = refl
plain_on s (t ∷ ts) h w =
    let a = later_arrows s h in
    let there : token_kind t ≡ pcdata_kind → ⊥
    = λ e. false≢true (sym (ap (λ (r : State). walk r ts) (ap (along (arrows s)) e ∙ text_lost (arrows s) a) ∙ lost ts) ∙ w) in
    (and_is (passes is_plain t) (all_pass is_plain ts)).1 (kind_plain t there, plain_on (along (arrows s) (token_kind t)) ts (later_along (arrows s) (token_kind t) a) w)
