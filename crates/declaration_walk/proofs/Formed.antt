-- A text has the form of a declaration exactly when the walk says so.
-- Assumes nothing.
use Prim.Native.Nat.{ℕ, zero, suc, ◌<◌}
use mathlib.Core.Path.{◌≡◌, refl, sym, ◌∙◌, ap, ap₂, subst}
use mathlib.Core.Bool.{Bool, true, false, cond, not, ◌&&◌, ◌||◌, false≢true}
use mathlib.Core.List.{List, [], ◌∷◌, ◌++◌}
use mathlib.Core.Option.{Option, none, some}
use mathlib.Core.Logic.{◌⊎◌, inl, inr}
use lib.ListN.{drop}
use Rattle.name.specs.Class.{between}
use Rattle.name.specs.Rule.{is_name}
use Rattle.declaration_spelling.specs.Token.{Token, word, lpar, rpar, comma, bar, end, mark, other, behind, room, Spells}
use Rattle.declaration_spelling.specs.House.{opening, empty_word, pcdata_word}
use Rattle.declaration_spelling.specs.Spelled.{IsContent}
use Rattle.declaration_spelling.specs.Cut.{same, strip, SpacedToken, cut, fits, spaced, tokens}
use Rattle.declaration_spelling.specs.Kind.{other_kind, word_kind, empty_kind, pcdata_kind, mark_kind, token_kind}
use Rattle.declaration_spelling.specs.Stops.{Form, HasForm}
use Rattle.declaration_spelling.proofs.Tests.{and_is, same_is, same_refl, strip_join, strip_is}
use Rattle.declaration_spelling.proofs.Bytes.{name_word, empty_name, pcdata_word_lem, pcdata_no_name}
use Rattle.declaration_spelling.proofs.Record.{all_form}
use Rattle.declaration_spelling.proofs.Cutting.{Proper, AllProper, cut_sound, cut_complete}
use Rattle.declaration_spelling.proofs.Named.{all_law}
use Rattle.declaration_walk.specs.Walk.{State, before_parent, before_model, behind_bracket, behind_first, whole_bar, whole_name, whole_group, before_factor, in_group, group_name, behind_names, behind_mark, behind_text, text_alone, text_bar, text_name, before_star, before_end, behind_end, nowhere, arrows, along, step, walk, is_word, kind_fits, passes, all_pass, may_stand, accepts, accepts_rest, has_form}
use Rattle.declaration_walk.proofs.Arrows.{lost, MarkKind, mark_kind_lem, is_plain}
use Rattle.declaration_walk.proofs.Sound.{walk_sound}
use Rattle.declaration_walk.proofs.Complete.{walk_complete}
use Rattle.declaration_walk.proofs.Words.{form_pass}

-- ---- white space, names and form in one walk or one after the other

-- a byte that is no token leads nowhere
other_lost : (s : State) → step s other_kind ≡ nowhere
unfolding step arrows along
other_lost before_parent = refl
other_lost before_model = refl
other_lost behind_bracket = refl
other_lost behind_first = refl
other_lost whole_bar = refl
other_lost whole_name = refl
other_lost whole_group = refl
other_lost before_factor = refl
other_lost in_group = refl
other_lost group_name = refl
other_lost behind_names = refl
other_lost behind_mark = refl
other_lost behind_text = refl
other_lost text_alone = refl
other_lost text_bar = refl
other_lost text_name = refl
other_lost before_star = refl
other_lost before_end = refl
other_lost behind_end = refl
other_lost nowhere = refl

behind_fits : (t : Token) (gap : Bool) → fits (behind t) gap ≡ cond (is_word t) gap true
unfolding fits behind is_word
behind_fits (word x) gap = refl
behind_fits lpar gap = refl
behind_fits rpar gap = refl
behind_fits comma gap = refl
behind_fits bar gap = refl
behind_fits end gap = refl
behind_fits (mark m) gap = refl
behind_fits (other b) gap = refl

-- white space by the kind of a token
kind_fits_lem : (t u : Token) (gap : Bool) → (token_kind u ≡ other_kind) ⊎ (fits (room t u) gap ≡ kind_fits (is_word t) gap (token_kind u))
unfolding fits room kind_fits between token_kind mark_kind
kind_fits_lem t (word x) gap = inr (go (same x empty_word) (same x pcdata_word))
  where
    go : (a b : Bool) → fits (behind t) gap ≡ kind_fits (is_word t) gap (cond a empty_kind (cond b pcdata_kind word_kind))
    go true b = behind_fits t gap
    go false true = behind_fits t gap
    go false false = behind_fits t gap
kind_fits_lem t lpar gap = inr (behind_fits t gap)
kind_fits_lem t rpar gap = inr refl
kind_fits_lem t comma gap = inr refl
kind_fits_lem t bar gap = inr refl
kind_fits_lem t end gap = inr refl
kind_fits_lem t (mark zero) gap = inr refl
kind_fits_lem t (mark (suc zero)) gap = inr refl
kind_fits_lem t (mark (suc (suc zero))) gap = inr refl
kind_fits_lem t (mark (suc (suc (suc m)))) gap = inl refl
kind_fits_lem t (other b) gap = inl refl

and-false : (a b c : Bool) → c ≡ false → (a && (b && c)) ≡ false
and-false true true c e = e
and-false true false c e = refl
and-false false b c e = refl

shuffle : (a g b h c : Bool) → (a && (g && (b && (h && c)))) ≡ ((a && b) && ((g && h) && c))
shuffle false g b h c = refl
shuffle true true b h c = refl
shuffle true false true h c = refl
shuffle true false false h c = refl

accepts_is : (s : State) (t : Token) (gap : Bool) (ps : List SpacedToken) → accepts s (is_word t) gap ps ≡ (spaced t gap ps && (all_pass may_stand (tokens ps) && walk s (tokens ps)))
unfolding accepts spaced tokens all_pass walk
accepts_is s t gap [] = refl
accepts_is s t gap (p ∷ ps) = go (kind_fits_lem t p.token gap) (accepts_is (step s (token_kind p.token)) p.token p.gap ps)
  where
    next : State
    next = step s (token_kind p.token)

    go : (token_kind p.token ≡ other_kind) ⊎ (fits (room t p.token) gap ≡ kind_fits (is_word t) gap (token_kind p.token))
        → accepts next (is_word p.token) p.gap ps ≡ (spaced p.token p.gap ps && (all_pass may_stand (tokens ps) && walk next (tokens ps)))
        → (kind_fits (is_word t) gap (token_kind p.token) && (passes may_stand p.token && accepts next (is_word p.token) p.gap ps))
        ≡ ((fits (room t p.token) gap && spaced p.token p.gap ps) && ((passes may_stand p.token && all_pass may_stand (tokens ps)) && walk next (tokens ps)))
    go (inl k) ih =
        let w : walk next (tokens ps) ≡ false = ap (λ (r : State). walk r (tokens ps)) (ap (step s) k ∙ other_lost s) ∙ lost (tokens ps) in
        and-false (kind_fits (is_word t) gap (token_kind p.token)) (passes may_stand p.token) _ (ih ∙ and-false (spaced p.token p.gap ps) (all_pass may_stand (tokens ps)) _ w)
        ∙ sym (and-false (fits (room t p.token) gap && spaced p.token p.gap ps) (passes may_stand p.token && all_pass may_stand (tokens ps)) _ w)
    go (inr f) ih =
        ap₂ (λ (a b : Bool). a && (passes may_stand p.token && b)) (sym f) ih
        ∙ shuffle (fits (room t p.token) gap) (passes may_stand p.token) (spaced p.token p.gap ps) (all_pass may_stand (tokens ps)) (walk next (tokens ps))

lost_behind : (t : Token) (gap : Bool) (ps : List SpacedToken) → accepts nowhere (is_word t) gap ps ≡ false
lost_behind t gap ps = accepts_is nowhere t gap ps ∙ and-false (spaced t gap ps) (all_pass may_stand (tokens ps)) _ (lost (tokens ps))

-- from nowhere nothing is accepted
pub accepts_lost : (behindWord gap : Bool) (ps : List SpacedToken) → accepts nowhere behindWord gap ps ≡ false
unfolding is_word
accepts_lost true gap ps = lost_behind (word []) gap ps
accepts_lost false gap ps = lost_behind lpar gap ps

-- ---- a word is `#PCDATA` or a name, and a name is not `#PCDATA`

text_stands : may_stand pcdata_word ≡ true
unfolding may_stand
text_stands = ap (λ (b : Bool). b || is_name pcdata_word) (same_refl pcdata_word)

name_stands : (x : List ℕ) → is_name x ≡ true → may_stand x ≡ true
unfolding may_stand
name_stands x e = go (same x pcdata_word)
  where
    go : (b : Bool) → (b || is_name x) ≡ true
    go true = refl
    go false = e

name_plain : (x : List ℕ) → is_name x ≡ true → is_plain x ≡ true
unfolding is_plain
name_plain x e = go (same x pcdata_word) refl
  where
    go : (b : Bool) → same x pcdata_word ≡ b → not b ≡ true
    go true q = absurd (false≢true (sym pcdata_no_name ∙ ap is_name (sym (same_is x pcdata_word q)) ∙ e))
    go false q = refl

plain_name : (x : List ℕ) → may_stand x ≡ true → is_plain x ≡ true → is_name x ≡ true
unfolding may_stand is_plain
plain_name x e g = go (same x pcdata_word) e g
  where
    go : (b : Bool) → (b || is_name x) ≡ true → not b ≡ true → is_name x ≡ true
    go true e g = absurd (false≢true g)
    go false e g = e

-- the words of a form may all stand
form_stands : (d : Form) (ts : List Token) → IsContent d.mixed d.factors ts → all_pass may_stand (word d.parent ∷ ts) ≡ all_form may_stand d
form_stands d ts M = form_pass may_stand (name_stands empty_word empty_name) text_stands d ts M

-- ---- what is taken has the form

abbrev Formed : List ℕ → Type 0
Formed text = (d : Form) × HasForm text d

cut_formed : (text t : List ℕ) → text ≡ opening ++ t → accepts before_parent true (cut t).gap (cut t).pieces ≡ true → Formed text
unfolding is_word
cut_formed text t o e =
    let ts = tokens (cut t).pieces in
    let a = (and_is (spaced (word opening) (cut t).gap (cut t).pieces) _).0 (sym (accepts_is before_parent (word opening) (cut t).gap (cut t).pieces) ∙ e) in
    let b = (and_is (all_pass may_stand ts) (walk before_parent ts)).0 a.1 in
    go (walk_sound ts b.1) (cut_sound (word opening) t a.0) b.0
  where
    go : ((d : Form) × (us : List Token) × (tokens (cut t).pieces ≡ word d.parent ∷ us) × IsContent d.mixed d.factors us × (all_form is_plain d ≡ true))
        → Spells (word opening) (tokens (cut t).pieces) t → all_pass may_stand (tokens (cut t).pieces) ≡ true → Formed text
    go (d, us, q, M, plain) s w =
        let stand = sym (form_stands d us M) ∙ ap (all_pass may_stand) (sym q) ∙ w in (
          d,
          record {
            good = λ x m. plain_name x ((all_law may_stand d).0 stand x m) ((all_law is_plain d).0 plain x m);
            spelled = record { rest = t; opens = o; tokens = us; model = M; spaced = subst (λ (l : List Token). Spells (word opening) l t) q s };
          },
        )

pub form_sound : (text : List ℕ) → has_form text ≡ true → Formed text
unfolding has_form accepts_rest
form_sound text e = go (strip opening text) refl e
  where
    go : (o : Option (List ℕ)) → strip opening text ≡ o → accepts_rest o ≡ true → Formed text
    go none q f = absurd (false≢true f)
    go (some t) q f = cut_formed text t (strip_is opening text t q) f

-- ---- what has the form is taken

proper_word : (w : List ℕ) → may_stand w ≡ true → Proper (word w)
unfolding may_stand
proper_word w e = go (same w pcdata_word) refl e
  where
    go : (b : Bool) → same w pcdata_word ≡ b → (b || is_name w) ≡ true → Proper (word w)
    go true q e = rw (same_is w pcdata_word q) pcdata_word_lem
    go false q e = name_word w e

proper_token : (t : Token) → passes may_stand t ≡ true → (token_kind t ≡ other_kind → ⊥) → Proper t
unfolding passes token_kind
proper_token (word w) e h = proper_word w e
proper_token lpar e h = tt
proper_token rpar e h = tt
proper_token comma e h = tt
proper_token bar e h = tt
proper_token end e h = tt
proper_token (mark m) e h = go (mark_kind_lem m)
  where
    go : MarkKind m → m < 3
    go (inl k) = absurd (h k)
    go (inr k) = k.1
proper_token (other b) e h = absurd (h refl)

proper_walk : (s : State) (ts : List Token) → all_pass may_stand ts ≡ true → walk s ts ≡ true → AllProper ts
unfolding all_pass walk
proper_walk s [] a w = tt
proper_walk s (t ∷ ts) a w =
    let b = (and_is (passes may_stand t) (all_pass may_stand ts)).0 a in
    (proper_token t b.0 (λ k. false≢true (sym (ap (λ (r : State). walk r ts) (ap (step s) k ∙ other_lost s) ∙ lost ts) ∙ w)), proper_walk (step s (token_kind t)) ts b.1 w)

module _ (text : List ℕ) (d : Form) (F : HasForm text d) where
  abbrev all : List Token
  all = word d.parent ∷ F.spelled.tokens

  words : all_pass may_stand all ≡ true
  words = form_stands d F.spelled.tokens F.spelled.model ∙ (all_law may_stand d).1 (λ x m. name_stands x (F.good x m))

  pub form_plain : all_form is_plain d ≡ true
  form_plain = (all_law is_plain d).1 (λ x m. name_plain x (F.good x m))

  walked : walk before_parent all ≡ true
  walked = walk_complete d F.spelled.tokens F.spelled.model form_plain

  cut_is : (tokens (cut F.spelled.rest).pieces ≡ all) × (spaced (word opening) (cut F.spelled.rest).gap (cut F.spelled.rest).pieces ≡ true)
  cut_is = cut_complete (word opening) all F.spelled.rest (proper_walk before_parent all words walked) F.spelled.spaced

  pub form_complete : has_form text ≡ true
  unfolding has_form accepts_rest is_word
  form_complete =
      let s : strip opening text ≡ some F.spelled.rest = ap (strip opening) F.spelled.opens ∙ strip_join opening F.spelled.rest in
      rw s
      (accepts_is before_parent (word opening) (cut F.spelled.rest).gap (cut F.spelled.rest).pieces
      ∙ rw (cut_is.1, cut_is.0, words) walked)

  -- its tokens are those behind the nine bytes of `<!ELEMENT`
  pub form_tokens : tokens (cut (drop 9 text)).pieces ≡ word d.parent ∷ F.spelled.tokens
  unfolding opening
  form_tokens = ap (λ (s : List ℕ). tokens (cut (drop 9 s)).pieces) F.spelled.opens ∙ cut_is.0
