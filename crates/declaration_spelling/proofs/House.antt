-- House spelling is a spelling.
-- Assumes nothing.
use Prim.Native.Nat.{ℕ, zero, suc, ◌+◌, ◌≤◌, ◌<◌}
use mathlib.Core.Path.{◌≡◌, refl, sym, ◌∙◌, ap, subst}
use mathlib.Core.Bool.{Bool, true, false, cond, false≢true}
use mathlib.Core.List.{List, [], ◌∷◌, ◌++◌}
use mathlib.Core.Logic.{◌⊎◌, inl, inr}
use native.Mathlib.Omega.{arith}
use native.Mathlib.Decide.{ℕ_discrete, dec_lt}
use lib.Dec.{eqb}
use lib.ListN.{length}
use borrow.Author.Tests.{eq-eqb, ne_eqb}
use Rattle.model.specs.declared.Chain.{Chain}
use Rattle.model.specs.declared.Model.{Model}
use Rattle.model.specs.Record.{factor_of, IsChain, IsModel}
use Rattle.declaration_spelling.specs.Token.{Token, word, lpar, rpar, comma, end, mark, mark_byte, spell, behind, room, Fits, Spells}
use Rattle.declaration_spelling.specs.House.{Factor, members, factors_from, factors_of, name_at, named, empty_word, pcdata_word, mark_text, bars_text, group_text, factor_text, others_text, body_text, mixed_text, content_text, house_text, declaration}
use Rattle.declaration_spelling.specs.Spelled.{mark_tokens, bars_tokens, IsFactor, AreLater, IsPlain, IsMixed, IsContent, SpelledBy, times, Reordered, Spelled}
use Rattle.declaration_spelling.proofs.Bytes.{space_is}
use Rattle.declaration_spelling.proofs.Shape.{Full, Small, Goes, order_goes, full_named, small_named, goes_named}
use Rattle.declaration_spelling.proofs.Numbers.{order_full, order_small}

-- whatever stands before, the text spells the tokens
abbrev Anyhow : List Token → List ℕ → Type 0
Anyhow ts k = (u : Token) → Spells u ts k

mark_spelled : (m : ℕ) (ts : List Token) (k : List ℕ) → Anyhow ts k → Anyhow (mark_tokens m ts) (mark_text m k)
unfolding mark_tokens mark_text spell mark_byte room
mark_spelled zero ts k h u = h u
mark_spelled (suc m) ts k h u = ([], k, refl, tt, refl, h (mark m))

bars_spelled : (xs : List (List ℕ)) (ts : List Token) (k : List ℕ) → Anyhow ts k → Anyhow (bars_tokens xs ts) (bars_text xs k)
unfolding bars_tokens bars_text spell room behind
bars_spelled [] ts k h u = ([], k, refl, tt, tt, h rpar)
bars_spelled (x ∷ xs) ts k h u = ([], x ++ bars_text xs k, refl, tt, tt, ([], bars_text xs k, refl, tt, tt, bars_spelled xs ts k h (word x)))

-- right behind a token that asks for no white space
abbrev Behind : List Token → List ℕ → Type 0
Behind ts k = (u : Token) → Fits (behind u) [] → Spells u ts k

factor_spelled : (f : Factor (List ℕ)) (ns : List (List ℕ)) (x : List ℕ) (xs : List (List ℕ)) → f.names ≡ ns → ns ≡ x ∷ xs → f.mode ≤ 3 →
    (ts : List Token) (k : List ℕ) → Anyhow ts k → (us : List Token) × IsFactor f ts us × Behind us (group_text ns (mark_text f.mode k))
unfolding group_text spell room behind
factor_spelled f [] x xs e q l ts k h = absurd (false≢true cc)
factor_spelled f (y ∷ []) x xs e q l ts k h = (
  word y ∷ mark_tokens f.mode ts,
  inl (y, e, l, refl),
  λ u g. ([], mark_text f.mode k, refl, tt, g, mark_spelled f.mode ts k h (word y)),
)
factor_spelled f (y ∷ z ∷ zs) x xs e q l ts k h =
    let more = bars_spelled (z ∷ zs) (mark_tokens f.mode ts) (mark_text f.mode k) (mark_spelled f.mode ts k h) (word y) in (
      lpar ∷ word y ∷ bars_tokens (z ∷ zs) (mark_tokens f.mode ts),
      inr (y, z ∷ zs, e, l, refl),
      λ u g. ([], y ++ bars_text (z ∷ zs) (mark_text f.mode k), refl, tt, g, ([], bars_text (z ∷ zs) (mark_text f.mode k), refl, tt, tt, more)),
    )

others_spelled : (fs : List (Factor (List ℕ))) → Full fs → Small fs → (ts : List Token) × AreLater fs ts × Anyhow ts (others_text fs)
unfolding others_text factor_text spell room behind
others_spelled [] u s = (rpar ∷ end ∷ [], refl, λ t. ([], 62 ∷ [], refl, tt, tt, ([], [], refl, tt, tt, refl)))
others_spelled (f ∷ fs) ((x, xs, e), u) s =
    let (after, L, h) = others_spelled fs u s.1 in
    let (us, F, g) = factor_spelled f f.names x xs refl e s.0 after (others_text fs) h in
    (comma ∷ us, (us, after, refl, F, L), λ t. ([], factor_text f (others_text fs), refl, tt, tt, g comma tt))

body_spelled : (w : List ℕ) (fs : List (Factor (List ℕ))) → Full fs → Small fs → (ts : List Token) × IsPlain fs ts × Spells (word w) ts (32 ∷ body_text fs)
unfolding body_text factor_text spell room behind
body_spelled w [] u s = (word empty_word ∷ end ∷ [], refl, (32 ∷ [], 62 ∷ [], refl, (space_is, tt), (32, [], refl), ([], [], refl, tt, tt, refl)))
body_spelled w (f ∷ fs) ((x, xs, e), u) s =
    let (after, L, h) = others_spelled fs u s.1 in
    let (us, F, g) = factor_spelled f f.names x xs refl e s.0 after (others_text fs) h in
    (lpar ∷ us, inl (us, after, refl, F, L), (32 ∷ [], factor_text f (others_text fs), refl, (space_is, tt), (32, [], refl), g lpar tt))

-- `(#PCDATA` and what stands behind it, behind a word and a space
text_spelled : (w : List ℕ) (ts : List Token) (k : List ℕ) → Anyhow ts k → Spells (word w) (lpar ∷ word pcdata_word ∷ ts) (32 ∷ 40 ∷ (pcdata_word ++ k))
unfolding spell room behind
text_spelled w ts k h = (32 ∷ [], pcdata_word ++ k, refl, (space_is, tt), (32, [], refl), ([], k, refl, tt, tt, h (word pcdata_word)))

mixed_spelled : (w : List ℕ) (fs : List (Factor (List ℕ))) → Full fs → Goes 1 fs → (ts : List Token) × IsMixed fs ts × Spells (word w) ts (32 ∷ mixed_text fs)
unfolding mixed_text spell room behind mark_byte
mixed_spelled w [] u g = (
  lpar ∷ word pcdata_word ∷ rpar ∷ end ∷ [],
  inl refl,
  text_spelled w (rpar ∷ end ∷ []) (41 ∷ 62 ∷ []) (λ t. ([], 62 ∷ [], refl, tt, tt, ([], [], refl, tt, tt, refl))),
)
mixed_spelled w (f ∷ fs) ((x, xs, e), u) (q, star) = (
  lpar ∷ word pcdata_word ∷ bars_tokens (x ∷ xs) (mark 2 ∷ end ∷ []),
  (q, star, (x, xs, e, refl)),
  subst (λ (ns : List (List ℕ)). Spells (word w) (lpar ∷ word pcdata_word ∷ bars_tokens (x ∷ xs) (mark 2 ∷ end ∷ [])) (32 ∷ 40 ∷ (pcdata_word ++ bars_text ns (42 ∷ 62 ∷ [])))) (sym e)
      (text_spelled w (bars_tokens (x ∷ xs) (mark 2 ∷ end ∷ [])) (bars_text (x ∷ xs) (42 ∷ 62 ∷ []))
      (bars_spelled (x ∷ xs) (mark 2 ∷ end ∷ []) (42 ∷ 62 ∷ []) (λ t. ([], 62 ∷ [], refl, tt, refl, ([], [], refl, tt, tt, refl))))),
)

content_spelled : (w : List ℕ) (t : ℕ) (fs : List (Factor (List ℕ))) → Full fs → Small fs → Goes t fs
    → (ts : List Token) × IsContent t fs ts × Spells (word w) ts (32 ∷ content_text t fs)
unfolding content_text
content_spelled w zero fs u s g = body_spelled w fs u s
content_spelled w (suc zero) fs u s g = mixed_spelled w fs u g
content_spelled w (suc (suc t)) fs u s g = absurd g

head_spelled : (w : List ℕ) (t : ℕ) (fs : List (Factor (List ℕ))) → Full fs → Small fs → Goes t fs → SpelledBy w t fs (house_text w t fs)
unfolding house_text spell room behind
head_spelled w t fs u s g =
    let (ts, M, h) = content_spelled w t fs u s g in
    record {
      rest = 32 ∷ (w ++ (32 ∷ content_text t fs));
      opens = refl;
      tokens = ts;
      model = M;
      spaced = (32 ∷ [], 32 ∷ content_text t fs, refl, (space_is, tt), (32, [], refl), h);
    }

-- the members of a factor are its names, each once
members_out : (m : Chain) (i x r k : ℕ) → (x < k) ⊎ (k + r ≤ x) → times x (members m i k r) ≡ 0
unfolding members times
members_out m i x zero k h = refl
members_out m i x (suc r) k h = go (eqb (factor_of m k) i) (members_out m i x r (suc k) (shift h))
  where
    shift : (x < k) ⊎ (k + suc r ≤ x) → (x < suc k) ⊎ (suc k + r ≤ x)
    shift (inl a) = inl (omega arith)
    shift (inr a) = inr (omega arith)

    apart_from : (x < k) ⊎ (k + suc r ≤ x) → x ≡ k → ⊥
    apart_from (inl a) e = omega arith
    apart_from (inr a) e = omega arith

    go : (b : Bool) → times x (members m i (suc k) r) ≡ 0 → times x (cond b (k ∷ members m i (suc k) r) (members m i (suc k) r)) ≡ 0
    go true ih = rw (ne_eqb x k (apart_from h)) ih
    go false ih = ih

members_in : (m : Chain) (i x r k : ℕ) → k ≤ x → x < k + r → times x (members m i k r) ≡ cond (eqb (factor_of m x) i) 1 0
unfolding members times
members_in m i x zero k h l = absurd (omega arith)
members_in m i x (suc r) k h l = go (ℕ_discrete x k) (λ d. members_in m i x r (suc k) d (omega arith))
  where
    here : (b : Bool) → times k (members m i (suc k) r) ≡ 0 → times k (cond b (k ∷ members m i (suc k) r) (members m i (suc k) r)) ≡ cond b 1 0
    here true e = rw (eq-eqb k k refl) (ap suc e)
    here false e = e

    further : (b : Bool) → (x ≡ k → ⊥) → times x (cond b (k ∷ members m i (suc k) r) (members m i (suc k) r)) ≡ times x (members m i (suc k) r)
    further true d = rw (ne_eqb x k d)
    further false d = refl

    go : Dec (x ≡ k) → (suc k ≤ x → times x (members m i (suc k) r) ≡ cond (eqb (factor_of m x) i) 1 0)
        → times x (cond (eqb (factor_of m k) i) (k ∷ members m i (suc k) r) (members m i (suc k) r)) ≡ cond (eqb (factor_of m x) i) 1 0
    go (yes e) ih = rw e (here (eqb (factor_of m k) i) (members_out m i k r (suc k) (inl (omega arith))))
    go (no d) ih = further (eqb (factor_of m k) i) d ∙ ih (omega arith)

module _ (size n : ℕ) (fits : size ≤ 255) (m : Chain) (c : IsChain size n m) where
  members_all : (i x : ℕ) → i < m.count → times x (members m i 0 n) ≡ cond (eqb (factor_of m x) i) 1 0
  members_all i x l = go (dec_lt x n)
    where
      go : Dec (x < n) → times x (members m i 0 n) ≡ cond (eqb (factor_of m x) i) 1 0
      go (yes h) = members_in m i x n 0 (omega arith) (omega arith)
      go (no h) =
          members_out m i x n 0 (inr (omega arith))
          ∙ sym (ap (λ (b : Bool). cond {A = ℕ} b 1 0) (ne_eqb (factor_of m x) i (λ e. omega (arith, c.others x (omega arith), c.few))))

  pub house_order : (r i : ℕ) → i + r ≡ m.count → Reordered m i (factors_from m n i r)
  unfolding factors_from
  house_order zero i e = omega arith
  house_order (suc r) i e = (omega arith, refl, λ x. members_all i x (omega arith), house_order r (suc i) (omega arith))

-- the house spelling of a model is a spelling of it
pub house_spelled : (size : ℕ) (names : List (List ℕ)) (p : ℕ) (m : Model) → size ≤ 255 → p < length names → IsModel size (length names) m → Spelled size names (declaration names p m) p m
unfolding declaration factors_of
house_spelled size names p m fits l is =
    let n = length names in
    let c = m.chain in
    let fs = factors_from c n 0 c.count in
    let o = house_order size n fits c is.chain c.count 0 (omega arith) in
    let full = full_named names fs (order_full size n fits c is.chain 0 fs o) in
    let small = small_named names fs (order_small size n fits c is.chain 0 fs o) in
    let goes = goes_named names m.text fs (order_goes c m.text fs o is.text) in
    record {
      parent = l;
      model = is;
      factors = fs;
      order = o;
      spelled = head_spelled (name_at names p) m.text (named names fs) full small goes;
    }
