-- Every word of a model's tokens passes a test exactly when every name of its factors does.
-- Assumes nothing.
use Prim.Native.Nat.{ℕ, zero, suc}
use mathlib.Core.Path.{◌≡◌, refl, ◌∙◌, ap}
use mathlib.Core.Bool.{Bool, true, false, ◌&&◌}
use mathlib.Core.List.{List, [], ◌∷◌}
use mathlib.Core.Logic.{inl, inr}
use lib.ListN.{drop}
use Rattle.declaration_spelling.specs.Token.{Token, word, end}
use Rattle.declaration_spelling.specs.House.{Factor, empty_word, pcdata_word}
use Rattle.declaration_spelling.specs.Spelled.{mark_tokens, bars_tokens, IsGroup, IsFactor, AreLater, IsPlain, IsMixed, IsContent}
use Rattle.declaration_spelling.specs.Stops.{Form}
use Rattle.declaration_spelling.proofs.Record.{all_names, all_factors, all_form}
use Rattle.declaration_walk.specs.Walk.{passes, all_pass}

and_assoc : (a b c : Bool) → (a && (b && c)) ≡ ((a && b) && c)
and_assoc true b c = refl
and_assoc false b c = refl

module _ (test : List ℕ → Bool) where
  mark_pass : (m : ℕ) (ts : List Token) → all_pass test (mark_tokens m ts) ≡ all_pass test ts
  unfolding all_pass passes mark_tokens
  mark_pass zero ts = refl
  mark_pass (suc m) ts = refl

  bars_pass : (xs : List (List ℕ)) (ts : List Token) → all_pass test (bars_tokens xs ts) ≡ (all_names test xs && all_pass test ts)
  unfolding all_pass passes bars_tokens all_names
  bars_pass [] ts = refl
  bars_pass (x ∷ xs) ts = ap (λ (b : Bool). test x && b) (bars_pass xs ts) ∙ and_assoc (test x) (all_names test xs) (all_pass test ts)

  group_pass : (f : Factor (List ℕ)) (after ts : List Token) → IsGroup f after ts → all_pass test ts ≡ (all_names test f.names && all_pass test after)
  unfolding all_pass passes all_names
  group_pass f after ts (x, xs, e, l, q) =
      rw (q, e, bars_pass xs (mark_tokens f.mode after), mark_pass f.mode after) (and_assoc (test x) (all_names test xs) (all_pass test after))

  factor_pass : (f : Factor (List ℕ)) (after ts : List Token) → IsFactor f after ts → all_pass test ts ≡ (all_names test f.names && all_pass test after)
  unfolding all_pass passes all_names
  factor_pass f after ts (inl (x, e, l, q)) = rw (q, e, mark_pass f.mode after) (and_assoc (test x) true (all_pass test after))
  factor_pass f after ts (inr G) = group_pass f after ts G

  later_pass : (fs : List (Factor (List ℕ))) (ts : List Token) → AreLater fs ts → all_pass test ts ≡ all_factors test fs
  unfolding all_pass passes all_factors
  later_pass [] ts e = rw e
  later_pass (f ∷ fs) ts (us, after, e, F, L) = rw e (factor_pass f after us F ∙ ap (λ (b : Bool). all_names test f.names && b) (later_pass fs after L))

  end_pass : all_pass test (end ∷ []) ≡ all_factors test []
  unfolding all_pass passes all_factors
  end_pass = refl

  -- a model without text that has a factor
  pub model_pass : (f : Factor (List ℕ)) (fs : List (Factor (List ℕ))) (ts : List Token) → IsPlain (f ∷ fs) ts → all_pass test ts ≡ all_factors test (f ∷ fs)
  unfolding all_pass passes all_factors
  model_pass f fs ts (inl (us, after, e, F, L)) = rw e (factor_pass f after us F ∙ ap (λ (b : Bool). all_names test f.names && b) (later_pass fs after L))
  model_pass f fs ts (inr (e, G)) = rw e (group_pass f (end ∷ []) ts G ∙ ap (λ (b : Bool). all_names test f.names && b) end_pass)

  -- any without text, where `EMPTY` passes
  pub plain_pass : test empty_word ≡ true → (fs : List (Factor (List ℕ))) (ts : List Token) → IsPlain fs ts → all_pass test ts ≡ all_factors test fs
  unfolding all_pass passes all_factors
  plain_pass e [] ts q = rw (q, e)
  plain_pass e (f ∷ fs) ts M = model_pass f fs ts M

  -- what stands behind `(#PCDATA`
  pub mixed_pass : (fs : List (Factor (List ℕ))) (ts : List Token) → IsMixed fs ts → all_pass test (drop 2 ts) ≡ all_factors test fs
  unfolding all_pass passes all_factors
  mixed_pass [] ts (inl e) = rw e
  mixed_pass [] ts (inr e) = rw e
  mixed_pass (f ∷ fs) ts (e, l, (x, xs, q, r)) = rw (r, e, q) (bars_pass (x ∷ xs) _)

  -- a model with text, where `#PCDATA` passes
  whole_pass : test pcdata_word ≡ true → (fs : List (Factor (List ℕ))) (ts : List Token) → IsMixed fs ts → all_pass test ts ≡ all_pass test (drop 2 ts)
  unfolding all_pass passes
  whole_pass p [] ts (inl e) = rw (e, p)
  whole_pass p [] ts (inr e) = rw (e, p)
  whole_pass p (f ∷ fs) ts (e, l, (x, xs, q, r)) = rw (r, p)

  content_pass : test empty_word ≡ true → test pcdata_word ≡ true → (t : ℕ) (fs : List (Factor (List ℕ))) (ts : List Token) → IsContent t fs ts → all_pass test ts ≡ all_factors test fs
  content_pass e p zero fs ts M = plain_pass e fs ts M
  content_pass e p (suc zero) fs ts M = whole_pass p fs ts M ∙ mixed_pass fs ts M
  content_pass e p (suc (suc t)) fs ts M = absurd M

  -- the whole, where `EMPTY` and `#PCDATA` pass
  pub form_pass : test empty_word ≡ true → test pcdata_word ≡ true → (d : Form) (ts : List Token) → IsContent d.mixed d.factors ts → all_pass test (word d.parent ∷ ts) ≡ all_form test d
  unfolding all_pass passes all_form
  form_pass e p d ts M = ap (λ (b : Bool). test d.parent && b) (content_pass e p d.mixed d.factors ts M)
