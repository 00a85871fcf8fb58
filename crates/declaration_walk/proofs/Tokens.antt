-- The tokens of a model, taken one after the other, fill the rows as its factors do.
-- Assumes nothing.
use Prim.Native.Nat.{ℕ, zero, suc}
use mathlib.Core.Path.{◌≡◌, refl, sym, ◌∙◌, ap}
use mathlib.Core.List.{List, [], ◌∷◌}
use mathlib.Core.Option.{Option, none, some}
use mathlib.Core.Logic.{inl, inr}
use lib.ListN.{drop}
use Rattle.declaration_spelling.specs.Token.{Token, end}
use Rattle.declaration_spelling.specs.House.{Factor}
use Rattle.declaration_spelling.specs.Spelled.{mark_tokens, bars_tokens, IsGroup, IsFactor, AreLater, IsPlain, IsMixed}
use Rattle.declaration_spelling.specs.Read.{number_for}
use Rattle.declaration_spelling.proofs.Record.{numbers_for, numbered}
use Rattle.declaration_walk.specs.Gather.{Rows, with_name, next_factor, with_mode, take_token, and_then, gather_from}
use Rattle.declaration_walk.proofs.Rows.{place_names, place_factor, place_others}

then_then : {A B C : Type 0} (o : Option A) (f : A → Option B) (k : B → Option C) → and_then (and_then o f) k ≡ and_then o (λ a. and_then (f a) k)
unfolding and_then
then_then none f k = refl
then_then (some a) f k = refl

then_same : {A B : Type 0} (o : Option A) (f k : A → Option B) → ((a : A) → f a ≡ k a) → and_then o f ≡ and_then o k
unfolding and_then
then_same none f k h = refl
then_same (some a) f k h = h a

module _ (size : ℕ) (names : List (List ℕ)) where
  abbrev gather : List Token → Rows → Option Rows
  gather ts g = gather_from size names ts g

  mark_taken : (m : ℕ) (ts : List Token) (g : Rows) → gather (mark_tokens m ts) g ≡ and_then (some (with_mode m g)) (gather ts)
  unfolding mark_tokens gather_from take_token and_then with_mode
  mark_taken zero ts g = refl
  mark_taken (suc m) ts g = refl

  bars_taken : (xs : List (List ℕ)) (ts : List Token) (g : Rows) → gather (bars_tokens xs ts) g ≡ and_then (place_names (numbers_for names xs) g) (gather ts)
  unfolding bars_tokens numbers_for place_names gather_from take_token and_then
  bars_taken [] ts g = refl
  bars_taken (x ∷ xs) ts g =
      then_same (with_name (number_for names x) g) (gather (bars_tokens xs ts)) (λ h. and_then (place_names (numbers_for names xs) h) (gather ts)) (bars_taken xs ts)
      ∙ sym (then_then (with_name (number_for names x) g) (place_names (numbers_for names xs)) (gather ts))

  abbrev pub by_number : Factor (List ℕ) → Factor ℕ
  by_number f = record { names = numbers_for names f.names; mode = f.mode }

  -- a factor's names and then its mark
  marked_taken : (f : Factor (List ℕ)) (ts : List Token) (g : Rows) → and_then (place_names (numbers_for names f.names) g) (gather (mark_tokens f.mode ts)) ≡ and_then (place_factor (by_number f) g) (gather ts)
  unfolding place_factor
  marked_taken f ts g =
      then_same (place_names (numbers_for names f.names) g) (gather (mark_tokens f.mode ts)) (λ h. and_then (some (with_mode f.mode h)) (gather ts)) (mark_taken f.mode ts)
      ∙ sym (then_then (place_names (numbers_for names f.names) g) (λ h. some (with_mode f.mode h)) (gather ts))

  -- a first name and those behind it
  names_taken : (x : List ℕ) (xs : List (List ℕ)) (ts : List Token) (g : Rows) → and_then (with_name (number_for names x) g) (gather (bars_tokens xs ts)) ≡ and_then (place_names (numbers_for names (x ∷ xs)) g) (gather ts)
  unfolding numbers_for place_names
  names_taken x xs ts g =
      then_same (with_name (number_for names x) g) (gather (bars_tokens xs ts)) (λ h. and_then (place_names (numbers_for names xs) h) (gather ts)) (bars_taken xs ts)
      ∙ sym (then_then (with_name (number_for names x) g) (place_names (numbers_for names xs)) (gather ts))

  one_taken : (x : List ℕ) (ts : List Token) (g : Rows) → and_then (with_name (number_for names x) g) (gather ts) ≡ and_then (place_names (numbers_for names (x ∷ [])) g) (gather ts)
  unfolding numbers_for place_names and_then
  one_taken x ts g = sym (then_then (with_name (number_for names x) g) (place_names []) (gather ts))

  group_taken : (f : Factor (List ℕ)) (after ts : List Token) (g : Rows) → IsGroup f after ts → gather ts g ≡ and_then (place_factor (by_number f) g) (gather after)
  unfolding gather_from take_token and_then
  group_taken f after ts g (x, xs, e, l, q) = rw q (names_taken x xs (mark_tokens f.mode after) g ∙ rw (← e) (marked_taken f after g))

  factor_taken : (f : Factor (List ℕ)) (after ts : List Token) (g : Rows) → IsFactor f after ts → gather ts g ≡ and_then (place_factor (by_number f) g) (gather after)
  unfolding gather_from take_token and_then
  factor_taken f after ts g (inl (x, e, l, q)) = rw q (one_taken x (mark_tokens f.mode after) g ∙ rw (← e) (marked_taken f after g))
  factor_taken f after ts g (inr G) = group_taken f after ts g G

  later_taken : (fs : List (Factor (List ℕ))) (ts : List Token) (g : Rows) → AreLater fs ts → gather ts g ≡ place_others size (numbered names fs) g
  unfolding numbered place_others gather_from take_token and_then
  later_taken [] ts g e = rw e
  later_taken (f ∷ fs) ts g (us, after, e, F, L) =
      rw e
      (then_same (next_factor size g) (gather us) (λ h. and_then (place_factor (by_number f) h) (place_others size (numbered names fs)))
      (λ h. factor_taken f after us h F ∙ then_same (place_factor (by_number f) h) (gather after) (place_others size (numbered names fs)) (λ k. later_taken fs after k L)))

  end_taken : (g : Rows) → gather (end ∷ []) g ≡ place_others size (numbered names []) g
  unfolding gather_from take_token and_then place_others numbered
  end_taken g = refl

  -- a model without text that has a factor
  pub model_taken : (f : Factor (List ℕ)) (fs : List (Factor (List ℕ))) (ts : List Token) (g : Rows) → IsPlain (f ∷ fs) ts →
      gather_from size names ts g ≡ and_then (place_factor (by_number f) g) (place_others size (numbered names fs))
  unfolding gather_from take_token and_then
  model_taken f fs ts g (inl (us, after, e, F, L)) =
      rw e (factor_taken f after us g F ∙ then_same (place_factor (by_number f) g) (gather after) (place_others size (numbered names fs)) (λ k. later_taken fs after k L))
  model_taken f fs ts g (inr (e, G)) = rw e (group_taken f (end ∷ []) ts g G ∙ then_same (place_factor (by_number f) g) (gather (end ∷ [])) (place_others size (numbered names [])) end_taken)

  -- what stands behind `(#PCDATA` in a model that has a factor
  pub mixed_taken : (f : Factor (List ℕ)) (fs : List (Factor (List ℕ))) (ts : List Token) (g : Rows) → IsMixed (f ∷ fs) ts →
      gather_from size names (drop 2 ts) g ≡ and_then (place_factor (by_number f) g) (place_others size (numbered names fs))
  unfolding mark_tokens
  mixed_taken f fs ts g (e, l, (x, xs, q, r)) =
      let k : bars_tokens (x ∷ xs) (mark_tokens 3 (end ∷ [])) ≡ bars_tokens f.names (mark_tokens f.mode (end ∷ [])) = rw (q, l) in
      ap (λ (us : List Token). gather (drop 2 us) g) r ∙ ap (λ (us : List Token). gather us g) k
      ∙ bars_taken f.names (mark_tokens f.mode (end ∷ [])) g
      ∙ marked_taken f (end ∷ []) g
      ∙ then_same (place_factor (by_number f) g) (gather (end ∷ [])) (place_others size (numbered names [])) end_taken
      ∙ ap (λ (gs : List (Factor (List ℕ))). and_then (place_factor (by_number f) g) (place_others size (numbered names gs))) (sym e)
