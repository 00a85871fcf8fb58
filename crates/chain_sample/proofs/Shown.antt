-- The facts that a row keeps: whether they show a word, and what the chain asks of them.
-- Assumes nothing.
use Prim.Native.Nat.{ℕ, ◌-◌, ◌≤◌}
use mathlib.Core.Path.{◌≡◌, refl, sym, ap, subst, ◌∙◌}
use mathlib.Core.Bool.{Bool, true, false, ◌||◌, not}
use mathlib.Core.List.{List, [], ◌∷◌}
use mathlib.Core.Logic.{◌↔◌, inl, inr}
use native.Mathlib.Omega.{arith}
use lib.Dec.{eqb}
use lib.ListN.{length, get_or, take, drop, length-drop}
use lib.Seq.{take_all}
use borrow.Author.Tests.{eq-eqb, ne_eqb}
use Rattle.nameset.specs.Places.{places}
use Rattle.nameset.specs.declared.NameSet.{NameSet}
use Rattle.nameset.specs.Rows.{IsRows, row_at}
use Rattle.nameset.specs.Promise.{Emptiness}
use Rattle.model.specs.declared.Chain.{Chain}
use Rattle.model.specs.Record.{model_with}
use Rattle.model.specs.Accept.{Names}
use Rattle.follow.specs.declared.Facts.{Facts}
use Rattle.follow.specs.Follow.{Follow, some_word, begins_with, is_empty, follow_of}
use Rattle.follow.specs.View.{view_of, facts_with}
use Rattle.follow.specs.Sample.{Over}
use Rattle.follow.proofs.Laws.{facts_shown}
use Rattle.follow_row.specs.Row.{row_head, text_place, row_size, facts_in, text_in, OfWords}
use Rattle.chain_levels.specs.Below.{any_below}
use Rattle.chain_levels.specs.Chain.{chain_of}
use Rattle.chain_levels.proofs.Tests.{or_is, some_is, refuted, both_ways}
use Rattle.chain_peel.specs.Shown.{Shown}
use Rattle.chain_peel.proofs.Words.{shown_words}
use Rattle.chain_factors.proofs.Sets.{some_set}
use Rattle.chain_mixed.specs.Mixed.{mixed_chain, model_of}
use Rattle.chain_sample.specs.Sample.{model_of_words, show_word}

-- ---- whether the facts show a word

pub word_empty : (row : List ℕ) (n : ℕ) → get_or row 2 0 ≡ 1 → true ≡ show_word places (view_of n (facts_in row))
unfolding show_word facts_in
word_empty row n e = rw (eq-eqb (get_or row 2 0) 1 e)

pub word_starts : (row : List ℕ) (n : ℕ) (s : NameSet) (r : Bool) → (get_or row 2 0 ≡ 1 → ⊥) → s ≡ row_at row 0 → Emptiness s r → not r ≡ show_word places (view_of n (facts_in row))
unfolding show_word facts_in
word_starts row n s r d e em = rw (ne_eqb (get_or row 2 0) 1 d, ← e) (some_set s r em)

-- The facts of words show one exactly where there is one.
pub words_show : (size n : ℕ) (ws : List (List ℕ)) → n ≤ size → Over n ws → (show_word size (follow_of n ws) ≡ false) ↔ (ws ≡ [])
unfolding show_word some_word is_empty begins_with
words_show size n [] few over = (λ e. refl, λ e. refuted (any_below size (λ a. false)) (λ h. both_ways false ((some_is size (λ a. false)).0 h).2 refl))
words_show size n (w ∷ ws) few over = (λ e. absurd (both_ways _ (shown w over.0) e), λ e. absurd (let q : ◌≡◌ {A = ℕ} (length (w ∷ ws)) 0 = ap length e in omega arith))
  where
    shown : (w : List ℕ) → Names n w → ((is_empty w || some_word is_empty ws) || any_below size (λ a. begins_with a w || some_word (begins_with a) ws)) ≡ true
    shown [] h = refl
    shown (x ∷ w) h =
        (or_is (some_word is_empty ws) (any_below size (λ a. eqb a x || some_word (begins_with a) ws))).1
        (inr ((some_is size (λ a. eqb a x || some_word (begins_with a) ws)).1 (x, omega (arith, few, h.0), (or_is (eqb x x) (some_word (begins_with x) ws)).1 (inl (eq-eqb x x refl)))))

-- ---- with text and without

pub with_text_lem : (f : Follow) (row : List ℕ) (c : Chain) → get_or row text_place 0 ≡ 1 → c ≡ mixed_chain places f → model_with c 1 ≡ model_of places f (text_in row)
unfolding text_in model_of
with_text_lem f row c e h = rw (eq-eqb (get_or row text_place 0) 1 e) (ap (λ (d : Chain). model_with d 1) h)

pub without_text : (f : Follow) (row : List ℕ) (c : Chain) → ¬ (get_or row text_place 0 ≡ 1) → c ≡ chain_of places f → model_with c 0 ≡ model_of places f (text_in row)
unfolding text_in model_of
without_text f row c d h = rw (ne_eqb (get_or row text_place 0) 1 d) (ap (λ (e : Chain). model_with e 0) h)

-- ---- what the chain asks

-- the part behind the head, as the code takes it
rows_of : (row : List ℕ) → length row ≡ row_size → take (length row - row_head) (drop row_head row) ≡ drop row_head row
rows_of row l = take_all (length row - row_head) (drop row_head row) (let e : length (drop row_head row) ≡ length row - row_head = length-drop row_head row in omega arith)

-- the four facts, as the code takes them
pub facts_taken : (row : List ℕ) → length row ≡ row_size → (s e : NameSet) (f : List ℕ) → s ≡ row_at row 0 → e ≡ row_at row 1 →
    f ≡ take (length row - row_head) (drop row_head row) → facts_with s e f (eqb (get_or row 2 0) 1) ≡ facts_in row
unfolding facts_in
facts_taken row l s e f es ee ef = rw (es, ee, ef, rows_of row l)

pub rows_taken : (row : List ℕ) → length row ≡ row_size → (f : List ℕ) → f ≡ take (length row - row_head) (drop row_head row) → IsRows places f
rows_taken row l f e = let d : length (drop row_head row) ≡ length row - row_head = length-drop row_head row in ap length (e ∙ rows_of row l) ∙ d ∙ (let z : length row - row_head ≡ places = omega arith in z)

module _ (n : ℕ) (row : List ℕ) (few : n ≤ places) (kept : OfWords n row) where
  pub view_is : view_of n (facts_in row) ≡ follow_of n kept.words
  view_is = ap (view_of n) kept.facts ∙ facts_shown n kept.words few kept.over

  -- The model of a row is that of the words whose facts it keeps.
  pub model_is : (b : Bool) → model_of places (view_of n (facts_in row)) b ≡ model_of_words places n kept.words b
  unfolding model_of_words
  model_is b = ap (λ (f : Follow). model_of places f b) view_is

  pub shows_is : (show_word places (view_of n (facts_in row)) ≡ false) ↔ (kept.words ≡ [])
  shows_is = subst (λ (f : Follow). (show_word places f ≡ false) ↔ (kept.words ≡ [])) (sym view_is) (words_show places n kept.words few kept.over)

  pub facts_shown_in : (facts : Facts) → facts ≡ facts_in row → Shown (view_of n facts)
  facts_shown_in facts e = subst Shown (sym (ap (view_of n) e ∙ view_is)) (shown_words n kept.words kept.over)
