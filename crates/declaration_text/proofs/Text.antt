-- The parts written from left to right are the house spelling.
-- Assumes nothing.
use Prim.Native.Nat.{ℕ, zero, suc}
use mathlib.Core.Path.{◌≡◌, refl, sym, ◌∙◌, ap, subst}
use mathlib.Core.Bool.{Bool, true, false, cond}
use mathlib.Core.List.{List, [], ◌∷◌, ◌++◌, append_assoc, append-nil}
use native.Mathlib.Omega.{arith}
use lib.Dec.{eqb, ltb}
use lib.ListN.{length}
use borrow.Author.Tests.{lt-ltb, ne_eqb}
use Rattle.nameset.specs.Places.{places}
use Rattle.model.specs.declared.Chain.{Chain}
use Rattle.model.specs.declared.Model.{Model}
use Rattle.model.specs.Record.{mode_of, IsModel}
use Rattle.declaration_spelling.specs.Token.{mark_byte}
use Rattle.declaration_spelling.specs.House.{members, factors_from, factors_of, name_at, names_at, named, opening, empty_word, pcdata_word, mark_text, bars_text, group_text, factor_text, others_text, body_text, mixed_text, content_text, house_text, declaration}
use Rattle.declaration_spelling.proofs.Shape.{Full}
use Rattle.declaration_spelling.proofs.House.{house_order}
use Rattle.declaration_spelling.proofs.Numbers.{order_full}
use Rattle.byte_buffer.specs.Put.{shown}
use Rattle.declaration_factor.specs.Parts.{lead_byte, close_byte, mode_byte, before_byte, names_text, leads, many_in, part_text, factors_text, body_part, mixed_end, mixed_part, content_part, text_of}
use Rattle.declaration_factor.proofs.Rising.{names_leads}

bars_leads : (xs : List (List ℕ)) (after : List ℕ) → bars_text xs after ≡ leads true true xs ++ (41 ∷ after)
unfolding bars_text leads shown lead_byte
bars_leads [] after = refl
bars_leads (x ∷ xs) after =
    ap (λ (t : List ℕ). 124 ∷ t) (ap (λ (t : List ℕ). x ++ t) (bars_leads xs after) ∙ sym (append_assoc x (leads true true xs) (41 ∷ after)))

group_leads : (x : List ℕ) (xs : List (List ℕ)) (after : List ℕ) →
    group_text (x ∷ xs) after ≡ leads (ltb 1 (suc (length xs))) false (x ∷ xs) ++ (shown (close_byte (ltb 1 (suc (length xs)))) ++ after)
unfolding group_text leads shown lead_byte close_byte
group_leads x [] after = sym (ap (λ (t : List ℕ). t ++ after) (append-nil x))
group_leads x (y ∷ xs) after =
    let e : ltb 1 (suc (length (y ∷ xs))) ≡ true = lt-ltb 1 (suc (length (y ∷ xs))) (omega arith) in
    subst (λ (b : Bool). group_text (x ∷ y ∷ xs) after ≡ leads b false (x ∷ y ∷ xs) ++ (shown (close_byte b) ++ after)) (sym e)
    (ap (λ (t : List ℕ). 40 ∷ t) (ap (λ (t : List ℕ). x ++ t) (bars_leads (y ∷ xs) after) ∙ sym (append_assoc x (leads true true (y ∷ xs)) (41 ∷ after))))

mark_shown : (m : ℕ) (after : List ℕ) → mark_text m after ≡ shown (mode_byte m) ++ after
unfolding mark_text shown mode_byte mark_byte
mark_shown zero after = refl
mark_shown (suc zero) after = refl
mark_shown (suc (suc zero)) after = refl
mark_shown (suc (suc (suc m))) after = refl

names_count : (names : List (List ℕ)) (xs : List ℕ) → length (names_at names xs) ≡ length xs
unfolding names_at
names_count names [] = refl
names_count names (x ∷ xs) = ap suc (names_count names xs)

-- one factor, where it has a name
group_members : (names : List (List ℕ)) (xs : List ℕ) (y : ℕ) (ys : List ℕ) → xs ≡ y ∷ ys → (after : List ℕ) →
    group_text (names_at names xs) after ≡ leads (ltb 1 (length xs)) false (names_at names xs) ++ (shown (close_byte (ltb 1 (length xs))) ++ after)
unfolding names_at
group_members names xs y ys e after =
    rw e (group_leads (name_at names y) (names_at names ys) after
    ∙ ap (λ (n : ℕ). leads (ltb 1 (suc n)) false (name_at names y ∷ names_at names ys) ++ (shown (close_byte (ltb 1 (suc n))) ++ after)) (names_count names ys))

part_is : (names : List (List ℕ)) (n : ℕ) (m : Chain) (i y : ℕ) (ys : List ℕ) → members m i 0 n ≡ y ∷ ys → (after : List ℕ) →
    group_text (names_at names (members m i 0 n)) (mark_text (mode_of m i) after) ≡ part_text names n m i ++ after
unfolding part_text many_in
part_is names n m i y ys e after =
    let L = leads (ltb 1 (length (members m i 0 n))) false (names_at names (members m i 0 n)) in
    let S = shown (close_byte (ltb 1 (length (members m i 0 n)))) in
    let M = shown (mode_byte (mode_of m i)) in
    group_members names (members m i 0 n) y ys e (mark_text (mode_of m i) after)
    ∙ ap (λ (t : List ℕ). L ++ (S ++ t)) (mark_shown (mode_of m i) after)
    ∙ ap (λ (t : List ℕ). L ++ t) (sym (append_assoc S M after))
    ∙ sym (append_assoc L (S ++ M) after)
    ∙ ap (λ (t : List ℕ). (t ++ (S ++ M)) ++ after) (sym (names_leads names m i (ltb 1 (length (members m i 0 n))) false 0 n))

-- the factors behind the first
others_are : (names : List (List ℕ)) (n : ℕ) (m : Chain) (i r : ℕ) → Full (factors_from m n (suc i) r) →
    others_text (named names (factors_from m n (suc i) r)) ≡ factors_text names n m (suc i) r ++ (41 ∷ 62 ∷ [])
unfolding others_text named factors_from factors_text factor_text shown before_byte
others_are names n m i zero f = refl
others_are names n m i (suc r) ((y, ys, e), f) =
    ap (λ (t : List ℕ). 44 ∷ t)
    (part_is names n m (suc i) y ys e _
    ∙ ap (λ (t : List ℕ). part_text names n m (suc i) ++ t) (others_are names n m (suc i) r f)
    ∙ sym (append_assoc (part_text names n m (suc i)) (factors_text names n m (suc (suc i)) r) (41 ∷ 62 ∷ [])))

body_is : (names : List (List ℕ)) (n : ℕ) (m : Chain) (r : ℕ) → Full (factors_from m n 0 r) →
    body_text (named names (factors_from m n 0 r)) ≡ cond (eqb r 0) empty_word (factors_text names n m 0 r ++ shown 41) ++ shown 62
unfolding body_text named factors_from factors_text factor_text shown before_byte
body_is names n m zero f = refl
body_is names n m (suc r) ((y, ys, e), f) =
    let z : eqb (suc r) 0 ≡ false = ne_eqb (suc r) 0 (λ q. omega arith) in
    let P = part_text names n m 0 in
    let R = factors_text names n m 1 r in
    rw z (ap (λ (t : List ℕ). 40 ∷ t)
    (part_is names n m 0 y ys e _
    ∙ ap (λ (t : List ℕ). P ++ t) (others_are names n m 0 r f)
    ∙ sym (append_assoc P R (41 ∷ 62 ∷ []))
    ∙ sym (append_assoc (P ++ R) (41 ∷ []) (62 ∷ []))))

-- with text: the names of factor 0, each behind `|`
mixed_is : (names : List (List ℕ)) (n : ℕ) (m : Chain) (r : ℕ) →
    mixed_text (named names (factors_from m n 0 r)) ≡ ((40 ∷ pcdata_word) ++ cond (eqb r 0) (shown 41) (names_text names m 0 true true 0 n ++ (41 ∷ 42 ∷ []))) ++ shown 62
unfolding mixed_text named factors_from pcdata_word shown
mixed_is names n m zero = refl
mixed_is names n m (suc r) =
    let z : eqb (suc r) 0 ≡ false = ne_eqb (suc r) 0 (λ q. omega arith) in
    let N = names_text names m 0 true true 0 n in
    rw z (ap (λ (t : List ℕ). (40 ∷ pcdata_word) ++ t)
    (bars_leads (names_at names (members m 0 0 n)) (42 ∷ 62 ∷ [])
    ∙ ap (λ (t : List ℕ). t ++ (41 ∷ 42 ∷ 62 ∷ [])) (sym (names_leads names m 0 true true 0 n))
    ∙ sym (append_assoc N (41 ∷ 42 ∷ []) (62 ∷ []))))

content_is : (names : List (List ℕ)) (n t : ℕ) (m : Chain) → Full (factors_from m n 0 m.count) →
    content_text t (named names (factors_from m n 0 m.count)) ≡ cond (eqb t 0) (body_part names n m) (mixed_part names n m) ++ shown 62
unfolding content_text body_part mixed_part mixed_end
content_is names n zero m f = body_is names n m m.count f
content_is names n (suc t) m f = rw (ne_eqb (suc t) 0 (λ q. omega arith)) (mixed_is names n m m.count)

-- what is written for a model is its declaration
pub text_is : (names : List (List ℕ)) (p : ℕ) (m : Model) → IsModel places (length names) m → text_of names (length names) p m ≡ declaration names p m
unfolding text_of declaration house_text factors_of content_part opening shown
text_is names p m is =
    let n = length names in
    let c = m.chain in
    let full = order_full places n (omega arith) c is.chain 0 (factors_from c n 0 c.count) (house_order places n (omega arith) c is.chain c.count 0 (omega arith)) in
    ap (λ (t : List ℕ). opening ++ (32 ∷ (name_at names p ++ (32 ∷ t)))) (sym (content_is names n m.text c full))
