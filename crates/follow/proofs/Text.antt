-- When a parent has text: some block of it has text. And what one block more adds to that.
-- Assumes nothing.
use Prim.Native.Nat.{ℕ}
use mathlib.Core.Path.{◌≡◌, refl, sym, ◌∙◌, ap}
use mathlib.Core.Bool.{Bool, true, ◌&&◌, ◌||◌, or-false, or_assoc, false≢true}
use mathlib.Core.List.Memᴰ
use mathlib.Core.List.{List, [], ◌∷◌, ◌++◌, Memᴰ}
use mathlib.Core.Logic.{◌↔◌, ◌⊎◌, inl, inr}
use lib.Dec.{eqb}
use borrow.Author.Tests.{eqb-true, eq-eqb}
use Rattle.book.specs.Book.{Block}
use Rattle.nameset.proofs.Tests.{and_left, and_right, or_split, or_right}
use Rattle.follow.specs.Sample.{has_text}

-- one of the blocks is the parent's own and has the text byte 1
abbrev TextBlock : ℕ → List Block → Type 0
TextBlock p bs = (b : Block) × Memᴰ b bs × (b.parent ≡ p) × (b.text ≡ 1)

-- A parent has text exactly where one of the blocks is its own and has the text byte 1.
pub text_law : (p : ℕ) (bs : List Block) → (has_text p bs ≡ true) ↔ ((b : Block) × Memᴰ b bs × (b.parent ≡ p) × (b.text ≡ 1))
unfolding has_text
text_law p [] = (λ e. absurd (false≢true e), λ (b, i, q, t). absurd (Memᴰ.not-nil i))
text_law p (c ∷ bs) = (λ e. to (text_law p bs).0 (or_split _ (has_text p bs) e), λ (b, i, q, t). from (text_law p bs).1 b q t (Memᴰ.cases_cons i))
  where
    to : (has_text p bs ≡ true → TextBlock p bs) → ((eqb c.parent p && eqb c.text 1) ≡ true) ⊎ (has_text p bs ≡ true) → TextBlock p (c ∷ bs)
    to ih (inl h) =
        (c, Memᴰ.head refl, eqb-true c.parent p (and_left (eqb c.parent p) (eqb c.text 1) h), eqb-true c.text 1 (and_right (eqb c.parent p) (eqb c.text 1) h))
    to ih (inr h) = let (b, i, q, t) = ih h in (b, Memᴰ.tail i, q, t)

    from : (TextBlock p bs → has_text p bs ≡ true) → (b : Block) → b.parent ≡ p → b.text ≡ 1 → (b ≡ c) ⊎ Memᴰ b bs →
        ((eqb c.parent p && eqb c.text 1) || has_text p bs) ≡ true
    from ih b q t (inl e) =
        let own : eqb c.parent p ≡ true = eq-eqb c.parent p (ap (λ (x : Block). x.parent) (sym e) ∙ q) in
        let text : eqb c.text 1 ≡ true = eq-eqb c.text 1 (ap (λ (x : Block). x.text) (sym e) ∙ t) in
        rw (own, text)
    from ih b q t (inr j) = or_right (eqb c.parent p && eqb c.text 1) (has_text p bs) (ih (b, j, q, t))

-- One block more: the parent had text before, or this block is its own and has text.
pub text_more : (p : ℕ) (bs : List Block) (b : Block) → has_text p (bs ++ (b ∷ [])) ≡ (has_text p bs || (eqb b.parent p && eqb b.text 1))
unfolding has_text
text_more p [] b = or-false (eqb b.parent p && eqb b.text 1)
text_more p (c ∷ bs) b =
    let own : Bool = eqb c.parent p && eqb c.text 1 in
    ap (λ (x : Bool). own || x) (text_more p bs b) ∙ sym (or_assoc own (has_text p bs) (eqb b.parent p && eqb b.text 1))
