-- A loop over the tokens of a text: where it begins, and a turn by the text that it began with.
-- Assumes nothing.
use Rattle.std.proofs.Common.{◌≡◌, ℕ, List, ap, ◌∙◌, subst, Bor}
use Rattle.declaration_scan.specs.declared.Piece.{Piece}
use Rattle.declaration_cursor.specs.declared.Cursor.{Cursor}
use Rattle.declaration_cursor.specs.Tokens.{Given}

pub begun : (c made : Cursor) (text : Bor (List ℕ)) (at : ℕ) → c ≡ made → (made.text ≡ text) × (made.at ≡ at) → (c.text.now ≡ text.now) × (c.at ≡ at)
begun c made text at e (t, a) =
    (ap (λ (k : Cursor). k.text.now) e ∙ ap (λ (b : Bor (List ℕ)). b.now) t, ap (λ (k : Cursor). k.at) e ∙ a)

pub given_in : (s text : List ℕ) (at : ℕ) (piece : Piece) (to : ℕ) → s ≡ text → Given s at piece to → Given text at piece to
given_in s text at piece to e g = subst (λ (t : List ℕ). Given t at piece to) e g

pub same_text : (s t : Bor (List ℕ)) (text : List ℕ) → t ≡ s → s.now ≡ text → t.now ≡ text
same_text s t text e f = ap (λ (b : Bor (List ℕ)). b.now) e ∙ f
