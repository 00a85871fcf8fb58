-- The token at the end of the white space, by what the callees ensure of the cursor.
use Rattle.std.proofs.Common.{◌≡◌, ℕ, ◌≤◌, List, length, ap, ◌∙◌, subst, Bor}
use Rattle.declaration_scan.specs.declared.Piece.{Piece}
use Rattle.declaration_scan.specs.Piece.{space_end, piece_from, piece_at}
use Rattle.declaration_cursor.proofs.piece_at.Goals as goal

joined : (p : Piece) (x y z : Bor (List ℕ)) (from at n : ℕ) → p ≡ piece_from z.now n at → p.to ≤ length z.now → z ≡ y
    → at ≡ space_end y.now from → y ≡ x → from ≡ n → (p ≡ piece_at x.now n) × (p.to ≤ length x.now)
unfolding piece_at
joined p x y z from at n e l zy s yx f =
    let text : z.now ≡ x.now = ap (λ (b : Bor (List ℕ)). b.now) (zy ∙ yx) in
    let place : at ≡ space_end x.now n =
    s ∙ ap (λ (b : Bor (List ℕ)). space_end b.now from) yx ∙ ap (space_end x.now) f in (
      e ∙ ap (λ (t : List ℕ). piece_from t n at) text ∙ ap (piece_from x.now n) place,
      subst (λ (t : List ℕ). p.to ≤ length t) text l,
    )

pub returns : goal.returns
returns c =
    let here = c.piece_here.ensures in
    let moved = c.past_spaces-c.ensures in
    let made = c.cursor_at.ensures in
    joined _ c.args.text c.cursor_at.result.text c.past_spaces-c.result.text c.cursor_at.result.at c.past_spaces-c.result.at _
    here.0 here.1 moved.0 moved.1 made.0 made.1
