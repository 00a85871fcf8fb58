-- A list that is known from a place on: what stands there, and where it goes on.
-- Assumes nothing.
use Prim.Native.Nat.{ℕ, suc, ◌+◌, ◌-◌}
use mathlib.Core.Path.{◌≡◌, sym, ◌∙◌, ap}
use mathlib.Core.List.{List, ◌∷◌, ◌++◌}
use native.Mathlib.Omega.{arith}
use lib.ListN.{length, take, drop, get_or, length-drop}
use lib.Seq.{drop-drop, take-append_seam, drop-append_seam, get_or-drop}

-- behind p
pub behind : (s : List ℕ) (at : ℕ) (p r : List ℕ) → drop at s ≡ p ++ r → drop (at + length p) s ≡ r
behind s at p r e = sym (drop-drop (length p) at s) ∙ ap (drop (length p)) e ∙ drop-append_seam p r

pub standing : (s : List ℕ) (at : ℕ) (p r : List ℕ) → drop at s ≡ p ++ r → take (length p) (drop at s) ≡ p
standing s at p r e = ap (take (length p)) e ∙ take-append_seam p r

pub reaches : (s : List ℕ) (at : ℕ) (b : ℕ) (p : List ℕ) → drop at s ≡ b ∷ p → at + 1 + length p ≡ length s
reaches s at b p e = let l : length s - at ≡ suc (length p) = sym (length-drop at s) ∙ ap length e in omega arith

pub byte_at : (s : List ℕ) (at b : ℕ) (p : List ℕ) → drop at s ≡ b ∷ p → get_or s at 0 ≡ b
byte_at s at b p e =
    let z : at + 0 ≡ at = omega arith in
    ap (λ (k : ℕ). get_or s k 0) (sym z) ∙ sym (get_or-drop at s 0 0) ∙ ap (λ (l : List ℕ). get_or l 0 0) e
