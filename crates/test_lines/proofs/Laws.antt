-- A line of a text, byte by byte.
-- Assumes nothing.
use Rattle.std.proofs.Common.{ℕ, ◌+◌, ◌-◌, ◌≤◌, ◌≡◌, refl, ap, ◌∙◌, Bool, true, false, not, cond, List, [], ◌∷◌, length, drop, take, arith, eqb, ◌==◌}
use Rattle.std.specs.List.{prefix_len}
use Rattle.std.proofs.lemmas.List.{length-drop, take_rest}
use Rattle.std.proofs.lemmas.List.Sums.{prefix_len-le-length}
use Rattle.test_lines.specs.Lines.{first_line, line_end}

-- the bytes before the first line feed are the first line
line_prefix : (t : List ℕ) → prefix_len (λ b. not (b == 10)) t ≡ length (first_line t)
unfolding first_line
line_prefix [] = refl
line_prefix (b ∷ t) = go (eqb b 10) (line_prefix t)
  where
    go : (c : Bool) → prefix_len (λ b. not (b == 10)) t ≡ length (first_line t) → cond (not c) (1 + prefix_len (λ b. not (b == 10)) t) 0 ≡ length (cond c [] (b ∷ first_line t))
    go true e = refl
    go false e = omega arith

pub end_is : (s : List ℕ) (at n : ℕ) → at ≤ length s → n ≡ prefix_len (λ b. not (b == 10)) (take (length s - at) (drop at s)) →
    (at + n ≡ line_end s at) × (at ≤ at + n) × (at + n ≤ length s)
unfolding line_end
end_is s at n h e =
    let p : ℕ → Bool = λ b. not (b == 10) in
    let d : n ≡ prefix_len p (drop at s) = e ∙ ap (prefix_len p) (take_rest s at) in
    (ap (λ (k : ℕ). at + k) (d ∙ line_prefix (drop at s)), omega arith, omega (arith, d, prefix_len-le-length p (drop at s), length-drop at s))

-- the first line is as many bytes from the front as it has
pub first_taken : (s : List ℕ) → take (length (first_line s)) s ≡ first_line s
unfolding first_line
first_taken [] = refl
first_taken (b ∷ bs) = go (eqb b 10) refl (first_taken bs)
  where
    go : (t : Bool) → eqb b 10 ≡ t → take (length (first_line bs)) bs ≡ first_line bs → take (length (first_line (b ∷ bs))) (b ∷ bs) ≡ first_line (b ∷ bs)
    go true e _ = rw e refl
    go false e rest = rw e (ap (λ r. b ∷ r) rest)

pub line_between : (s : List ℕ) (at to : ℕ) → to ≡ line_end s at → take (to - at) (drop at s) ≡ first_line (drop at s)
unfolding line_end
line_between s at to e =
    let l : to - at ≡ length (first_line (drop at s)) = omega arith in
    rw l (first_taken (drop at s))
