-- What a word shows, in paper 01's words: its first name may start, its last may end, of two names side by side the
-- second follows the first, and an empty word leads from start to end. Nothing else.
-- Assumes nothing.
use Prim.Native.Nat.{ℕ}
use mathlib.Core.Path.{◌≡◌, refl, ap}
use mathlib.Core.List.{List, [], ◌∷◌, ◌++◌}
use mathlib.Core.Logic.{◌⊎◌, inl, inr, ◌↔◌}
use Rattle.model_language.specs.Word.{Point, start, name, end, Beside, Shows}

-- The point that comes first in w: its first name, or the end.
abbrev pub first : List ℕ → Point
first [] = end
first (x ∷ w) = name x

-- u is a name in w, and v comes next after it.
abbrev pub Inside : List ℕ → Point → Point → Type 0
Inside w u v = (a : List ℕ) × (x : ℕ) × (b : List ℕ) × (w ≡ a ++ (x ∷ b)) × (name x ≡ u) × (first b ≡ v)

to : (p : Point) (w : List ℕ) (u v : Point) → Beside p w u v → ((p ≡ u) × (first w ≡ v)) ⊎ Inside w u v
to p [] u v h = inl h
to p (x ∷ w) u v (inl h) = inl h
to p (x ∷ w) u v (inr b) = go (to (name x) w u v b)
  where
    go : ((name x ≡ u) × (first w ≡ v)) ⊎ Inside w u v → ((p ≡ u) × (name x ≡ v)) ⊎ Inside (x ∷ w) u v
    go (inl (e, f)) = inr ([], x, w, refl, e, f)
    go (inr (a, y, c, q, e, f)) = inr (x ∷ a, y, c, ap (λ (z : List ℕ). x ∷ z) q, e, f)

at_first : (p : Point) (w : List ℕ) (u v : Point) → p ≡ u → first w ≡ v → Beside p w u v
at_first p [] u v e f = (e, f)
at_first p (x ∷ w) u v e f = inl (e, f)

behind : (p : Point) (a : List ℕ) (x : ℕ) (b : List ℕ) (u v : Point) → name x ≡ u → first b ≡ v → Beside p (a ++ (x ∷ b)) u v
behind p [] x b u v e f = inr (at_first (name x) b u v e f)
behind p (y ∷ a) x b u v e f = inr (behind (name y) a x b u v e f)

-- For readers: the steps of a word, in the words above.
pub shows_law : (w : List ℕ) (u v : Point) → Shows w u v ↔ (((start ≡ u) × (first w ≡ v)) ⊎ Inside w u v)
shows_law w u v = (to start w u v, from)
  where
    from : ((start ≡ u) × (first w ≡ v)) ⊎ Inside w u v → Shows w u v
    from (inl (e, f)) = at_first start w u v e f
    from (inr (a, x, b, q, e, f)) = rw q (behind start a x b u v e f)
