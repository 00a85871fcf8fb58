-- The bytes of a name: the first may start it, and each of the others may stand later.
-- Assumes nothing.
use Prim.Native.Nat.{ℕ}
use mathlib.Core.Path.{◌≡◌, refl, ◌∙◌, ap}
use mathlib.Core.Bool.{Bool, true, false, ◌&&◌}
use mathlib.Core.List.{List, [], ◌∷◌}
use Rattle.std.specs.List.{list_all}
use Rattle.name.specs.Class.{start_byte, later_byte}
use Rattle.name.specs.Rule.{all_later, good_bytes}

each_later : (bs : List ℕ) → list_all later_byte bs ≡ all_later bs
unfolding all_later
each_later [] = refl
each_later (b ∷ bs) = ap (λ (r : Bool). later_byte b && r) (each_later bs)

pub starts : (s bs : List ℕ) (b : ℕ) (r : Bool) → s ≡ b ∷ bs → start_byte b ≡ true → r ≡ list_all later_byte bs → r ≡ good_bytes s
unfolding good_bytes
starts s bs b r e t l = rw (e, t) (l ∙ each_later bs)

pub starts_not : (s bs : List ℕ) (b : ℕ) → s ≡ b ∷ bs → start_byte b ≡ false → false ≡ good_bytes s
unfolding good_bytes
starts_not s bs b e t = rw (e, t) refl

pub no_bytes : (s : List ℕ) → s ≡ [] → false ≡ good_bytes s
unfolding good_bytes
no_bytes s e = rw e refl
