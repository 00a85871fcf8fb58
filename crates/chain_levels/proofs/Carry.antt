-- What is specified over steps depends only on which steps there are.
-- Assumes nothing.
use Prim.Native.Nat.{ℕ}
use mathlib.Core.Path.{◌≡◌}
use mathlib.Core.Logic.{◌↔◌}
use native.Mathlib.Omega.{arith}
use Rattle.model_language.specs.Word.{Point, start, name, end}
use Rattle.model_language.specs.Reach.{Reach, one, more}
use Rattle.model_language.proofs.Reach.{reach_wider}
use Rattle.chain_levels.specs.Level.{Occurs, OneGroup, Climb, begin, go, move, IsLevel, Skipped}

-- ---- any steps: a point has one level at most, and a name that is reached or has a level occurs

pub one_level : {S : Point → Point → Type 0} (v : Point) (i j : ℕ) → IsLevel S v i → IsLevel S v j → i ≡ j
one_level v i j p q = omega (arith, p.largest j q.reached, q.largest i p.reached)

pub reach_occurs : {S : Point → Point → Type 0} {a b : ℕ} → Reach S a b → Occurs S b
reach_occurs (one {x = a} g) = (name a, g)
reach_occurs (more g r) = reach_occurs r

pub climb_occurs : {S : Point → Point → Type 0} {k x : ℕ} → Climb S k (name x) → Occurs S x
climb_occurs (go {u = u} c g n) = (u, g)
climb_occurs (move {u = start} c g) = absurd g
climb_occurs (move {u = name y} c g) = reach_occurs g.0
climb_occurs (move {u = end} c g) = absurd g

-- ---- S and T have the same steps

abbrev Same : (Point → Point → Type 0) → (Point → Point → Type 0) → Type 0
Same S T = (u v : Point) → S u v ↔ T u v

flip : {S T : Point → Point → Type 0} → Same S T → Same T S
flip h u v = ((h u v).1, (h u v).0)

pub carry_reach : {S T : Point → Point → Type 0} → Same S T → {x y : ℕ} → Reach S x y → Reach T x y
carry_reach h r = reach_wider (λ u v. (h u v).0) r

pub carry_occurs : {S T : Point → Point → Type 0} → Same S T → (x : ℕ) → Occurs S x → Occurs T x
carry_occurs h x (u, g) = (u, (h u (name x)).0 g)

pub carry_group : {S T : Point → Point → Type 0} → Same S T → (u v : Point) → OneGroup S u v → OneGroup T u v
carry_group h start v g = absurd g
carry_group h (name x) start g = absurd g
carry_group h (name x) (name y) g = (carry_reach h g.0, carry_reach h g.1)
carry_group h (name x) end g = absurd g
carry_group h end v g = absurd g

carry_climb : {S T : Point → Point → Type 0} → Same S T → {k : ℕ} {v : Point} → Climb S k v → Climb T k v
carry_climb h begin = begin
carry_climb h (go {u = u} {v = v} c g n) = go (carry_climb h c) ((h u v).0 g) (λ q. n (carry_group (flip h) u v q))
carry_climb h (move {u = u} {v = v} c g) = move (carry_climb h c) (carry_group h u v g)

pub carry_level : {S T : Point → Point → Type 0} → Same S T → (v : Point) (l : ℕ) → IsLevel S v l → IsLevel T v l
carry_level h v l p = record { reached = carry_climb h p.reached; largest = λ k c. p.largest k (carry_climb (flip h) c) }

pub carry_skipped : {S T : Point → Point → Type 0} → Same S T → (l : ℕ) → Skipped S l → Skipped T l
carry_skipped h l (u, v, i, j, g, p, q, a, b) = (u, v, i, j, (h u v).0 g, carry_level h u i p, carry_level h v j q, a, b)
