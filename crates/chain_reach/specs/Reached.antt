-- A means: `reached_all` in crates/chain_reach/proofs/Closing.antt joins it to crates/chain_levels/specs/Reach.antt.
-- Assumes nothing.
-- What names reach, by rows that keep the steps from name to name.
use Rattle.std.specs.Prelude.{ℕ, ◌-◌, ◌≡◌, Bool, true, cond, List}
use Rattle.nameset.specs.Places.{places}
use Rattle.nameset.specs.declared.NameSet.{NameSet}
use Rattle.nameset.specs.Set.{member}
use Rattle.nameset.specs.Rows.{IsRows}
use Rattle.follow.specs.Follow.{Follow}
use Rattle.chain_levels.specs.Reach.{edge, reaches}
use Rattle.chain_rows.specs.Rows.{in_row, OnlyNames}

-- The facts are over n names, and the rows keep the steps from a name to a name.
pub record Edges (f : Follow) (n : ℕ) (rows : List ℕ) : Type 0 where
  pub same : f.names ≡ n
  pub law : (a b : ℕ) → in_row rows a b ≡ edge f a b

-- The rows keep what each name reaches.
pub record Reached (f : Follow) (rows : List ℕ) : Type 0 where
  pub names : OnlyNames f.names rows
  pub law : (a b : ℕ) → in_row rows a b ≡ reaches f a b

-- The rows have only names that are reached, and with a name each one that follows it: as rows of what names reach do,
-- and empty rows.
pub record Closed (follows rows : List ℕ) : Type 0 where
  pub size : IsRows places rows
  pub sound : (f : Follow) (n : ℕ) → Edges f n follows → (a x : ℕ) → in_row rows a x ≡ true → reaches f a x ≡ true
  pub onward : (a x y : ℕ) → in_row rows a x ≡ true → in_row follows x y ≡ true → in_row rows a y ≡ true

-- The set has the names that a reaches, and with a name each one that follows it.
pub record ReachOf (follows : List ℕ) (a : ℕ) (s : NameSet) : Type 0 where
  pub law : (f : Follow) (n : ℕ) → Edges f n follows → (x : ℕ) → member s x ≡ reaches f a x
  pub onward : (x y : ℕ) → member s x ≡ true → in_row follows x y ≡ true → member s y ≡ true

-- Number i of the numbers below n, from the largest down or from 0 up.
unfoldable pub in_turn : Bool → ℕ → ℕ → ℕ
in_turn down n i = cond down (n - 1 - i) i
