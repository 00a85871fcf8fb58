-- Names that occur, where the facts are those of words.
-- Assumes nothing.
use Prim.Native.Nat.{ℕ, ◌<◌}
use mathlib.Core.Path.{◌≡◌}
use mathlib.Core.Bool.{true}
use Rattle.nameset.proofs.Tests.{same_test}
use Rattle.model_language.specs.Word.{start, name}
use Rattle.follow.specs.Follow.{Follow}
use Rattle.chain_levels.specs.Reach.{edge, reaches, occurs}
use Rattle.chain_levels.proofs.Reach.{edge_is, reaches_first, reaches_last}
use Rattle.chain_levels.proofs.Paths.{occurs_is, occurs_below}
use Rattle.chain_peel.specs.Shown.{Shown}

module _ (f : Follow) where
  pub occurs_small : (a : ℕ) → occurs f a ≡ true → a < f.names
  occurs_small a e = occurs_below f a ((occurs_is f a).0 e)

  pub occurs_starts : (a : ℕ) → a < f.names → f.starts a ≡ true → occurs f a ≡ true
  occurs_starts a h e = (occurs_is f a).1 (start, (h, e))

  pub occurs_after : (a c : ℕ) → edge f c a ≡ true → occurs f a ≡ true
  occurs_after a c e = (occurs_is f a).1 (name c, (edge_is f c a).0 e)

  pub occurs_reached : (a b : ℕ) → reaches f a b ≡ true → occurs f b ≡ true
  occurs_reached a b e = let p = reaches_last f a b e in (occurs_is f b).1 (name p.0, p.1)

  module _ (s : Shown f) where
    -- the facts speak of names only
    pub edge_follows : (a b : ℕ) → edge f a b ≡ f.follows a b
    edge_follows a b =
        same_test (edge f a b) (f.follows a b) (λ e. ((edge_is f a b).0 e).2) (λ e. (edge_is f a b).1 (occurs_small a (s.followed a b e), s.follows a b e, e))

    pub occurs_reaching : (a b : ℕ) → reaches f a b ≡ true → occurs f a ≡ true
    occurs_reaching a b e = let p = reaches_first f a b e in s.followed a p.0 p.1.2
