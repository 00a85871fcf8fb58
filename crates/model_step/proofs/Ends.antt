-- Whether a run went on, by the state that it leads to.
-- Assumes nothing.
use Rattle.std.proofs.Common.{ℕ, ◌≡◌, refl, Bool, true, false}
use Rattle.std.specs.Prelude.{is_some}
use Rattle.model.specs.Run.{went_to}

pub went_is_some : (there : Bool) (own : ℕ) → is_some (went_to there own) ≡ there
unfolding went_to
went_is_some true own = refl
went_is_some false own = refl
