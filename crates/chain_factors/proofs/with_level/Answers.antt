-- `with_level` meets its contract.
-- Assumes nothing.
use Rattle.std.proofs.Common.{◌≡◌, ℕ, refl, rules, cond, ◌&&◌, not, eqb}
use Rattle.chain_levels.specs.Chain.{factors}
use Rattle.nameset.specs.Places.{places}
use Rattle.nameset.specs.Set.{member}
use Rattle.chain_factors.proofs.Factors.{level_any, level_groups, level_both}
use Rattle.chain_factors.proofs.with_level.Goals as goal
use Rattle.chain_factors.proofs.with_level.Goals.{then-not-skipped, else-not-skipped, then-fixed, else-fixed}

pub with_any-first-requires : goal.with_any-first-requires
with_any-first-requires c = level_any _ _ _ c.requires.0

pub with_groups-requires : goal.with_groups-requires
with_groups-requires c = (level_groups _ _ _ _ _ c.with_any-first.ensures c.requires.0, search rules, search rules)

pub returns : goal.returns
returns c =
    let fixed = c.if-not-skipped.fixed in
    let modes = c.if-fixed.singles_mode in
    let fixed_is : fixed ≡ (not c.args.skipped && eqb (factors places (member c.args.singles) (member c.args.leaders)) 1) =
    elim c.if-not-skipped.branch [
      | then-not-skipped w ↦ rw (w.fixed-is, w.if-not-skipped.true) w.one_factor-fixed.ensures
      | else-not-skipped w ↦ rw (w.fixed-is, w.if-not-skipped.false) refl
    ] in
    let modes_are : (modes.0 ≡ cond {A = ℕ} fixed 0 1) × (modes.1 ≡ cond {A = ℕ} fixed 2 3) =
    elim c.if-fixed.branch [
      | then-fixed w ↦ rw (w.singles_mode-is, w.if-fixed.true) (refl, refl)
      | else-fixed w ↦ rw (w.singles_mode-is, w.if-fixed.false) (refl, refl)
    ] in
    level_both _ _ _ _ _ _ _ fixed _ _ fixed_is modes_are.0 modes_are.1 c.with_any-first.ensures c.with_groups.ensures
