-- `read_factors` meets its contract.
-- Assumes nothing.
use Rattle.std.proofs.Common.{◌∙◌, ap, not, arith, refl, Err}
use borrow.Author.Tests.{not-true, not-false}
use Rattle.declaration_rows.proofs.Steps.{in_order, onward_to, unknown_kind, known_kind_lem, number_same, known_stop, known_on, placed_same}
use Rattle.declaration_record.proofs.Steps.{left_start, left_on, left_stop, inside_on, factors_done, factors_unknown, factors_twice}
use Rattle.declaration_record.proofs.read_factors.Goals as goal

pub loop-i-init : goal.loop-i-init
loop-i-init c = record {
  in_range = c.requires.1;
  inside = omega arith;
  factors = refl;
  modes = refl;
  rows = left_start _ _ _;
  known = refl;
}

pub number_at-x-requires : goal.number_at-x-requires
number_at-x-requires c = (c.requires.0, in_order _ _ _ c.piece_at-piece.ensures.0, c.piece_at-piece.ensures.1)

pub returns-then-x-eq-PLACES : goal.returns-then-x-eq-PLACES
returns-then-x-eq-PLACES c =
    let unknown = unknown_kind _ _ c.requires.0 _ _ _ c.number_at-x.ensures.0 c.if-x-eq-PLACES.true in
    factors_unknown _ _ _ _ _ _ _ _ _ c.loop-i.invariant.known c.loop-i.invariant.rows (known_stop _ _ _ c.piece_at-piece.ensures.0 _ _ unknown refl)

pub returns-then-not-fine : goal.returns-then-not-fine
returns-then-not-fine c =
    let laid = c.requires.0 in
    let piece = c.piece_at-piece.ensures.0 in
    let number = c.number_at-x.ensures.0 in
    let there = c.if-x-eq-PLACES.false in
    ap Err c.twice.ensures
    ∙ factors_twice _ _ _ _ _ _ _ _ _ c.loop-i.invariant.known c.loop-i.invariant.rows _
    (known_on _ _ _ piece _ _ (known_kind_lem _ _ laid _ _ _ number there) refl)
    (left_stop _ _ _ _ piece _ _ _ c.loop-i.invariant.inside _ _ (placed_same _ _ _ _ _ _ _ (number_same _ _ laid _ _ _ number there) c.place_piece-free.ensures) _ c.mode_of.ensures _ c.put_mode.ensures _ c.next_index-index.ensures _ c.fine.ensures (not-true _ (ap not c.if-not-fine.true)))

pub loop-i-smaller : goal.loop-i-smaller
loop-i-smaller c =
    let h = onward_to _ _ _ c.piece_at-piece.ensures.0 c.loop-i-test.true in
    omega arith

pub loop-i-preserved : goal.loop-i-preserved
loop-i-preserved c =
    let laid = c.requires.0 in
    let piece = c.piece_at-piece.ensures.0 in
    let number = c.number_at-x.ensures.0 in
    let there = c.if-x-eq-PLACES.false in
    let next = c.next_index-index.ensures in
    let on = not-false _ (ap not c.if-not-fine.false) in
    let placed = placed_same _ _ _ _ _ _ _ (number_same _ _ laid _ _ _ number there) c.place_piece-free.ensures in
    record {
      in_range = c.piece_at-piece.ensures.1;
      inside = inside_on _ _ _ _ piece _ _ _ c.loop-i.invariant.inside _ _ placed _ c.mode_of.ensures _ c.put_mode.ensures _ next _ c.fine.ensures on;
      factors = c.place_piece-free.ensures.2 ∙ c.loop-i.invariant.factors;
      modes = c.put_mode.ensures.1 ∙ c.loop-i.invariant.modes;
      rows = c.loop-i.invariant.rows ∙ left_on _ _ _ _ piece _ _ _ c.loop-i.invariant.inside _ _ placed _ c.mode_of.ensures _ c.put_mode.ensures _ next _ c.fine.ensures on;
      known = c.loop-i.invariant.known ∙ known_on _ _ _ piece _ _ (known_kind_lem _ _ laid _ _ _ number there) refl;
    }

pub returns : goal.returns
returns c = factors_done _ _ _ _ _ _ _ _ _ c.loop-i.invariant.known c.loop-i.invariant.rows c.loop-i-test.false
