-- `read_names` meets its contract.
-- Assumes nothing.
use Rattle.std.proofs.Common.{◌≡◌, sym, ◌∙◌, arith, Err}
use Rattle.book.specs.Layout.{no_offsets}
use Rattle.book_names.proofs.Steps.{name_read, name_stopped}
use Rattle.book_names.proofs.Reading.{begin, stop, next, done}
use Rattle.book_names.proofs.read_names.Goals as goal

pub loop-i-init : goal.loop-i-init
unfolding no_offsets
loop-i-init c = record { rising = omega arith; within = omega arith; left = begin _ c.args.bytes.now }

pub returns-in_err-size : goal.returns-in_err-size
returns-in_err-size c =
    let gone : c.from_residual.result ≡ Err c.in_err-size.field-0.0 = grind arith in
    gone ∙ sym (c.loop-i.invariant.left ∙ stop _ _ _ _ _ _ _ c.loop-i-test.true c.part.ensures _ (name_stopped _ _ (sym c.in_err-size.ensures)))

pub overflow_add-at : goal.overflow_add-at
overflow_add-at c =
    let t = name_read _ c.args.bytes.now _ _ (sym c.in_ok-size.ensures) in
    omega (arith, t.fits)

pub loop-i-preserved : goal.loop-i-preserved
loop-i-preserved c =
    let t = name_read _ _ _ _ (sym c.in_ok-size.ensures) in
    record {
      rising = omega arith;
      within = t.fits;
      left = c.loop-i.invariant.left ∙ next _ _ _ _ _ _ _ c.loop-i-test.true c.part.ensures _ t;
    }

pub returns : goal.returns
returns c = sym (c.loop-i.invariant.left ∙ done _ _ _ _ _ _ c.loop-i-test.false (omega arith))
