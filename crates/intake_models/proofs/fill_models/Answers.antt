-- `fill_models` meets its contract: the book with the facts of all parents, the table's length, the rows.
-- Assumes nothing.
use Rattle.std.proofs.Common.{◌≡◌, refl, arith, Err}
use Rattle.follow_table.specs.Table.{table_size}
use Rattle.follow_table.proofs.Keeps.{keeps_none}
use Rattle.intake_models.proofs.Fill.{stopped_book, facts_kept, stopped_short, all_written}
use Rattle.intake_models.proofs.fill_models.Goals as goal

pub take_table-requires : goal.take_table-requires
take_table-requires c = keeps_none table_size refl

pub returns-in_err-names : goal.returns-in_err-names
returns-in_err-names c =
    let gone : c.from_residual.result ≡ Err c.in_err-names.field-0.0 = grind arith in
    rw gone (stopped_book _ _ _ c.in_err-names.ensures.0)

pub overflow_mul-names : goal.overflow_mul-names
overflow_mul-names c =
    let taken = c.in_ok-names.ensures in
    omega (arith, (facts_kept _ c.args.models.now _ taken.0 _ taken.1).few)

pub returns-then-models-names : goal.returns-then-models-names
returns-then-models-names c =
    let taken = c.in_ok-names.ensures in
    stopped_short _ _ _ taken.0 _ taken.1 c.if-models-names.true

pub put_rows-requires : goal.put_rows-requires
put_rows-requires c =
    let taken = c.in_ok-names.ensures in
    (facts_kept _ c.args.models.now _ taken.0 _ taken.1, c.if-models-names.false)

pub returns : goal.returns
returns c =
    let taken = c.in_ok-names.ensures in
    all_written _ _ _ taken.0 _ taken.1 c.if-models-names.false _ _ c.put_rows.ensures
