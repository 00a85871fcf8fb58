-- A means: the answers of the steps that read names, as the code has them. The functions of this crate promise them.
-- Assumes nothing.
use Rattle.std.specs.Prelude.{ℕ, not, List, length, Ok, Err}
use Rattle.refusal.specs.declared.Refusal.TheVariants.{BadName, NameNotAbove}
use Rattle.refusal.specs.Answer.{Answer, refuse_if}
use Rattle.name.specs.Rule.{good_bytes}
use Rattle.name_order.specs.Order.{rises}
use Rattle.book.specs.Field.{Field, field, count_size}
use Rattle.book.specs.Layout.{offset_table, end_from}
use Rattle.book_names.specs.declared.NameTable.{NameTable}

-- the length of a name that was read
unfoldable pub name_step : Answer (Field (List ℕ)) → Answer ℕ
name_step (Ok name) = Ok (length name.value)
name_step (Err r) = Err r

-- the last two checks of a name, whose bytes are all there
unfoldable pub judged_name : List ℕ → List ℕ → Answer ℕ
judged_name before name =
    name_step
    (refuse_if (not (good_bytes name)) BadName
    (refuse_if (not (rises before name)) NameNotAbove
    (Ok (field name name))))

-- the table of the names that were read
unfoldable pub name_table : Answer (Field (List (List ℕ))) → Answer NameTable
name_table (Ok names) =
    Ok
    record {
      names = length names.value;
      offsets = offset_table names.value;
      end = end_from count_size names.value;
    }
name_table (Err r) = Err r
