-- A means: examples, documents over four names, with their answers. `answered` in proofs/Examples.antt computes them.
-- Assumes nothing.
use Rattle.std.specs.Prelude.{ℕ, zero, suc, Bool, true, false, List, [], ◌∷◌, ◌++◌, Ok, Err, Some, None}
use Rattle.refusal.specs.declared.Refusal.TheVariants.{BadDocument, TooDeep}
use Rattle.refusal.specs.Answer.{Answer}
use Rattle.model.specs.Record.{model_with}
use Rattle.model.specs.Build.{of_rows}
use Rattle.model_table.specs.Table.{Entry}

-- The names are 0 (list), 1 (entry), 2 (end) and 3 (other). A list is (list?,entry*,end?), an entry (#PCDATA), an end
-- EMPTY, and other has no model.
unfoldable pub example_entries : ℕ → Entry
example_entries zero = Some (model_with (of_rows 3 (0 ∷ 1 ∷ 2 ∷ 255 ∷ []) (1 ∷ 3 ∷ 1 ∷ [])) 0)
example_entries (suc zero) = Some (model_with (of_rows 0 (255 ∷ 255 ∷ 255 ∷ 255 ∷ []) []) 1)
example_entries (suc (suc zero)) = Some (model_with (of_rows 0 (255 ∷ 255 ∷ 255 ∷ 255 ∷ []) []) 0)
example_entries (suc (suc (suc x))) = None

-- Pairs, k times.
unfoldable pub repeated : ℕ → List ℕ → List ℕ
repeated zero w = []
repeated (suc k) w = w ++ repeated k w

pub record Example : Type 0 where
  pub pairs : List ℕ
  pub answer : Answer Bool

abbrev pub example : List ℕ → Answer Bool → Example
example w a = record { pairs = w; answer = a }

unfoldable pub examples : List Example
examples =
    -- a list of two entries, the first with text, and an end
    example (0 ∷ 0 ∷ 0 ∷ 1 ∷ 2 ∷ 0 ∷ 1 ∷ 1 ∷ 0 ∷ 1 ∷ 1 ∷ 1 ∷ 0 ∷ 2 ∷ 1 ∷ 2 ∷ 1 ∷ 0 ∷ []) (Ok true)
    -- the end comes before an entry
    ∷ example (0 ∷ 0 ∷ 0 ∷ 2 ∷ 1 ∷ 2 ∷ 0 ∷ 1 ∷ 1 ∷ 1 ∷ 1 ∷ 0 ∷ []) (Ok false)
    -- text in a list; text in an end; a list that is good, in which an end is not
    ∷ example (0 ∷ 0 ∷ 2 ∷ 0 ∷ 1 ∷ 0 ∷ []) (Ok false)
    ∷ example (0 ∷ 2 ∷ 2 ∷ 0 ∷ 1 ∷ 2 ∷ []) (Ok false)
    ∷ example (0 ∷ 0 ∷ 0 ∷ 2 ∷ 0 ∷ 1 ∷ 1 ∷ 1 ∷ 1 ∷ 2 ∷ 1 ∷ 0 ∷ []) (Ok false)
    -- no model
    ∷ example (0 ∷ 3 ∷ 1 ∷ 3 ∷ []) (Ok false)
    -- no root; a second root; text behind the root; a root left open
    ∷ example [] (Err BadDocument)
    ∷ example (0 ∷ 2 ∷ 1 ∷ 2 ∷ 0 ∷ 2 ∷ 1 ∷ 2 ∷ []) (Err BadDocument)
    ∷ example (0 ∷ 2 ∷ 1 ∷ 2 ∷ 2 ∷ 0 ∷ []) (Err BadDocument)
    ∷ example (0 ∷ 0 ∷ []) (Err BadDocument)
    -- a close unlike its open; a close with none open
    ∷ example (0 ∷ 0 ∷ 1 ∷ 1 ∷ []) (Err BadDocument)
    ∷ example (1 ∷ 0 ∷ []) (Err BadDocument)
    -- the number 4; text with the number 1; the kind 3
    ∷ example (0 ∷ 4 ∷ 1 ∷ 4 ∷ []) (Err BadDocument)
    ∷ example (0 ∷ 1 ∷ 2 ∷ 1 ∷ 1 ∷ 1 ∷ []) (Err BadDocument)
    ∷ example (0 ∷ 1 ∷ 3 ∷ 0 ∷ 1 ∷ 1 ∷ []) (Err BadDocument)
    -- lists down to depth 32; 33 opens, which are left open; a 33rd open with the number 4
    ∷ example (repeated 32 (0 ∷ 0 ∷ []) ++ repeated 32 (1 ∷ 0 ∷ [])) (Ok true)
    ∷ example (repeated 33 (0 ∷ 0 ∷ [])) (Err TooDeep)
    ∷ example (repeated 32 (0 ∷ 0 ∷ []) ++ (0 ∷ 4 ∷ [])) (Err BadDocument)
    ∷ []
