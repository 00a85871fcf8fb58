-- A means: the checks of the call for the verdict on a document, in the order of paper 02, U7, and its answer.
-- `document_exactly` in crates/demands/proofs/Demands.antt says what that is. To be believed are `longest_document` and
-- `Ready`.
-- Assumes nothing.
use Rattle.std.specs.Prelude.{ℕ, ◌%◌, ◌≤◌, ◌<◌, Bool, not, List, eqb, ltb, length}
use Rattle.refusal.specs.declared.Refusal.TheVariants.{BookTooLong, BadNameCount, NotAModel, BadDocument}
use Rattle.refusal.specs.declared.Acceptance.{Acceptance}
use Rattle.refusal.specs.Answer.{Answer, refuse_if, Decides}
use Rattle.nameset.specs.Places.{places, good_count}
use Rattle.model_table.specs.Table.{entry_of}
use Rattle.model_table_check.specs.Check.{Models, all_models}
use Rattle.document.specs.Walk.{walk, start}

-- The most bytes that a document may have.
abbrev pub longest_document : ℕ
longest_document = 60000

-- "Length above 60,000 bytes is 1, and comes first; 3, then 10 by rising name, follow"; "an odd length is seen before
-- any pair"; then the pairs w, with the models of the table.
unfoldable pub document_answer : ℕ → List ℕ → List ℕ → Answer Bool
document_answer n table w =
    refuse_if (ltb longest_document (length w)) BookTooLong
    (refuse_if (not (good_count n)) BadNameCount
    (refuse_if (not (all_models n table)) NotAModel
    (refuse_if (eqb (length w % 2) 1) BadDocument
    (walk n (entry_of table) start w))))

-- None of 1, 3 and 10 applies.
pub record Ready (n : ℕ) (table w : List ℕ) : Type 0 where
  pub short : length w ≤ longest_document
  pub some : 0 < n
  pub few : n ≤ places
  pub models : Models n table

-- The whole promise of the call, of its answer r.
abbrev pub AcceptsDocument : ℕ → List ℕ → List ℕ → Acceptance → Type 0
AcceptsDocument n table w r = Decides (document_answer n table w) r
