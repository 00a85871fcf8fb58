-- The answer of each way through the checks.
-- Assumes nothing.
use Rattle.std.specs.Prelude.{Err}
use Prim.Native.Nat.{ℕ, ◌%◌, ◌≤◌, ◌<◌}
use mathlib.Core.Path.{◌≡◌, sym, ◌∙◌}
use mathlib.Core.Bool.{Bool, true, false, not}
use mathlib.Core.List.{List}
use borrow.Author.Tests.{lt-ltb, le-ltb, eq-eqb, ne_eqb, not-false}
use lib.ListN.{length}
use Rattle.refusal.specs.declared.Refusal.TheVariants.{BookTooLong, BadNameCount, NotAModel, BadDocument}
use Rattle.refusal.specs.declared.Acceptance.{Acceptance}
use Rattle.refusal.specs.declared.Acceptance.TheVariants.{Refused}
use Rattle.refusal.specs.Answer.{Answer, acceptance}
use Rattle.refusal.proofs.Decisions.{decides}
use Rattle.nameset.specs.Places.{places, good_count}
use Rattle.nameset.proofs.Count.{count_bounds}
use Rattle.model_table.specs.Table.{entry_of}
use Rattle.model_table_check.specs.Check.{all_models}
use Rattle.document.specs.Walk.{walk, start}
use Rattle.intake_document.specs.Document.{longest_document, document_answer, AcceptsDocument}

module _ (n : ℕ) (table w : List ℕ) where
  promised : (a : Answer Bool) → document_answer n table w ≡ a → AcceptsDocument n table w (acceptance a)
  promised a e = decides (document_answer n table w) a e

  pub too_long : longest_document < length w → AcceptsDocument n table w (Refused BookTooLong)
  unfolding acceptance document_answer
  too_long l = promised (Err BookTooLong) (rw (lt-ltb longest_document (length w) l))

  module _ (l : length w ≤ longest_document) {good : Bool} (g : good ≡ good_count n) where
    pub bad_count : not good ≡ true → AcceptsDocument n table w (Refused BadNameCount)
    unfolding acceptance document_answer
    bad_count h = promised (Err BadNameCount) (rw (le-ltb longest_document (length w) l, ← g, h))

    module _ (h : not good ≡ false) where
      pub few_names : n ≤ places
      few_names = (count_bounds n (sym g ∙ not-false good h)).1

      module _ {all : Bool} (a : all ≡ all_models n table) where
        pub no_model : not all ≡ true → AcceptsDocument n table w (Refused NotAModel)
        unfolding acceptance document_answer
        no_model k = promised (Err NotAModel) (rw (le-ltb longest_document (length w) l, ← g, h, ← a, k))

        module _ (k : not all ≡ false) where
          pub odd : length w % 2 ≡ 1 → AcceptsDocument n table w (Refused BadDocument)
          unfolding acceptance document_answer
          odd p = promised (Err BadDocument) (rw (le-ltb longest_document (length w) l, ← g, h, ← a, k, eq-eqb (length w % 2) 1 p))

          pub by_pairs : ¬ (length w % 2 ≡ 1) → {r : Acceptance} → r ≡ acceptance (walk n (entry_of table) start w) → AcceptsDocument n table w r
          unfolding document_answer
          by_pairs p q = rw q (promised (walk n (entry_of table) start w) (rw (le-ltb longest_document (length w) l, ← g, h, ← a, k, ne_eqb (length w % 2) 1 p)))
