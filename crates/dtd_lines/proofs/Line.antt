-- The line of one parent: put from left to right, and how long it can be.
-- Assumes nothing.
use Prim.Native.Nat.{ℕ, ◌+◌, ◌≤◌, ◌<◌}
use mathlib.Core.Path.{◌≡◌, refl, sym, ◌∙◌, ap, subst}
use mathlib.Core.Bool.{Bool, true, false}
use mathlib.Core.List.{List, [], ◌∷◌, ◌++◌}
use native.Mathlib.Omega.{arith}
use lib.ListN.{length, length-append}
use Rattle.nameset.specs.Places.{places}
use Rattle.book.specs.declared.Layout.{Layout}
use Rattle.book.specs.Book.{names_in}
use Rattle.book.specs.Access.{LaidOut}
use Rattle.book.proofs.Laws.{few_names}
use Rattle.model.specs.declared.Model.{Model}
use Rattle.model.specs.Record.{IsModel}
use Rattle.follow.proofs.Laws.{over_in}
use Rattle.follow_row.specs.Row.{text_in, OfWords}
use Rattle.chain_levels.proofs.Tests.{both_ways}
use Rattle.chain_mixed.specs.Mixed.{model_of}
use Rattle.chain_sample.specs.Sample.{show_word}
use Rattle.chain_sample.proofs.Shown.{model_is, shows_is}
use Rattle.chain_sample.proofs.Models.{words_model}
use Rattle.declaration_spelling.specs.House.{declaration}
use Rattle.declaration_spelling.specs.Length.{longest_declaration}
use Rattle.byte_buffer.specs.Put.{Put, shown}
use Rattle.byte_buffer.proofs.Puts.{Left, left_start, left_is, left_put, left_room, left_fits, left_last, put_nothing, put_is}
use Rattle.declaration_text.proofs.Whole.{declaration_short}
use Rattle.dtd_lines.specs.Lines.{fact_line, row_facts, longest_line}

-- facts of a row that show a word give a model
pub shown_model : (n : ℕ) → n ≤ places → (row : List ℕ) → OfWords n row → show_word places (row_facts n row).follow ≡ true →
    (m : Model) → m ≡ model_of places (row_facts n row).follow (row_facts n row).text → IsModel places n m
unfolding row_facts
shown_model n few row kept some m made =
    let words : ¬ (kept.words ≡ []) = λ e. both_ways _ some ((shows_is n row few kept).1 e) in
    subst (IsModel places n) (sym (made ∙ model_is n row few kept (text_in row)))
    (words_model n few kept.words (over_in n kept.words kept.over) words (text_in row))

module _ (s : List ℕ) (l : Layout) (laid : LaidOut s l) (p : ℕ) (below : p < l.names) (row : List ℕ) (kept : OfWords l.names row) where
  -- facts that show no word
  no_line : show_word places (row_facts l.names row).follow ≡ false → fact_line (names_in s) p (row_facts l.names row) ≡ []
  unfolding fact_line
  no_line e = rw e

  pub nothing_put : show_word places (row_facts l.names row).follow ≡ false → (d : List ℕ) (at : ℕ) → Put d at (fact_line (names_in s) p (row_facts l.names row)) at d
  nothing_put e d at = put_is d at [] (fact_line (names_in s) p (row_facts l.names row)) at d (sym (no_line e)) (put_nothing d at)

  -- facts that show a word
  module _ (some : show_word places (row_facts l.names row).follow ≡ true) (m : Model)
      (made : m ≡ model_of places (row_facts l.names row).follow (row_facts l.names row).text) where
    pub model : IsModel places l.names m
    model = shown_model l.names (few_names s l laid) row kept some m made

    line_is : fact_line (names_in s) p (row_facts l.names row) ≡ declaration (names_in s) p m ++ shown 10
    unfolding fact_line shown
    line_is = rw some (ap (λ (x : Model). declaration (names_in s) p x ++ (10 ∷ [])) (sym made))

    pub some_short : length (fact_line (names_in s) p (row_facts l.names row)) ≤ longest_line
    unfolding shown
    some_short =
        let h : length (declaration (names_in s) p m) ≤ longest_declaration = declaration_short s l laid p below m model in
        let k : length (declaration (names_in s) p m ++ (10 ∷ [])) ≡ length (declaration (names_in s) p m) + 1 = length-append (declaration (names_in s) p m) (10 ∷ []) in
        omega (arith, ap length line_is)

    module _ (d : List ℕ) (at : ℕ) (room : at + length (fact_line (names_in s) p (row_facts l.names row)) ≤ length d) where
      start : Left d at (fact_line (names_in s) p (row_facts l.names row)) d at (declaration (names_in s) p m ++ shown 10)
      start = left_is d at (fact_line (names_in s) p (row_facts l.names row)) d at _ (declaration (names_in s) p m ++ shown 10) line_is (left_start d at _)

      pub text_room : at + length (declaration (names_in s) p m) ≤ length d
      text_room = left_room d at (fact_line (names_in s) p (row_facts l.names row)) d at (declaration (names_in s) p m) (shown 10) start room

      module _ (t : ℕ) (e : List ℕ) (put : Put d at (declaration (names_in s) p m) t e) where
        filled : Left d at (fact_line (names_in s) p (row_facts l.names row)) e t (shown 10)
        filled = left_put d at _ d at (declaration (names_in s) p m) (shown 10) e t start put

        pub feed_room : t + length (shown 10) ≤ length e
        feed_room = left_fits d at _ e t (shown 10) filled room

        pub line_put : (u : ℕ) (f : List ℕ) → Put e t (shown 10) u f → Put d at (fact_line (names_in s) p (row_facts l.names row)) u f
        line_put u f q = left_last d at _ e t (shown 10) f u filled q

  pub line_short : length (fact_line (names_in s) p (row_facts l.names row)) ≤ longest_line
  line_short = go (show_word places (row_facts l.names row).follow) refl
    where
      go : (b : Bool) → show_word places (row_facts l.names row).follow ≡ b → length (fact_line (names_in s) p (row_facts l.names row)) ≤ longest_line
      go true e = some_short e (model_of places (row_facts l.names row).follow (row_facts l.names row).text) refl
      go false e = rw (no_line e) (omega arith)
