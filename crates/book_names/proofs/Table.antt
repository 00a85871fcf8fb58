-- What is known of the table of names that section 1 gives.
-- Assumes nothing.
use Rattle.std.specs.Prelude.{Ok, Err}
use Prim.Native.Nat.{ℕ, ◌≤◌}
use mathlib.Core.Path.{◌≡◌, refl, sym, ◌∙◌, ap}
use mathlib.Core.List.{List}
use lib.ListN.{length, drop}
use Rattle.refusal.specs.declared.Refusal.{Refusal}
use Rattle.refusal.specs.Answer.{Answer}
use Rattle.refusal.proofs.Answers.{given_same, given_refused, refused_same}
use Rattle.book.specs.Field.{Field, count_size}
use Rattle.book.specs.Book.{name_section}
use Rattle.book.specs.Layout.{end_from, offset_table}
use Rattle.book.proofs.Sections.{name_section_told, behind_names_lem}
use Rattle.book_names.specs.declared.NameTable.{NameTable}
use Rattle.book_names.specs.Tables.{name_table}

-- a table of names that were read
pub record TableTold (s : List ℕ) (t : NameTable) : Type 0 where
  pub names : Field (List (List ℕ))
  pub read : name_section s ≡ Ok names
  pub many : t.names ≡ length names.value
  pub placed : t.offsets ≡ offset_table names.value
  pub end : t.end ≡ end_from count_size names.value
  pub fits : t.end ≤ length s
  pub rest : drop t.end s ≡ names.rest

pub table_told : (s : List ℕ) (t : NameTable) → Ok t ≡ name_table (name_section s) → TableTold s t
unfolding name_table
table_told s t e = go (name_section s) refl e
  where
    go : (a : Answer (Field (List (List ℕ)))) → name_section s ≡ a → Ok t ≡ name_table a → TableTold s t
    go (Ok names) q e =
        let k = name_section_told s names q in
        let b = behind_names_lem s count_size names.value names.rest k.enough k.bytes in
        let same = given_same t _ e in
        let z : t.end ≡ end_from count_size names.value = ap (λ (x : NameTable). x.end) same in
        record {
          names = names;
          read = q;
          many = ap (λ (x : NameTable). x.names) same;
          placed = ap (λ (x : NameTable). x.offsets) same;
          end = z;
          fits = rw z b.0;
          rest = rw z b.1;
        }
    go (Err r) q e = absurd (given_refused t r e)

pub table_refused : (s : List ℕ) (r : Refusal) → Err r ≡ name_table (name_section s) → name_section s ≡ Err r
unfolding name_table
table_refused s r e = go (name_section s) refl e
  where
    go : (a : Answer (Field (List (List ℕ)))) → name_section s ≡ a → Err r ≡ name_table a → name_section s ≡ Err r
    go (Ok names) q e = absurd (given_refused _ r (sym e))
    go (Err f) q e = q ∙ ap Err (sym (refused_same {A = NameTable} r f e))
