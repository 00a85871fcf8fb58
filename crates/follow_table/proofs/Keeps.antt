-- What a table keeps: nothing at first, then one block more after the other.
-- Assumes nothing.
use Prim.Native.Nat.{ℕ, ◌<◌}
use mathlib.Core.Path.{◌≡◌, sym, subst}
use mathlib.Core.List.{List, [], ◌∷◌, ◌++◌}
use native.Mathlib.Omega.{arith}
use native.Mathlib.Decide.{ℕ_discrete}
use lib.ListN.{replicate, length-replicate}
use Rattle.book.specs.Book.{Block}
use Rattle.follow_row.specs.Row.{row_size, RowKeeps, RowAdded}
use Rattle.follow_row.proofs.Keeps.{row_none, row_own, row_other}
use Rattle.follow_table.specs.Table.{tabled, table_size, row_of, Keeps, Added}
use Rattle.follow_table.proofs.Parts.{row_zeros}

pub keeps_none : (n : ℕ) → n ≡ table_size → Keeps [] (replicate n 0)
keeps_none n e =
    rw e
    (record {
      size = length-replicate {A = ℕ} table_size 0;
      rows = λ p h. subst (RowKeeps p []) (sym (row_zeros table_size p (omega arith))) (row_none p row_size (let q : row_size ≡ row_size = omega arith in q));
    })

pub keeps_more : (bs : List Block) (b : Block) (t u : List ℕ) → Keeps bs t → Added t b.parent b.text b.word u → Keeps (bs ++ (b ∷ [])) u
keeps_more bs b t u k a = record { size = a.size; rows = λ p h. row p h (ℕ_discrete b.parent p) }
  where
    row : (p : ℕ) → p < tabled → Dec (b.parent ≡ p) → RowKeeps p (bs ++ (b ∷ [])) (row_of u p)
    row p h (yes e) =
        row_own p bs b (row_of t p) (k.rows p h) (row_of u p) e
        (subst (λ (q : ℕ). RowAdded (row_of t q) b.text b.word (row_of u q)) e a.own)
    row p h (no d) = subst (RowKeeps p (bs ++ (b ∷ []))) (sym (a.others p h (λ e. d (sym e)))) (row_other p bs b (row_of t p) (k.rows p h) d)
