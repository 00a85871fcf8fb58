-- When the call gives each answer: what stops it, and the verdict.
-- Assumes nothing.
use Rattle.std.specs.Prelude.{Ok, Err}
use Prim.Native.Nat.{ℕ, ◌%◌, ◌≤◌, ◌<◌}
use mathlib.Core.Path.{◌≡◌, refl, sym, ap, subst}
use mathlib.Core.Bool.{Bool, true, false, not}
use mathlib.Core.List.{List}
use mathlib.Core.Logic.{◌↔◌, ◌⊎◌, inl, inr, ⊎_elim}
use native.Mathlib.Omega.{arith}
use borrow.Author.Tests.{lt-ltb, le-ltb, ltb-true, ltb-false, eq-eqb, ne_eqb, eqb-true, eqb-false, not-true, not-false}
use lib.Dec.{eqb, ltb}
use lib.ListN.{length}
use Rattle.refusal.specs.declared.Refusal.{Refusal}
use Rattle.refusal.specs.declared.Refusal.TheVariants.{BookTooLong, BadNameCount, NotAModel, BadDocument, TooDeep}
use Rattle.refusal.specs.Answer.{Answer, refuse_if}
use Rattle.refusal.proofs.Answers.{check_law, pass_law}
use Rattle.refusal.proofs.Checks.{other, own_check, next_check, avoids, own_or_next}
use Rattle.nameset.specs.Places.{places, OutOfRange, good_count}
use Rattle.nameset.proofs.Count.{count_bounds, bounds_count, count_bad}
use Rattle.model_table.specs.Table.{entry_of}
use Rattle.model_table_check.specs.Check.{BadRecord, Models, all_models}
use Rattle.model_table_check.proofs.Laws.{models_law, bad_law}
use Rattle.document.specs.Tree.{Tree, IsDocument, Valid}
use Rattle.document.specs.Fault.{unbegun, FirstFault}
use Rattle.document.specs.Walk.{walk, start}
use Rattle.document.proofs.Forward.{even_document}
use Rattle.document.proofs.Theorem.{walk_given, walk_yes, walk_no, walk_refused, walk_which}
use Rattle.intake_document.specs.Document.{longest_document, document_answer, Ready}

module _ (n : ℕ) (table w : List ℕ) where
  -- ---- the checks, and what is behind each

  long : Bool
  long = ltb longest_document (length w)

  odd : Bool
  odd = eqb (length w % 2) 1

  on_pairs : Answer Bool
  on_pairs = walk n (entry_of table) start w

  behind_models : Answer Bool
  behind_models = refuse_if odd BadDocument on_pairs

  behind_count : Answer Bool
  behind_count = refuse_if (not (all_models n table)) NotAModel behind_models

  behind_length : Answer Bool
  behind_length = refuse_if (not (good_count n)) BadNameCount behind_count

  answer_is : document_answer n table w ≡ refuse_if long BookTooLong behind_length
  unfolding document_answer behind_length behind_count behind_models on_pairs odd long
  answer_is = refl

  -- ---- what the checks mean

  short_law : (long ≡ false) ↔ (length w ≤ longest_document)
  unfolding long
  short_law = (ltb-false longest_document (length w), le-ltb longest_document (length w))

  count_law : (not (good_count n) ≡ false) ↔ ((0 < n) × (n ≤ places))
  count_law = (λ e. count_bounds n (not-false (good_count n) e), λ (a, b). ap not (bounds_count n a b))

  all_law : (not (all_models n table) ≡ false) ↔ Models n table
  all_law = (λ e. (models_law n table).0 (not-false (all_models n table) e), λ m. ap not ((models_law n table).1 m))

  odd_law : (odd ≡ true) ↔ (length w % 2 ≡ 1)
  unfolding odd
  odd_law = (eqb-true (length w % 2) 1, eq-eqb (length w % 2) 1)

  even_law : (odd ≡ false) ↔ (length w % 2 ≡ 0)
  unfolding odd
  even_law = (λ e. let h : ¬ (length w % 2 ≡ 1) = eqb-false (length w % 2) 1 e in omega arith, λ e. ne_eqb (length w % 2) 1 (λ q. omega arith))

  -- ---- what the pairs never give

  pairs_only : (f : Refusal) → behind_models ≡ Err f → (f ≡ BadDocument) ⊎ (f ≡ TooDeep)
  unfolding behind_models on_pairs
  pairs_only f e = ⊎_elim (λ q. inl (sym q)) (walk_which n (entry_of table) w start f) (own_or_next odd BadDocument on_pairs f e)

  pairs_never : (f : Refusal) → ¬ (f ≡ BadDocument) → ¬ (f ≡ TooDeep) → ¬ (behind_models ≡ Err f)
  pairs_never f a b e = ⊎_elim a b (pairs_only f e)

  -- ---- 1, 3, 10

  pub answer_long : (document_answer n table w ≡ Err BookTooLong) ↔ (longest_document < length w)
  unfolding behind_length behind_count long
  answer_long =
      rw answer_is
      (own_check long BookTooLong behind_length (ltb-true longest_document (length w), lt-ltb longest_document (length w))
      (avoids (not (good_count n)) BadNameCount behind_count BookTooLong (other BadNameCount BookTooLong refl)
      (avoids (not (all_models n table)) NotAModel behind_models BookTooLong (other NotAModel BookTooLong refl)
      (pairs_never BookTooLong (other BookTooLong BadDocument refl) (other BookTooLong TooDeep refl)))))

  pub answer_count : (document_answer n table w ≡ Err BadNameCount) ↔ ((length w ≤ longest_document) × OutOfRange n)
  unfolding behind_length behind_count
  answer_count =
      rw answer_is
      (next_check long BookTooLong behind_length BadNameCount (other BookTooLong BadNameCount refl) short_law
      (own_check (not (good_count n)) BadNameCount behind_count (λ e. (count_bad n).0 (not-true (good_count n) e), λ h. ap not ((count_bad n).1 h))
      (avoids (not (all_models n table)) NotAModel behind_models BadNameCount (other NotAModel BadNameCount refl)
      (pairs_never BadNameCount (other BadNameCount BadDocument refl) (other BadNameCount TooDeep refl)))))

  pub answer_model : (document_answer n table w ≡ Err NotAModel) ↔ ((length w ≤ longest_document) × (((0 < n) × (n ≤ places)) × BadRecord n table))
  unfolding behind_length behind_count
  answer_model =
      rw answer_is
      (next_check long BookTooLong behind_length NotAModel (other BookTooLong NotAModel refl) short_law
      (next_check (not (good_count n)) BadNameCount behind_count NotAModel (other BadNameCount NotAModel refl) count_law
      (own_check (not (all_models n table)) NotAModel behind_models
      (λ e. (bad_law n table).0 (not-true (all_models n table) e), λ h. ap not ((bad_law n table).1 h))
      (pairs_never NotAModel (other NotAModel BadDocument refl) (other NotAModel TooDeep refl)))))

  -- ---- past these checks

  ready_law : {K C : Type 0} → K ↔ ((length w ≤ longest_document) × (((0 < n) × (n ≤ places)) × (Models n table × C))) → K ↔ (Ready n table w × C)
  ready_law h = (
    λ k. let (s, ((a, b), (m, c))) = h.0 k in (record { short = s; some = a; few = b; models = m }, c),
    λ (r, c). h.1 (r.short, ((r.some, r.few), (r.models, c))),
  )

  ready_refused : {C : Type 0} (f : Refusal) → ¬ (BookTooLong ≡ f) → ¬ (BadNameCount ≡ f) → ¬ (NotAModel ≡ f) →
      (behind_models ≡ Err f) ↔ C → (document_answer n table w ≡ Err f) ↔ (Ready n table w × C)
  unfolding behind_length behind_count
  ready_refused f a b c law =
      rw answer_is
      (ready_law
      (next_check long BookTooLong behind_length f a short_law
      (next_check (not (good_count n)) BadNameCount behind_count f b count_law
      (next_check (not (all_models n table)) NotAModel behind_models f c all_law law))))

  -- a check that is passed, before what is behind it
  passed : {Q C : Type 0} (t : Bool) (r : Refusal) (next : Answer Bool) (b : Bool) → (t ≡ false) ↔ Q → (next ≡ Ok b) ↔ C → (refuse_if t r next ≡ Ok b) ↔ (Q × C)
  passed t r next b law behind =
      let h = pass_law t r next b in
      (λ e. let (p, q) = h.0 e in (law.0 p, behind.0 q), λ (q, c). h.1 (law.1 q, behind.1 c))

  ready_given : (b : Bool) → (document_answer n table w ≡ Ok b) ↔ (Ready n table w × ((length w % 2 ≡ 0) × (on_pairs ≡ Ok b)))
  unfolding behind_length behind_count behind_models
  ready_given b =
      rw answer_is
      (ready_law
      (passed long BookTooLong behind_length b short_law
      (passed (not (good_count n)) BadNameCount behind_count b count_law
      (passed (not (all_models n table)) NotAModel behind_models b all_law
      (passed odd BadDocument on_pairs b even_law (λ e. e, λ e. e))))))

  -- ---- 18, 19

  fault_law : (f : Refusal) → length w % 2 ≡ 0 → (on_pairs ≡ Err f) ↔ FirstFault n unbegun w f
  unfolding on_pairs
  fault_law f even = walk_refused n (entry_of table) w even f

  pub answer_bad : (document_answer n table w ≡ Err BadDocument)
      ↔ (Ready n table w × ((length w % 2 ≡ 1) ⊎ ((length w % 2 ≡ 0) × FirstFault n unbegun w BadDocument)))
  unfolding behind_models
  answer_bad =
      let h = check_law odd BadDocument on_pairs BadDocument in
      ready_refused BadDocument (other BookTooLong BadDocument refl) (other BadNameCount BadDocument refl) (other NotAModel BadDocument refl) (
        λ e. ⊎_elim (λ (o, q). inl (odd_law.0 o)) (λ (o, q). inr (even_law.0 o, (fault_law BadDocument (even_law.0 o)).0 q)) (h.0 e),
        λ c. h.1 (⊎_elim (λ o. inl (odd_law.1 o, refl)) (λ (o, q). inr (even_law.1 o, (fault_law BadDocument o).1 q)) c),
      )

  pub answer_deep : (document_answer n table w ≡ Err TooDeep) ↔ (Ready n table w × ((length w % 2 ≡ 0) × FirstFault n unbegun w TooDeep))
  unfolding behind_models
  answer_deep =
      let h = check_law odd BadDocument on_pairs TooDeep in
      ready_refused TooDeep (other BookTooLong TooDeep refl) (other BadNameCount TooDeep refl) (other NotAModel TooDeep refl) (
        λ e. ⊎_elim (λ (o, q). absurd (other BadDocument TooDeep refl q)) (λ (o, q). (even_law.0 o, (fault_law TooDeep (even_law.0 o)).0 q)) (h.0 e),
        λ (o, q). h.1 (inr (even_law.1 o, (fault_law TooDeep o).1 q)),
      )

  -- No other refusal comes.
  pub answer_only : (f : Refusal) → document_answer n table w ≡ Err f →
      (f ≡ BookTooLong) ⊎ ((f ≡ BadNameCount) ⊎ ((f ≡ NotAModel) ⊎ ((f ≡ BadDocument) ⊎ (f ≡ TooDeep))))
  unfolding behind_length behind_count
  answer_only f e =
      ⊎_elim (λ q. inl (sym q)) (λ p. inr (
      ⊎_elim (λ q. inl (sym q)) (λ k. inr (
      ⊎_elim (λ q. inl (sym q)) (λ m. inr (pairs_only f m))
      (own_or_next (not (all_models n table)) NotAModel behind_models f k)))
      (own_or_next (not (good_count n)) BadNameCount behind_count f p)))
      (own_or_next long BookTooLong behind_length f (rw answer_is at e))

  -- ---- the verdict

  -- A verdict, where the walk gives it for a tree with P. The pairs of a tree are of even length.
  on_tree : {P : Tree → Type 0} (b : Bool) → (0 < n → (on_pairs ≡ Ok b) ↔ ((t : Tree) × IsDocument n t w × P t)) →
      (document_answer n table w ≡ Ok b) ↔ (Ready n table w × ((t : Tree) × IsDocument n t w × P t))
  on_tree b law =
      let h = ready_given b in (
        λ e. let (r, (v, q)) = h.0 e in (r, (law r.some).0 q),
        λ (r, (t, (a, e), p)). h.1 (r, (subst (λ (v : List ℕ). length v % 2 ≡ 0) (sym e) (even_document t), (law r.some).1 (t, (a, e), p))),
      )

  pub answer_yes : (document_answer n table w ≡ Ok true) ↔ (Ready n table w × ((t : Tree) × IsDocument n t w × Valid (entry_of table) t))
  unfolding on_pairs
  answer_yes = on_tree true (λ some. walk_yes n (entry_of table) some w)

  pub answer_no : (document_answer n table w ≡ Ok false) ↔ (Ready n table w × ((t : Tree) × IsDocument n t w × (¬ Valid (entry_of table) t)))
  unfolding on_pairs
  answer_no = on_tree false (λ some. walk_no n (entry_of table) some w)

  -- One of the two is given exactly where the pairs are those of a tree.
  pub answer_given : ((b : Bool) × (document_answer n table w ≡ Ok b)) ↔ (Ready n table w × ((t : Tree) × IsDocument n t w))
  unfolding on_pairs
  answer_given = (λ (b, e). to b e, λ (r, (t, d)). from r t d)
    where
      to : (b : Bool) → document_answer n table w ≡ Ok b → Ready n table w × ((t : Tree) × IsDocument n t w)
      to true e = let (r, (t, d, v)) = answer_yes.0 e in (r, (t, d))
      to false e = let (r, (t, d, v)) = answer_no.0 e in (r, (t, d))

      from : Ready n table w → (t : Tree) → IsDocument n t w → (b : Bool) × (document_answer n table w ≡ Ok b)
      from r t (a, e) =
          let (b, q) = walk_given n (entry_of table) r.some w t (a, e) in
          (b, (ready_given b).1 (r, (subst (λ (v : List ℕ). length v % 2 ≡ 0) (sym e) (even_document t), q)))
