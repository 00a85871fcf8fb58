-- The calls that write: the declaration put together aside, 12, and the checks before it.
-- Assumes nothing.
use Rattle.std.specs.Prelude.{Ok, Err}
use Prim.Native.Nat.{ℕ, ◌+◌, ◌-◌, ◌≤◌, ◌<◌}
use mathlib.Core.Path.{◌≡◌, refl, sym, ◌∙◌, ap, subst}
use mathlib.Core.Bool.{true, false}
use mathlib.Core.List.{List}
use native.Mathlib.Omega.{arith}
use lib.ListN.{length, take, drop, replicate, length-replicate}
use borrow.Author.Tests.{lt-ltb, le-ltb}
use Rattle.refusal.specs.declared.Refusal.{Refusal}
use Rattle.refusal.specs.declared.Refusal.TheVariants.{BadParent, NotAModel, BufferTooShort}
use Rattle.refusal.specs.Answer.{Answer}
use Rattle.nameset.specs.Places.{places}
use Rattle.book.specs.declared.Layout.{Layout}
use Rattle.book.specs.Book.{names_in}
use Rattle.book.specs.Layout.{reading_of}
use Rattle.book.specs.Access.{LaidOut}
use Rattle.book.specs.Taken.{taken_book}
use Rattle.book.proofs.Taken as Taken
use Rattle.model.specs.declared.Model.{Model}
use Rattle.model.specs.Record.{IsModel}
use Rattle.model.specs.Check.{is_model}
use Rattle.model.proofs.ModelLaw.{model_law}
use Rattle.declaration_spelling.specs.House.{declaration}
use Rattle.declaration_spelling.specs.Length.{longest_declaration}
use Rattle.byte_buffer.specs.Put.{wrote, Put}
use Rattle.byte_buffer.proofs.Puts.{wrote_none, wrote_back}
use Rattle.declaration_text.proofs.Whole.{declaration_short}
use Rattle.declaration_writing.specs.Write.{fitted, write_in, write_answer, written, buffer_after, Writes}

-- ---- a model of a book that was read

pub fits_aside : (s : List ℕ) (l : Layout) (p : ℕ) (m : Model) → LaidOut s l × (p < l.names) × IsModel places l.names m →
    0 + length (declaration (names_in s) p m) ≤ length (replicate {A = ℕ} longest_declaration 0)
fits_aside s l p m (laid, below, c) =
    let h : length (declaration (names_in s) p m) ≤ longest_declaration = declaration_short s l laid p below m c in
    omega (arith, length-replicate {A = ℕ} longest_declaration 0)

-- ---- 12, else the text

module _ (aside text : List ℕ) (size : ℕ) (filled : List ℕ) (put : Put aside 0 text size filled) (room : 0 + length text ≤ length aside) where
  fits : length text ≤ length aside
  fits = omega arith

  pub size_is : size ≡ length text
  size_is = omega (arith, put.place)

  pub size_fits : size ≤ length filled
  size_fits = omega (arith, put.place, put.same)

  pub part_is : (part : List ℕ) → part ≡ take (size - 0) (drop 0 filled) → part ≡ text
  part_is part e =
      let k : size - 0 ≡ length text = omega (arith, put.place) in
      e ∙ ap (λ (n : ℕ). take n filled) k ∙ ap (take (length text)) put.holds ∙ wrote_back aside text fits

  pub part_fits : (part d : List ℕ) → part ≡ take (size - 0) (drop 0 filled) → size ≤ length d → 0 + length part ≤ length d
  part_fits part d e h = let k : length part ≡ length text = ap length (part_is part e) in omega (arith, size_is)

  module _ (d : List ℕ) where
    pub too_short : length d < size → Writes (fitted (length d) text) (Err BufferTooShort) d d
    unfolding written buffer_after fitted
    too_short h =
        let t : length d < length text = omega (arith, size_is) in
        rw (lt-ltb (length d) (length text) t) (refl, sym (wrote_none d 0))

    pub all_put : (part : List ℕ) (n : ℕ) (f : List ℕ) → size ≤ length d → part ≡ take (size - 0) (drop 0 filled) → Put d 0 part n f →
        Writes (fitted (length d) text) (Ok size) d f
    unfolding written buffer_after fitted
    all_put part n f h e q =
        let t : length text ≤ length d = omega (arith, size_is) in
        rw (le-ltb (length d) (length text) t) (ap Ok size_is, q.holds ∙ ap (wrote d 0) (part_is part e))

-- ---- the checks before

-- a call that stops with this refusal
pub stopped : (d : List ℕ) (f : Refusal) (a : Answer (List ℕ)) → a ≡ Err f → Writes a (Err f) d d
unfolding written buffer_after
stopped d f a q = rw q (refl, sym (wrote_none d 0))

module _ (s : List ℕ) (p : ℕ) (m : Model) (d : List ℕ) where
  pub stopped_book : (f : Refusal) → Err f ≡ reading_of (taken_book s) → Writes (write_answer s p m (length d)) (Err f) d d
  unfolding write_answer
  stopped_book f e = stopped d f (write_answer s p m (length d)) (Taken.take_refused s _ f e)

  module _ (l : Layout) (read : Ok l ≡ reading_of (taken_book s)) where
    book_is : l.names ≡ length (Taken.book s l read).names
    book_is = Taken.names_are s l read

    pub stopped_parent : l.names ≤ p → Writes (write_answer s p m (length d)) (Err BadParent) d d
    unfolding write_answer write_in
    stopped_parent h = stopped d BadParent (write_answer s p m (length d)) (rw (Taken.taken s l read, Taken.parent_refused s l read p h))

    module _ (below : p < l.names) where
      pub stopped_model : is_model places l.names m ≡ false → Writes (write_answer s p m (length d)) (Err NotAModel) d d
      unfolding write_answer write_in
      stopped_model h =
          let k = subst (λ (n : ℕ). is_model places n m ≡ false) book_is h in
          stopped d NotAModel (write_answer s p m (length d)) (rw (Taken.taken s l read, Taken.parent_passed s l read p below, k))

      module _ (good : is_model places l.names m ≡ true) where
        pub writable : LaidOut s l × (p < l.names) × IsModel places l.names m
        writable = (Taken.laid s l read, below, (model_law places l.names m).0 good)

        answer_is : write_answer s p m (length d) ≡ fitted (length d) (declaration (names_in s) p m)
        unfolding write_answer write_in
        answer_is =
            let k = subst (λ (n : ℕ). is_model places n m ≡ true) book_is good in
            rw (Taken.names_taken s l read, Taken.taken s l read, Taken.parent_passed s l read p below, k)

        pub all_passed : (w : Answer ℕ) (f : List ℕ) → Writes (fitted (length d) (declaration (names_in s) p m)) w d f → Writes (write_answer s p m (length d)) w d f
        all_passed w f h = rw answer_is h
