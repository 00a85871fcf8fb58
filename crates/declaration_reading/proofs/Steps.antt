-- The returns of the functions from `is_text` to `read_tokens`, over plain values.
-- Assumes nothing.
use Rattle.std.specs.Prelude.{Ok, Err}
use Prim.Native.Nat.{ℕ, ◌-◌}
use mathlib.Core.Path.{◌≡◌, ◌∙◌, ap}
use mathlib.Core.Bool.{Bool, true, false, cond, not}
use mathlib.Core.List.{List}
use lib.Dec.{eqb}
use lib.ListN.{take, drop}
use borrow.Author.Tests.{ne_eqb}
use Rattle.refusal.specs.declared.Refusal.TheVariants.{NotADeclaration, UnknownName}
use Rattle.refusal.specs.Answer.{refuse_if}
use Rattle.nameset.specs.Places.{places}
use Rattle.std.specs.Prelude.{Option, Some, None}
use Rattle.book.specs.Access.{number_in}
use Rattle.model.specs.declared.Chain.{Chain}
use Rattle.model.specs.declared.Model.{Model}
use Rattle.model.specs.Record.{model_with, empty_chain, empty_model}
use Rattle.declaration_scan.specs.declared.Piece.{Piece}
use Rattle.declaration_scan.specs.Piece.{piece_at}
use Rattle.declaration_spelling.specs.Kind.{word_kind, pcdata_kind, bar_kind, token_kind}
use Rattle.declaration_spelling.specs.Token.{word}
use Rattle.declaration_spelling.specs.Read.{known, number_for, declared}
use Rattle.declaration_walk.specs.Gather.{factors_answer, begins_with_word, begins_with, mixed_answer, content_answer, tokens_answer}
use Rattle.declaration_rows.specs.Place.{tokens_at, part_of, text_kind}
use Rattle.declaration_rows.proofs.Places.{word_next, text_next, bar_next, one_on, two_on, answer_next}
use Rattle.declaration_rows.proofs.Steps.{known_found, known_missing, number_found}

-- ---- the model

-- `#PCDATA`, by the kind of a piece and by the kind of its word
pub text_sign : (kind : ℕ) (w : List ℕ) → (kind ≡ word_kind → ⊥) → false ≡ text_kind kind w
unfolding text_kind
text_sign kind w d = rw (ne_eqb kind word_kind d)

pub text_word : (kind k : ℕ) (s : List ℕ) (from to : ℕ) → kind ≡ word_kind → k ≡ token_kind (word (take (to - from) (drop from s))) → eqb k pcdata_kind ≡ text_kind kind (part_of s from to)
unfolding text_kind part_of
text_word kind k s from to e q = rw (e, q)

module _ (names : List (List ℕ)) (s : List ℕ) (at parent : ℕ) (p : Piece) (is : p ≡ piece_at s at) where
  bar_at : begins_with bar_kind (tokens_at s at) ≡ eqb p.kind bar_kind
  bar_at = rw is (bar_next s at)

  -- behind `(#PCDATA`
  pub mixed_names : p.kind ≡ bar_kind → factors_answer places names parent 1 (tokens_at s at) ≡ mixed_answer places names parent (tokens_at s at)
  unfolding mixed_answer
  mixed_names e = rw (bar_at, e)

  pub mixed_none : (p.kind ≡ bar_kind → ⊥) → (c : Chain) → c ≡ empty_chain places → Ok (declared parent (model_with c 1)) ≡ mixed_answer places names parent (tokens_at s at)
  unfolding mixed_answer
  mixed_none d c e = rw (bar_at, ne_eqb p.kind bar_kind d, ← e)

  word_at : begins_with_word (tokens_at s at) ≡ eqb p.kind word_kind
  word_at = rw is (word_next s at)

  pub model_empty : p.kind ≡ word_kind → (m : Model) → m ≡ empty_model places → Ok (declared parent m) ≡ content_answer places names parent (tokens_at s at)
  unfolding content_answer empty_model
  model_empty e m z = rw (word_at, e, z)

  -- the piece behind the bracket
  module _ (d : p.kind ≡ word_kind → ⊥) (f : Piece) (first : f ≡ piece_at s p.to) (b : Bool) (told : b ≡ text_kind f.kind (part_of s f.from f.to)) where
    behind_one : drop 1 (tokens_at s at) ≡ tokens_at s p.to
    behind_one = rw is (one_on s at)

    behind_two : drop 2 (tokens_at s at) ≡ tokens_at s f.to
    behind_two =
        let e : drop 2 (tokens_at s at) ≡ drop 1 (tokens_at s p.to) = rw is (two_on s at) in
        e ∙ (rw first (one_on s p.to))

    text_at_lem : begins_with pcdata_kind (drop 1 (tokens_at s at)) ≡ b
    text_at_lem = ap (begins_with pcdata_kind) behind_one ∙ (rw (told, first) (text_next s p.to))

    pub model_text : b ≡ true → mixed_answer places names parent (tokens_at s f.to) ≡ content_answer places names parent (tokens_at s at)
    unfolding content_answer
    model_text e = rw (word_at, ne_eqb p.kind word_kind d, text_at_lem, e, behind_two)

    pub model_factors : b ≡ false → factors_answer places names parent 0 (tokens_at s at) ≡ content_answer places names parent (tokens_at s at)
    unfolding content_answer
    model_factors e = rw (word_at, ne_eqb p.kind word_kind d, text_at_lem, e)

-- ---- the parent

module _ (names : List (List ℕ)) (s : List ℕ) (at : ℕ) (p : Piece) (is : p ≡ piece_at s at) where
  answer_at : tokens_answer places names (tokens_at s at)
      ≡ cond (eqb p.kind word_kind)
      (refuse_if (not (known names (part_of s p.from p.to))) UnknownName (content_answer places names (number_for names (part_of s p.from p.to)) (tokens_at s p.to)))
      (Err NotADeclaration)
  answer_at = rw is (answer_next places names s at)

  pub tokens_none : (p.kind ≡ word_kind → ⊥) → Err NotADeclaration ≡ tokens_answer places names (tokens_at s at)
  tokens_none d = rw (answer_at, ne_eqb p.kind word_kind d)

  module _ (e : p.kind ≡ word_kind) (part : List ℕ) (parts : part ≡ take (p.to - p.from) (drop p.from s)) (o : Option ℕ) (found : o ≡ number_in names part) where
    part_is : part ≡ part_of s p.from p.to
    unfolding part_of
    part_is = parts

    pub tokens_unknown : o ≡ None → Err UnknownName ≡ tokens_answer places names (tokens_at s at)
    tokens_unknown n = rw (answer_at, e, ← part_is, ← known_missing names part o found n)

    pub tokens_model : (x : ℕ) → o ≡ Some x → content_answer places names x (tokens_at s p.to) ≡ tokens_answer places names (tokens_at s at)
    tokens_model x n = rw (answer_at, e, ← part_is, ← known_found names part o found x n, ← number_found names part o found x n)
