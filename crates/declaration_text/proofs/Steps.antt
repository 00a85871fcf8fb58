-- The parts of a declaration, put one after the other.
-- Assumes nothing.
use Prim.Native.Nat.{ℕ, suc, ◌+◌, ◌-◌, ◌≤◌, ◌<◌}
use mathlib.Core.Path.{◌≡◌, sym, ◌∙◌, ap}
use mathlib.Core.Bool.{true}
use mathlib.Core.List.{List, [], ◌∷◌, ◌++◌}
use native.Mathlib.Omega.{arith}
use lib.ListN.{length}
use borrow.Author.Tests.{ne_eqb}
use Rattle.nameset.specs.declared.NameSet.{NameSet}
use Rattle.model.specs.declared.Chain.{Chain}
use Rattle.model.specs.declared.Model.{Model}
use Rattle.declaration_spelling.specs.House.{name_at, opening, empty_word, pcdata_word}
use Rattle.byte_buffer.specs.Put.{Put, shown}
use Rattle.byte_buffer.proofs.Puts.{Left, left_start, left_is, left_put, left_room, left_fits, left_done, left_last, put_is}
use Rattle.model_factors.specs.Names.{NamesOf}
use Rattle.declaration_factor.specs.Parts.{before_byte, set_text, part_text, factors_text, body_part, mixed_end, mixed_part, content_part, text_of}
use Rattle.declaration_factor.proofs.Rising.{names_of_set}

-- ---- the factors

module _ (names : List (List ℕ)) (n : ℕ) (m : Chain) where
  pub factors_start : (d : List ℕ) (at : ℕ) → Left d at (factors_text names n m 0 m.count) d at (factors_text names n m 0 (m.count - 0))
  factors_start d at = let e : m.count - 0 ≡ m.count = omega arith in rw e (left_start d at (factors_text names n m 0 m.count))

  factors_step : (i b : ℕ) → i < m.count → b ≡ before_byte i →
      factors_text names n m i (m.count - i) ≡ shown b ++ (part_text names n m i ++ factors_text names n m (i + 1) (m.count - (i + 1)))
  unfolding factors_text
  factors_step i b h e =
      let a : m.count - i ≡ suc (m.count - (i + 1)) = omega arith in
      let q : i + 1 ≡ suc i = omega arith in
      ap (factors_text names n m i) a ∙ rw (e, q)

  module _ (i b : ℕ) (below : i < m.count) (eb : b ≡ before_byte i)
      (d₀ : List ℕ) (at : ℕ) (whole d : List ℕ) (to : ℕ) (l : Left d₀ at whole d to (factors_text names n m i (m.count - i))) where
    due : Left d₀ at whole d to (shown b ++ (part_text names n m i ++ factors_text names n m (i + 1) (m.count - (i + 1))))
    due = left_is d₀ at whole d to _ _ (factors_step i b below eb) l

    pub before_room : at + length whole ≤ length d₀ → to + length (shown b) ≤ length d
    before_room h = left_room d₀ at whole d to (shown b) (part_text names n m i ++ factors_text names n m (i + 1) (m.count - (i + 1))) due h

    module _ (t₁ : ℕ) (d₁ : List ℕ) (p₁ : Put d to (shown b) t₁ d₁) where
      behind : Left d₀ at whole d₁ t₁ (part_text names n m i ++ factors_text names n m (i + 1) (m.count - (i + 1)))
      behind = left_put d₀ at whole d to (shown b) (part_text names n m i ++ factors_text names n m (i + 1) (m.count - (i + 1))) d₁ t₁ due p₁

      pub factor_room : at + length whole ≤ length d₀ → t₁ + length (part_text names n m i) ≤ length d₁
      factor_room h = left_room d₀ at whole d₁ t₁ (part_text names n m i) (factors_text names n m (i + 1) (m.count - (i + 1))) behind h

      pub factors_more : (t₂ : ℕ) (d₂ : List ℕ) → Put d₁ t₁ (part_text names n m i) t₂ d₂ → Left d₀ at whole d₂ t₂ (factors_text names n m (i + 1) (m.count - (i + 1)))
      factors_more t₂ d₂ p₂ = left_put d₀ at whole d₁ t₁ (part_text names n m i) (factors_text names n m (i + 1) (m.count - (i + 1))) d₂ t₂ behind p₂

  pub factors_done : (i : ℕ) → m.count ≤ i → (d₀ : List ℕ) (at : ℕ) (whole d : List ℕ) (to : ℕ) → Left d₀ at whole d to (factors_text names n m i (m.count - i)) → Put d₀ at whole to d
  unfolding factors_text
  factors_done i h d₀ at whole d to l =
      let a : m.count - i ≡ 0 = omega arith in
      left_done d₀ at whole d to (left_is d₀ at whole d to _ [] (ap (factors_text names n m i) a) l)

  -- ---- a model without text

  body_empty : m.count ≡ 0 → body_part names n m ≡ 69 ∷ 77 ∷ 80 ∷ 84 ∷ 89 ∷ []
  unfolding body_part empty_word
  body_empty e = rw e

  pub empty_room : m.count ≡ 0 → (at L : ℕ) → at + length (body_part names n m) ≤ L → at + 5 ≤ L
  empty_room e at L h = let k : length (body_part names n m) ≡ 5 = ap length (body_empty e) in omega arith

  pub empty_put : m.count ≡ 0 → (d : List ℕ) (at to : ℕ) (f : List ℕ) → Put d at (69 ∷ 77 ∷ 80 ∷ 84 ∷ 89 ∷ []) to f → Put d at (body_part names n m) to f
  empty_put e d at to f p = put_is d at _ _ to f (sym (body_empty e)) p

  module _ (some : m.count ≡ 0 → ⊥) (d : List ℕ) (at : ℕ) (fits : at + length (body_part names n m) ≤ length d) where
    opened : Left d at (body_part names n m) d at (factors_text names n m 0 m.count ++ shown 41)
    unfolding body_part
    opened = rw (ne_eqb m.count 0 some) (left_start d at (factors_text names n m 0 m.count ++ shown 41))

    pub factors_room : at + length (factors_text names n m 0 m.count) ≤ length d
    factors_room = left_room d at (body_part names n m) d at (factors_text names n m 0 m.count) (shown 41) opened fits

    module _ (t₁ : ℕ) (d₁ : List ℕ) (p₁ : Put d at (factors_text names n m 0 m.count) t₁ d₁) where
      filled : Left d at (body_part names n m) d₁ t₁ (shown 41)
      filled = left_put d at (body_part names n m) d at (factors_text names n m 0 m.count) (shown 41) d₁ t₁ opened p₁

      pub bracket_room : t₁ + length (shown 41) ≤ length d₁
      bracket_room = left_fits d at (body_part names n m) d₁ t₁ (shown 41) filled fits

      pub body_put : (t₂ : ℕ) (d₂ : List ℕ) → Put d₁ t₁ (shown 41) t₂ d₂ → Put d at (body_part names n m) t₂ d₂
      body_put t₂ d₂ p₂ = left_last d at (body_part names n m) d₁ t₁ (shown 41) d₂ t₂ filled p₂

  -- ---- a model with text

  module _ (d : List ℕ) (at : ℕ) (fits : at + length (mixed_part names n m) ≤ length d) where
    unmixed : Left d at (mixed_part names n m) d at ((40 ∷ 35 ∷ 80 ∷ 67 ∷ 68 ∷ 65 ∷ 84 ∷ 65 ∷ []) ++ mixed_end names n m)
    unfolding mixed_part pcdata_word
    unmixed = left_start d at (mixed_part names n m)

    pub word_room : at + 8 ≤ length d
    word_room = left_room d at (mixed_part names n m) d at (40 ∷ 35 ∷ 80 ∷ 67 ∷ 68 ∷ 65 ∷ 84 ∷ 65 ∷ []) (mixed_end names n m) unmixed fits

    module _ (t₁ : ℕ) (d₁ : List ℕ) (p₁ : Put d at (40 ∷ 35 ∷ 80 ∷ 67 ∷ 68 ∷ 65 ∷ 84 ∷ 65 ∷ []) t₁ d₁) where
      worded : Left d at (mixed_part names n m) d₁ t₁ (mixed_end names n m)
      worded = left_put d at (mixed_part names n m) d at (40 ∷ 35 ∷ 80 ∷ 67 ∷ 68 ∷ 65 ∷ 84 ∷ 65 ∷ []) (mixed_end names n m) d₁ t₁ unmixed p₁

      -- no name
      module _ (none : m.count ≡ 0) where
        end_alone : mixed_end names n m ≡ shown 41
        unfolding mixed_end
        end_alone = rw none

        ending : Left d at (mixed_part names n m) d₁ t₁ (shown 41)
        ending = left_is d at (mixed_part names n m) d₁ t₁ _ _ end_alone worded

        pub alone_room : t₁ + length (shown 41) ≤ length d₁
        alone_room = left_fits d at (mixed_part names n m) d₁ t₁ (shown 41) ending fits

        pub alone_put : (t₂ : ℕ) (d₂ : List ℕ) → Put d₁ t₁ (shown 41) t₂ d₂ → Put d at (mixed_part names n m) t₂ d₂
        alone_put t₂ d₂ p₂ = left_last d at (mixed_part names n m) d₁ t₁ (shown 41) d₂ t₂ ending p₂

      -- the names of factor 0, which are those of the set s
      module _ (some : m.count ≡ 0 → ⊥) (s : NameSet) (holds : NamesOf m n 0 s) where
        end_names : mixed_end names n m ≡ set_text names n s true true ++ (41 ∷ 42 ∷ [])
        unfolding mixed_end
        end_names = rw (ne_eqb m.count 0 some, names_of_set m n 0 s holds names true true)

        naming : Left d at (mixed_part names n m) d₁ t₁ (set_text names n s true true ++ (41 ∷ 42 ∷ []))
        naming = left_is d at (mixed_part names n m) d₁ t₁ _ _ end_names worded

        pub names_room : t₁ + length (set_text names n s true true) ≤ length d₁
        names_room = left_room d at (mixed_part names n m) d₁ t₁ (set_text names n s true true) (41 ∷ 42 ∷ []) naming fits

        module _ (t₂ : ℕ) (d₂ : List ℕ) (p₂ : Put d₁ t₁ (set_text names n s true true) t₂ d₂) where
          starring : Left d at (mixed_part names n m) d₂ t₂ (41 ∷ 42 ∷ [])
          starring = left_put d at (mixed_part names n m) d₁ t₁ (set_text names n s true true) (41 ∷ 42 ∷ []) d₂ t₂ naming p₂

          pub star_room : t₂ + 2 ≤ length d₂
          star_room = left_fits d at (mixed_part names n m) d₂ t₂ (41 ∷ 42 ∷ []) starring fits

          pub mixed_put : (t₃ : ℕ) (d₃ : List ℕ) → Put d₂ t₂ (41 ∷ 42 ∷ []) t₃ d₃ → Put d at (mixed_part names n m) t₃ d₃
          mixed_put t₃ d₃ p₃ = left_last d at (mixed_part names n m) d₂ t₂ (41 ∷ 42 ∷ []) d₃ t₃ starring p₃

-- ---- the model, by its text byte

module _ (names : List (List ℕ)) (n : ℕ) (m : Model) where
  content_body : m.text ≡ 0 → content_part names n m ≡ body_part names n m.chain
  unfolding content_part
  content_body e = rw e

  content_mixed : (m.text ≡ 0 → ⊥) → content_part names n m ≡ mixed_part names n m.chain
  unfolding content_part
  content_mixed e = rw (ne_eqb m.text 0 e)

  pub body_room : m.text ≡ 0 → (at L : ℕ) → at + length (content_part names n m) ≤ L → at + length (body_part names n m.chain) ≤ L
  body_room e at L h = omega (arith, ap length (content_body e))

  pub mixed_room : (m.text ≡ 0 → ⊥) → (at L : ℕ) → at + length (content_part names n m) ≤ L → at + length (mixed_part names n m.chain) ≤ L
  mixed_room e at L h = omega (arith, ap length (content_mixed e))

  pub without_text : m.text ≡ 0 → (d : List ℕ) (at to : ℕ) (f : List ℕ) → Put d at (body_part names n m.chain) to f → Put d at (content_part names n m) to f
  without_text e d at to f p = put_is d at _ _ to f (sym (content_body e)) p

  pub with_text_lem : (m.text ≡ 0 → ⊥) → (d : List ℕ) (at to : ℕ) (f : List ℕ) → Put d at (mixed_part names n m.chain) to f → Put d at (content_part names n m) to f
  with_text_lem e d at to f p = put_is d at _ _ to f (sym (content_mixed e)) p

  -- ---- the whole

  module _ (p : ℕ) (d : List ℕ) (at : ℕ) (room : at + length (text_of names n p m) ≤ length d) where
    start : Left d at (text_of names n p m) d at ((60 ∷ 33 ∷ 69 ∷ 76 ∷ 69 ∷ 77 ∷ 69 ∷ 78 ∷ 84 ∷ 32 ∷ []) ++ (name_at names p ++ (shown 32 ++ (content_part names n m ++ shown 62))))
    unfolding text_of opening
    start = left_start d at (text_of names n p m)

    pub opening_room : at + 10 ≤ length d
    opening_room = left_room d at (text_of names n p m) d at (60 ∷ 33 ∷ 69 ∷ 76 ∷ 69 ∷ 77 ∷ 69 ∷ 78 ∷ 84 ∷ 32 ∷ []) (name_at names p ++ (shown 32 ++ (content_part names n m ++ shown 62))) start room

    module _ (t₁ : ℕ) (d₁ : List ℕ) (p₁ : Put d at (60 ∷ 33 ∷ 69 ∷ 76 ∷ 69 ∷ 77 ∷ 69 ∷ 78 ∷ 84 ∷ 32 ∷ []) t₁ d₁) where
      l₁ : Left d at (text_of names n p m) d₁ t₁ (name_at names p ++ (shown 32 ++ (content_part names n m ++ shown 62)))
      l₁ = left_put d at (text_of names n p m) d at (60 ∷ 33 ∷ 69 ∷ 76 ∷ 69 ∷ 77 ∷ 69 ∷ 78 ∷ 84 ∷ 32 ∷ []) (name_at names p ++ (shown 32 ++ (content_part names n m ++ shown 62))) d₁ t₁ start p₁

      pub parent_room : t₁ + length (name_at names p) ≤ length d₁
      parent_room = left_room d at (text_of names n p m) d₁ t₁ (name_at names p) (shown 32 ++ (content_part names n m ++ shown 62)) l₁ room

      module _ (t₂ : ℕ) (d₂ : List ℕ) (p₂ : Put d₁ t₁ (name_at names p) t₂ d₂) where
        l₂ : Left d at (text_of names n p m) d₂ t₂ (shown 32 ++ (content_part names n m ++ shown 62))
        l₂ = left_put d at (text_of names n p m) d₁ t₁ (name_at names p) (shown 32 ++ (content_part names n m ++ shown 62)) d₂ t₂ l₁ p₂

        pub space_room : t₂ + length (shown 32) ≤ length d₂
        space_room = left_room d at (text_of names n p m) d₂ t₂ (shown 32) (content_part names n m ++ shown 62) l₂ room

        module _ (t₃ : ℕ) (d₃ : List ℕ) (p₃ : Put d₂ t₂ (shown 32) t₃ d₃) where
          l₃ : Left d at (text_of names n p m) d₃ t₃ (content_part names n m ++ shown 62)
          l₃ = left_put d at (text_of names n p m) d₂ t₂ (shown 32) (content_part names n m ++ shown 62) d₃ t₃ l₂ p₃

          pub content_room : t₃ + length (content_part names n m) ≤ length d₃
          content_room = left_room d at (text_of names n p m) d₃ t₃ (content_part names n m) (shown 62) l₃ room

          module _ (t₄ : ℕ) (d₄ : List ℕ) (p₄ : Put d₃ t₃ (content_part names n m) t₄ d₄) where
            l₄ : Left d at (text_of names n p m) d₄ t₄ (shown 62)
            l₄ = left_put d at (text_of names n p m) d₃ t₃ (content_part names n m) (shown 62) d₄ t₄ l₃ p₄

            pub end_room : t₄ + length (shown 62) ≤ length d₄
            end_room = left_fits d at (text_of names n p m) d₄ t₄ (shown 62) l₄ room

            pub text_put : (t₅ : ℕ) (d₅ : List ℕ) → Put d₄ t₄ (shown 62) t₅ d₅ → Put d at (text_of names n p m) t₅ d₅
            text_put t₅ d₅ p₅ = left_last d at (text_of names n p m) d₄ t₄ (shown 62) d₅ t₅ l₄ p₅
