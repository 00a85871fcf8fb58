-- The text of a factor, put part by part.
-- Assumes nothing.
use Prim.Native.Nat.{ℕ, ◌+◌, ◌≤◌}
use mathlib.Core.Path.{◌≡◌, ◌∙◌, ap}
use mathlib.Core.Bool.{Bool, true, false}
use mathlib.Core.List.{List, [], ◌∷◌, ◌++◌}
use lib.ListN.{length, get_or}
use Rattle.nameset.specs.declared.NameSet.{NameSet}
use Rattle.nameset.specs.Set.{member, rest}
use Rattle.model.specs.declared.Chain.{Chain}
use Rattle.model.specs.Record.{mode_of}
use Rattle.declaration_spelling.specs.House.{name_at, names_at}
use Rattle.byte_buffer.specs.Put.{Put, shown}
use Rattle.byte_buffer.proofs.Puts.{Left, left_start, left_is, left_put, left_room, left_fits, left_done, left_last, put_is}
use Rattle.model_factors.specs.Names.{NamesOf}
use Rattle.declaration_factor.specs.Parts.{lead_byte, close_byte, mode_byte, rising, leads, set_text, many_in, part_text}
use Rattle.declaration_factor.proofs.Rising.{rising_none, names_of_set}

-- ---- a name

module _ (names : List (List ℕ)) (x : ℕ) (w : List ℕ) (is : w ≡ get_or names x []) where
  pub name_room : (at L : ℕ) → at + length (name_at names x) ≤ L → at + length w ≤ L
  unfolding name_at
  name_room at L h = rw is h

  pub name_put : (d : List ℕ) (at to : ℕ) (e : List ℕ) → Put d at w to e → Put d at (name_at names x) to e
  unfolding name_at
  name_put d at to e p = put_is d at w (get_or names x []) to e is p

-- ---- the names of a set

module _ (names : List (List ℕ)) (n : ℕ) (many : Bool) where
  names_step : (s : NameSet) (some : Bool) (x lead : ℕ) → rising s 0 n ≡ x ∷ rising (rest s) 0 n → lead ≡ lead_byte many some →
      set_text names n s many some ≡ shown lead ++ (name_at names x ++ set_text names n (rest s) many true)
  unfolding set_text leads names_at
  names_step s some x lead e q = ap (λ (xs : List ℕ). leads many some (names_at names xs)) e ∙ rw q

  -- a turn for the smallest name x
  module _ (s : NameSet) (some : Bool) (x lead : ℕ) (turn : rising s 0 n ≡ x ∷ rising (rest s) 0 n) (el : lead ≡ lead_byte many some)
      (d₀ : List ℕ) (at : ℕ) (whole d : List ℕ) (to : ℕ) (l : Left d₀ at whole d to (set_text names n s many some)) where
    next : Left d₀ at whole d to (shown lead ++ (name_at names x ++ set_text names n (rest s) many true))
    next = left_is d₀ at whole d to _ _ (names_step s some x lead turn el) l

    pub lead_room : at + length whole ≤ length d₀ → to + length (shown lead) ≤ length d
    lead_room h = left_room d₀ at whole d to (shown lead) (name_at names x ++ set_text names n (rest s) many true) next h

    module _ (t₁ : ℕ) (d₁ : List ℕ) (p₁ : Put d to (shown lead) t₁ d₁) where
      led : Left d₀ at whole d₁ t₁ (name_at names x ++ set_text names n (rest s) many true)
      led = left_put d₀ at whole d to (shown lead) (name_at names x ++ set_text names n (rest s) many true) d₁ t₁ next p₁

      pub member_room : at + length whole ≤ length d₀ → t₁ + length (name_at names x) ≤ length d₁
      member_room h = left_room d₀ at whole d₁ t₁ (name_at names x) (set_text names n (rest s) many true) led h

      pub names_more : (t₂ : ℕ) (d₂ : List ℕ) → Put d₁ t₁ (name_at names x) t₂ d₂ → (r : NameSet) → r ≡ rest s → Left d₀ at whole d₂ t₂ (set_text names n r many true)
      names_more t₂ d₂ p₂ r e = rw e (left_put d₀ at whole d₁ t₁ (name_at names x) (set_text names n (rest s) many true) d₂ t₂ led p₂)

  pub names_done : (s : NameSet) (some : Bool) → ((j : ℕ) → member s j ≡ false) → (d₀ : List ℕ) (at : ℕ) (whole d : List ℕ) (to : ℕ) →
      Left d₀ at whole d to (set_text names n s many some) → Put d₀ at whole to d
  unfolding set_text leads names_at
  names_done s some h d₀ at whole d to l =
      left_done d₀ at whole d to (left_is d₀ at whole d to _ [] (ap (λ (xs : List ℕ). leads many some (names_at names xs)) (rising_none s 0 n h)) l)

-- ---- a factor, whose names are those of the set s

module _ (names : List (List ℕ)) (n : ℕ) (m : Chain) (i : ℕ) (s : NameSet) (holds : NamesOf m n i s) (many : Bool) (is : many ≡ many_in n m i)
    (d : List ℕ) (at : ℕ) (fits : at + length (part_text names n m i) ≤ length d) where
  begun : Left d at (part_text names n m i) d at (set_text names n s many false ++ (shown (close_byte many) ++ shown (mode_byte (mode_of m i))))
  unfolding part_text
  begun = rw (names_of_set m n i s holds names many false, is) (left_start d at (part_text names n m i))

  pub inner_room : at + length (set_text names n s many false) ≤ length d
  inner_room = left_room d at (part_text names n m i) d at (set_text names n s many false) (shown (close_byte many) ++ shown (mode_byte (mode_of m i))) begun fits

  module _ (t₁ : ℕ) (d₁ : List ℕ) (p₁ : Put d at (set_text names n s many false) t₁ d₁) (close : ℕ) (ec : close ≡ close_byte many) where
    named : Left d at (part_text names n m i) d₁ t₁ (shown close ++ shown (mode_byte (mode_of m i)))
    named = rw ec (left_put d at (part_text names n m i) d at (set_text names n s many false) (shown (close_byte many) ++ shown (mode_byte (mode_of m i))) d₁ t₁ begun p₁)

    pub close_room : t₁ + length (shown close) ≤ length d₁
    close_room = left_room d at (part_text names n m i) d₁ t₁ (shown close) (shown (mode_byte (mode_of m i))) named fits

    module _ (t₂ : ℕ) (d₂ : List ℕ) (p₂ : Put d₁ t₁ (shown close) t₂ d₂) (mark mode : ℕ) (em : mark ≡ mode_byte mode) (eo : mode ≡ mode_of m i) where
      closed : Left d at (part_text names n m i) d₂ t₂ (shown mark)
      closed = rw (em, eo) (left_put d at (part_text names n m i) d₁ t₁ (shown close) (shown (mode_byte (mode_of m i))) d₂ t₂ named p₂)

      pub mark_room : t₂ + length (shown mark) ≤ length d₂
      mark_room = left_fits d at (part_text names n m i) d₂ t₂ (shown mark) closed fits

      pub factor_put : (t₃ : ℕ) (d₃ : List ℕ) → Put d₂ t₂ (shown mark) t₃ d₃ → Put d at (part_text names n m i) t₃ d₃
      factor_put t₃ d₃ p₃ = left_last d at (part_text names n m i) d₂ t₂ (shown mark) d₃ t₃ closed p₃
