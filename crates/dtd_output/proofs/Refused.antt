-- The text for a refused book, put from left to right.
-- Assumes nothing.
use Prim.Native.Nat.{ℕ, ◌+◌, ◌/◌, ◌%◌, ◌≤◌, ◌<◌}
use mathlib.Core.Path.{◌≡◌, sym, ◌∙◌, ap}
use mathlib.Core.Bool.{cond}
use mathlib.Core.List.{List, [], ◌∷◌, ◌++◌}
use native.Mathlib.Omega.{arith}
use native.Mathlib.Decide.{dec_lt, ℕ_discrete}
use lib.Dec.{ltb}
use lib.ListN.{length, length-append}
use borrow.Author.Tests.{lt-ltb, le-ltb}
use Rattle.refusal.specs.declared.Refusal.{Refusal}
use Rattle.refusal.specs.Table.{number_of}
use Rattle.byte_buffer.specs.Put.{Put, shown}
use Rattle.byte_buffer.proofs.Puts.{Left, left_start, left_is, left_put, left_room, left_fits, left_last, shown_none, shown_one}
use Rattle.intake_dtd.specs.Dtd.{longest_dtd}
use Rattle.dtd_output.specs.Output.{decimal, refused_word, refused_text}

-- the digit of the tens: none below 10
pub no_tens : (n : ℕ) → n < 10 → 0 ≡ cond (ltb n 10) 0 (48 + n / 10)
no_tens n h = rw (lt-ltb n 10 h)

pub some_tens : (n : ℕ) → 10 ≤ n → 48 + n / 10 ≡ cond (ltb n 10) 0 (48 + n / 10)
some_tens n h = rw (le-ltb n 10 h)

digits : (n t : ℕ) (after : List ℕ) → t ≡ cond (ltb n 10) 0 (48 + n / 10) → decimal n ++ after ≡ shown t ++ (shown (48 + n % 10) ++ after)
unfolding decimal
digits n t after e = go (dec_lt n 10)
  where
    go : Dec (n < 10) → cond (ltb n 10) ((48 + n) ∷ []) ((48 + n / 10) ∷ (48 + n % 10) ∷ []) ++ after ≡ shown t ++ (shown (48 + n % 10) ++ after)
    go (yes h) =
        let z : t ≡ 0 = e ∙ sym (no_tens n h) in
        let u : n % 10 ≡ n = omega arith in
        rw (lt-ltb n 10 h, shown_none t z, u, shown_one (48 + n) (λ q. absurd (let k : 48 + n ≡ 0 = q in omega arith)))
    go (no d) =
        let h : 10 ≤ n = omega arith in
        let z : t ≡ 48 + n / 10 = e ∙ sym (some_tens n h) in
        rw (le-ltb n 10 h, shown_one t (λ q. absurd (let k : t ≡ 0 = q in omega arith)), shown_one (48 + n % 10) (λ q. absurd (let k : 48 + n % 10 ≡ 0 = q in omega arith)), z)

shown_short : (b : ℕ) → length (shown b) ≤ 1
shown_short b = go (ℕ_discrete b 0)
  where
    go : Dec (b ≡ 0) → length (shown b) ≤ 1
    go (yes e) = rw (shown_none b e) (omega arith)
    go (no d) = rw (shown_one b d) (omega arith)

module _ (r : Refusal) (n t : ℕ) (number : n ≡ number_of r) (ten : t ≡ cond (ltb n 10) 0 (48 + n / 10)) (d : List ℕ) (long : longest_dtd ≤ length d) where
  text_is : refused_text r ≡ (114 ∷ 101 ∷ 102 ∷ 117 ∷ 115 ∷ 101 ∷ 100 ∷ 32 ∷ []) ++ (shown t ++ (shown (48 + n % 10) ++ shown 10))
  unfolding refused_text refused_word shown
  text_is = ap (λ (x : List ℕ). (114 ∷ 101 ∷ 102 ∷ 117 ∷ 115 ∷ 101 ∷ 100 ∷ 32 ∷ []) ++ x) (ap (λ (x : ℕ). decimal x ++ (10 ∷ [])) (sym number) ∙ digits n t (10 ∷ []) ten)

  pub room : 0 + length (refused_text r) ≤ length d
  room =
      let a : length (refused_text r) ≡ 8 + length (shown t ++ (shown (48 + n % 10) ++ shown 10)) =
      ap length text_is ∙ length-append (114 ∷ 101 ∷ 102 ∷ 117 ∷ 115 ∷ 101 ∷ 100 ∷ 32 ∷ []) (shown t ++ (shown (48 + n % 10) ++ shown 10)) in
      let b : length (shown t ++ (shown (48 + n % 10) ++ shown 10)) ≡ length (shown t) + length (shown (48 + n % 10) ++ shown 10) = length-append (shown t) (shown (48 + n % 10) ++ shown 10) in
      let c : length (shown (48 + n % 10) ++ shown 10) ≡ length (shown (48 + n % 10)) + length (shown 10) = length-append (shown (48 + n % 10)) (shown 10) in
      let x : length (shown t) ≤ 1 = shown_short t in
      let y : length (shown (48 + n % 10)) ≤ 1 = shown_short (48 + n % 10) in
      let z : length (shown 10) ≤ 1 = shown_short 10 in
      omega arith

  start : Left d 0 (refused_text r) d 0 ((114 ∷ 101 ∷ 102 ∷ 117 ∷ 115 ∷ 101 ∷ 100 ∷ 32 ∷ []) ++ (shown t ++ (shown (48 + n % 10) ++ shown 10)))
  start = left_is d 0 (refused_text r) d 0 (refused_text r) _ text_is (left_start d 0 (refused_text r))

  module _ (t₁ : ℕ) (d₁ : List ℕ) (p₁ : Put d 0 (114 ∷ 101 ∷ 102 ∷ 117 ∷ 115 ∷ 101 ∷ 100 ∷ 32 ∷ []) t₁ d₁) where
    l₁ : Left d 0 (refused_text r) d₁ t₁ (shown t ++ (shown (48 + n % 10) ++ shown 10))
    l₁ = left_put d 0 (refused_text r) d 0 (114 ∷ 101 ∷ 102 ∷ 117 ∷ 115 ∷ 101 ∷ 100 ∷ 32 ∷ []) (shown t ++ (shown (48 + n % 10) ++ shown 10)) d₁ t₁ start p₁

    pub tens_room : t₁ + length (shown t) ≤ length d₁
    tens_room = left_room d 0 (refused_text r) d₁ t₁ (shown t) (shown (48 + n % 10) ++ shown 10) l₁ room

    module _ (t₂ : ℕ) (d₂ : List ℕ) (p₂ : Put d₁ t₁ (shown t) t₂ d₂) where
      l₂ : Left d 0 (refused_text r) d₂ t₂ (shown (48 + n % 10) ++ shown 10)
      l₂ = left_put d 0 (refused_text r) d₁ t₁ (shown t) (shown (48 + n % 10) ++ shown 10) d₂ t₂ l₁ p₂

      pub ones_room : t₂ + length (shown (48 + n % 10)) ≤ length d₂
      ones_room = left_room d 0 (refused_text r) d₂ t₂ (shown (48 + n % 10)) (shown 10) l₂ room

      module _ (t₃ : ℕ) (d₃ : List ℕ) (p₃ : Put d₂ t₂ (shown (48 + n % 10)) t₃ d₃) where
        l₃ : Left d 0 (refused_text r) d₃ t₃ (shown 10)
        l₃ = left_put d 0 (refused_text r) d₂ t₂ (shown (48 + n % 10)) (shown 10) d₃ t₃ l₂ p₃

        pub feed_room : t₃ + length (shown 10) ≤ length d₃
        feed_room = left_fits d 0 (refused_text r) d₃ t₃ (shown 10) l₃ room

        pub refused_put : (t₄ : ℕ) (d₄ : List ℕ) → Put d₃ t₃ (shown 10) t₄ d₄ → Put d 0 (refused_text r) t₄ d₄
        refused_put t₄ d₄ p₄ = left_last d 0 (refused_text r) d₃ t₃ (shown 10) d₄ t₄ l₃ p₄
