-- What the output tells: a refusal is printed exactly where the book was refused for it.
-- Assumes nothing.
use Rattle.std.specs.Prelude.{Ok, Err}
use Prim.Native.Nat.{ℕ, zero, suc, ◌+◌, ◌/◌, ◌%◌, ◌≤◌, ◌<◌}
use mathlib.Core.Path.{◌≡◌, refl, sym, ◌∙◌, ap}
use mathlib.Core.Bool.{Bool, true, false, cond}
use mathlib.Core.List.{List, [], ◌∷◌, ◌++◌}
use mathlib.Core.Logic.{◌↔◌, ◌⊎◌, inl, inr}
use native.Mathlib.Omega.{arith}
use native.Mathlib.Decide.{dec_lt}
use lib.ListN.{length, get_or, drop}
use borrow.Author.Tests.{lt-ltb, le-ltb}
use Rattle.refusal.specs.declared.Refusal.{Refusal}
use Rattle.refusal.specs.Table.{number_of}
use Rattle.refusal.specs.Answer.{Answer}
use Rattle.refusal.proofs.Laws.{number_injective}
use Rattle.refusal.proofs.Answers.{given_refused}
use Rattle.book.specs.Book.{Book}
use Rattle.declaration_spelling.specs.House.{opening, house_text, declaration}
use Rattle.intake_sample.specs.Inference.{sample_of, no_word, parent_model}
use Rattle.intake_dtd.specs.Dtd.{line_of, lines_from, dtd_of}
use Rattle.dtd_output.specs.Output.{decimal, refused_word, refused_text, output_of}

-- ---- a DTD begins with `<`, where it is not empty

abbrev Opened : List ℕ → Type 0
Opened text = (text ≡ []) ⊎ (get_or text 0 0 ≡ 60)

line_opened : (b : Book) (p : ℕ) → Opened (line_of b p)
unfolding line_of declaration house_text opening
line_opened b p = go (no_word (sample_of b p))
  where
    go : (none : Bool) → Opened (cond none [] (declaration b.names p (parent_model b p) ++ (10 ∷ [])))
    go true = inl refl
    go false = inr refl

lines_opened : (b : Book) (p k : ℕ) → Opened (lines_from b p k)
unfolding lines_from
lines_opened b p zero = inl refl
lines_opened b p (suc k) = go (line_of b p) (line_opened b p) (lines_opened b (suc p) k)
  where
    go : (l : List ℕ) → Opened l → Opened (lines_from b (suc p) k) → Opened (l ++ lines_from b (suc p) k)
    go [] o rest = rest
    go (x ∷ l) (inl e) rest = absurd (let q : suc (length l) ≡ 0 = ap length e in omega arith)
    go (x ∷ l) (inr e) rest = inr e

-- so it is not the text for a refused book
dtd_apart : (b : Book) (f : Refusal) → dtd_of b ≡ refused_text f → ⊥
unfolding dtd_of refused_text refused_word
dtd_apart b f e = go (lines_opened b 0 (length b.names))
  where
    go : Opened (lines_from b 0 (length b.names)) → ⊥
    go (inl o) = let q : ◌≡◌ {A = ℕ} 0 (suc (length (drop 1 (refused_text f)))) = ap length (sym o ∙ e) in omega arith
    go (inr o) = let q : ◌≡◌ {A = ℕ} 60 114 = sym o ∙ ap (λ (l : List ℕ). get_or l 0 0) e in omega arith

-- ---- each refusal has a text of its own

one_digit : (n : ℕ) → n < 10 → decimal n ≡ (48 + n) ∷ []
unfolding decimal
one_digit n h = rw (lt-ltb n 10 h)

two_digits : (n : ℕ) → 10 ≤ n → decimal n ≡ (48 + n / 10) ∷ (48 + n % 10) ∷ []
unfolding decimal
two_digits n h = rw (le-ltb n 10 h)

-- the byte at a place of a number's text
abbrev byte : ℕ → List ℕ → ℕ
byte i digits = get_or (digits ++ (10 ∷ [])) i 0

-- a number of one digit ends where another digit of a longer one stands
longer : (m n : ℕ) → m < 10 → 10 ≤ n → decimal m ++ (10 ∷ []) ≡ decimal n ++ (10 ∷ []) → ⊥
longer m n h k e =
    let q : 10 ≡ 48 + n % 10 = sym (ap (byte 1) (one_digit m h)) ∙ ap (λ (l : List ℕ). get_or l 1 0) e ∙ ap (byte 1) (two_digits n k) in
    omega arith

decimal_apart : (m n : ℕ) → decimal m ++ (10 ∷ []) ≡ decimal n ++ (10 ∷ []) → m ≡ n
decimal_apart m n e = go (dec_lt m 10) (dec_lt n 10)
  where
    go : Dec (m < 10) → Dec (n < 10) → m ≡ n
    go (yes h) (yes k) =
        let q : 48 + m ≡ 48 + n = sym (ap (byte 0) (one_digit m h)) ∙ ap (λ (l : List ℕ). get_or l 0 0) e ∙ ap (byte 0) (one_digit n k) in
        omega arith
    go (yes h) (no k) = absurd (longer m n h (omega arith) e)
    go (no h) (yes k) = absurd (longer n m k (omega arith) (sym e))
    go (no h) (no k) =
        let a : 10 ≤ m = omega arith in
        let b : 10 ≤ n = omega arith in
        let q : 48 + m / 10 ≡ 48 + n / 10 = sym (ap (byte 0) (two_digits m a)) ∙ ap (λ (l : List ℕ). get_or l 0 0) e ∙ ap (byte 0) (two_digits n b) in
        let r : 48 + m % 10 ≡ 48 + n % 10 = sym (ap (byte 1) (two_digits m a)) ∙ ap (λ (l : List ℕ). get_or l 1 0) e ∙ ap (byte 1) (two_digits n b) in
        omega arith

text_apart : (f g : Refusal) → refused_text f ≡ refused_text g → f ≡ g
unfolding refused_text refused_word
text_apart f g e = number_injective f g (decimal_apart (number_of f) (number_of g) (ap (drop 8) e))

-- The text for a refusal is printed exactly where the book was refused so.
pub printed_refused : (a : Answer Book) (f : Refusal) → (output_of a ≡ refused_text f) ↔ (a ≡ Err f)
unfolding output_of
printed_refused (Ok b) f = (λ e. absurd (dtd_apart b f e), λ e. absurd (given_refused b f e))
printed_refused (Err g) f = (λ e. ap Err (text_apart g f e), λ e. ap output_of e)
