-- The next byte of a text, and a run of bytes, step by step.
-- Assumes nothing.
use Prim.Native.Nat.{ℕ, zero, suc, ◌+◌, ◌-◌, ◌≤◌, ◌<◌}
use mathlib.Core.Path.{◌≡◌, refl, sym, ◌∙◌, ap}
use mathlib.Core.Bool.{Bool, true, false, cond, false≢true}
use mathlib.Core.List.{List, [], ◌∷◌}
use native.Mathlib.Omega.{arith}
use native.Mathlib.Numerals.{add-one}
use native.Mathlib.Decide.{dec_lt}
use lib.ListN.{length, get_or, take, drop, drop_of_length-le}
use lib.Seq.{drop-cons, drop-nil}
use Rattle.std.specs.List.{prefix_len}
use Rattle.std.proofs.lemmas.List.{length-drop, take_rest}
use Rattle.std.proofs.lemmas.List.Sums.{prefix_len-le-length}
use Rattle.name.specs.Word.{word_byte}
use Rattle.name.proofs.Words.{no_word_lem}
use Rattle.declaration_bytes.specs.Unread.{end_of_text, next_of, run_of}

-- ---- the next byte

pub next_here : (s : List ℕ) (at : ℕ) → at < length s → get_or s at 0 ≡ next_of (drop at s)
unfolding next_of
next_here s at h = rw (drop-cons s at 0 h)

pub next_end : (s : List ℕ) (at : ℕ) → length s ≤ at → end_of_text ≡ next_of (drop at s)
unfolding next_of
next_end s at h = rw (drop_of_length-le s h)

-- past the end of the list the next byte is what stands for it
pub next_or_end : (s : List ℕ) (at : ℕ) → get_or s at end_of_text ≡ next_of (drop at s)
unfolding next_of
next_or_end [] at = rw (drop-nil {A = ℕ} at)
next_or_end (b ∷ s) zero = refl
next_or_end (b ∷ s) (suc at) = next_or_end s at

pub word_end_lem : word_byte end_of_text ≡ false
word_end_lem = no_word_lem.0

-- ---- a run

-- a run as the library counts it
pub run_prefix : (test : ℕ → Bool) (t : List ℕ) → prefix_len test t ≡ run_of test t
unfolding run_of
run_prefix test [] = refl
run_prefix test (b ∷ t) = let e : 1 + prefix_len test t ≡ suc (run_of test t) = omega (arith, run_prefix test t) in ap (λ (n : ℕ). cond (test b) n 0) e

-- the place behind a run, counted from a place on
pub run_end : (test : ℕ → Bool) (s : List ℕ) (at n : ℕ) → at ≤ length s → n ≡ prefix_len test (take (length s - at) (drop at s)) →
    (at + n ≡ at + run_of test (drop at s)) × (at + n ≤ length s)
run_end test s at n h e =
    let d : n ≡ prefix_len test (drop at s) = e ∙ ap (prefix_len test) (take_rest s at) in
    (ap (λ (k : ℕ). at + k) (d ∙ run_prefix test (drop at s)), omega (arith, d, prefix_len-le-length test (drop at s), length-drop at s))

-- the place where the run that begins at i ends
pub stop : (ℕ → Bool) → List ℕ → ℕ → ℕ
stop test s i = i + run_of test (drop i s)

pub stop_is : (test : ℕ → Bool) (s : List ℕ) (i : ℕ) → stop test s i ≡ i + run_of test (drop i s)
unfolding stop
stop_is test s i = refl

module _ (test : ℕ → Bool) (none : test end_of_text ≡ false) (s : List ℕ) (i n : ℕ) (is : n ≡ next_of (drop i s)) where
  -- a byte that passes the test is there
  pub run_there : test n ≡ true → i < length s
  run_there e = go (dec_lt i (length s))
    where
      go : Dec (i < length s) → i < length s
      go (yes h) = h
      go (no h) = absurd (false≢true (sym none ∙ ap test (next_end s i (omega arith) ∙ sym is) ∙ e))

  pub run_on : test n ≡ true → stop test s i ≡ stop test s (i + 1)
  unfolding stop run_of
  run_on e =
      let h : i < length s = run_there e in
      let q : test (get_or s i 0) ≡ true = ap test (next_here s i h ∙ sym is) ∙ e in
      rw (add-one, drop-cons s i 0 h, q) (omega arith)

  pub run_over : test n ≡ false → stop test s i ≡ i
  unfolding stop run_of
  run_over e = go (dec_lt i (length s))
    where
      go : Dec (i < length s) → i + run_of test (drop i s) ≡ i
      go (yes h) =
          let q : test (get_or s i 0) ≡ false = ap test (next_here s i h ∙ sym is) ∙ e in
          rw (drop-cons s i 0 h, q) (omega arith)
      go (no h) = let k : length s ≤ i = omega arith in rw (drop_of_length-le s k) (omega arith)

  -- the run is not empty where its first byte passes the test
  pub run_some : test n ≡ true → i < stop test s i
  unfolding stop
  run_some e = let q : stop test s i ≡ stop test s (i + 1) = run_on e in omega arith
