-- `block_at` meets its contract.
-- Assumes nothing.
use Rattle.std.specs.Prelude.{Ok, Err}
use Prim.Native.Nat.{ℕ, suc, ◌+◌, ◌-◌, ◌≤◌, ◌<◌}
use mathlib.Core.Path.{◌≡◌, sym, ◌∙◌, ap}
use mathlib.Core.Bool.{Bool, true, false}
use mathlib.Core.List.{List}
use native.Mathlib.Omega.{arith}
use lib.ListN.{length, get_or, take, drop, length-drop, drop_of_length-le}
use lib.Seq.{drop-cons, length-take-le}
use borrow.Author.Tests.{lt-ltb, le-ltb}
use Rattle.refusal.specs.declared.Refusal.TheVariants.{BytesMissing, NumberNotBelow, BadText}
use Rattle.refusal.specs.Answer.{onward}
use Rattle.book.specs.Field.{field, byte_of, bytes_of}
use Rattle.book.specs.Book.{all_below, block_of}
use Rattle.book.specs.Bytes.{head_size, text_at, child_count_at}
use Rattle.book.proofs.Told.{taken, texted}
use Rattle.book.proofs.FieldStops.{bytes_missing}
use Rattle.book_blocks.specs.Tables.{block_step}
use Rattle.book_blocks.proofs.block_at.Goals as goal

module _ (s : List ℕ) (n at : ℕ) where
  no_parent : length s ≤ at → Err BytesMissing ≡ block_step (block_of n (drop at s))
  unfolding block_step block_of byte_of
  no_parent h = rw (drop_of_length-le s h)

  module _ (h₁ : at < length s) (parent : ℕ) (e₁ : parent ≡ get_or s at 0) where
    bad_parent_lem : n ≤ parent → Err NumberNotBelow ≡ block_step (block_of n (drop at s))
    unfolding block_step block_of byte_of
    bad_parent_lem h = rw (drop-cons s at 0 h₁, ← e₁, le-ltb parent n h)

    module _ (h₂ : parent < n) where
      no_text : length s ≤ at + text_at → Err BytesMissing ≡ block_step (block_of n (drop at s))
      unfolding block_step block_of byte_of
      no_text h =
          let one : suc at ≡ at + text_at = omega arith in
          rw (drop-cons s at 0 h₁, ← e₁, lt-ltb parent n h₂, one, drop_of_length-le s h)

      module _ (h₃ : at + text_at < length s) where
        text : ℕ
        text = get_or s (at + text_at) 0

        -- the parent was read, and the text byte is due
        parented : block_of n (drop at s) ≡ texted n parent (field text (drop (at + child_count_at) s))
        unfolding block_of byte_of text
        parented =
            let one : suc at ≡ at + text_at = omega arith in
            let two : suc (at + text_at) ≡ at + child_count_at = omega arith in
            rw (drop-cons s at 0 h₁, ← e₁, lt-ltb parent n h₂, one, drop-cons s (at + text_at) 0 h₃, two)

        bad_text : 1 < get_or s (at + text_at) 0 → Err BadText ≡ block_step (block_of n (drop at s))
        unfolding block_step text
        bad_text h = rw (parented, lt-ltb 1 text h)

        module _ (h₄ : get_or s (at + text_at) 0 ≤ 1) where
          no_size : length s ≤ at + child_count_at → Err BytesMissing ≡ block_step (block_of n (drop at s))
          unfolding block_step byte_of text
          no_size h = rw (parented, le-ltb 1 text h₄, drop_of_length-le s h)

          module _ (h₅ : at + child_count_at < length s) (size : ℕ) (e₂ : size ≡ get_or s (at + child_count_at) 0) where
            -- the head was read, and the children are due
            headed : block_of n (drop at s) ≡ onward (bytes_of size (drop (at + head_size) s)) (taken n parent text)
            unfolding byte_of text
            headed =
                let three : suc (at + child_count_at) ≡ at + head_size = omega arith in
                rw (parented, le-ltb 1 text h₄, drop-cons s (at + child_count_at) 0 h₅, ← e₂, three)

            short : length s - (at + head_size) < size → Err BytesMissing ≡ block_step (block_of n (drop at s))
            unfolding block_step
            short h = rw (headed, bytes_missing size (drop (at + head_size) s) (rw (length-drop (at + head_size) s) h))

            module _ (h₆ : size ≤ length s - (at + head_size)) (word : List ℕ) (w : word ≡ take (at + head_size + size - (at + head_size)) (drop (at + head_size) s))
                (below : Bool) (e₃ : below ≡ all_below n word) where
              same_word : take size (drop (at + head_size) s) ≡ word
              same_word = let d : size ≡ at + head_size + size - (at + head_size) = omega arith in ap (λ (k : ℕ). take k (drop (at + head_size) s)) d ∙ sym w

              enough : size ≤ length (drop (at + head_size) s)
              enough = rw (length-drop (at + head_size) s) h₆

              children : bytes_of size (drop (at + head_size) s) ≡ Ok (field word (drop size (drop (at + head_size) s)))
              unfolding bytes_of
              children = rw (le-ltb (length (drop (at + head_size) s)) size enough, same_word)

              bad_child : below ≡ false → Err NumberNotBelow ≡ block_step (block_of n (drop at s))
              unfolding block_step
              bad_child h = rw (headed, children, ← e₃, h)

              whole : below ≡ true → Ok size ≡ block_step (block_of n (drop at s))
              unfolding block_step
              whole h =
                  let k : length word ≡ size = ap length (sym same_word) ∙ length-take-le size (drop (at + head_size) s) enough in
                  rw (headed, children, ← e₃, h, k)

pub returns-then-bytes-at : goal.returns-then-bytes-at
returns-then-bytes-at c = no_parent _ _ _ c.if-bytes-at.true

pub returns-then-n-wide : goal.returns-then-n-wide
returns-then-n-wide c = bad_parent_lem _ _ _ c.if-bytes-at.false _ c.wide.ensures.0 c.if-n-wide.true

pub returns-then-bytes-text : goal.returns-then-bytes-text
returns-then-bytes-text c =
    no_text _ _ _ c.if-bytes-at.false _ c.wide.ensures.0 c.if-n-wide.false c.if-bytes-text.true

pub returns-then-bytes-text-gt1 : goal.returns-then-bytes-text-gt1
returns-then-bytes-text-gt1 c =
    bad_text _ _ _ c.if-bytes-at.false _ c.wide.ensures.0 c.if-n-wide.false c.if-bytes-text.false c.if-bytes-text-gt1.true

pub returns-then-bytes-count : goal.returns-then-bytes-count
returns-then-bytes-count c =
    no_size _ _ _ c.if-bytes-at.false _ c.wide.ensures.0 c.if-n-wide.false c.if-bytes-text.false c.if-bytes-text-gt1.false c.if-bytes-count.true

pub returns-then-bytes-from : goal.returns-then-bytes-from
returns-then-bytes-from c =
    short _ _ _ c.if-bytes-at.false _ c.wide.ensures.0 c.if-n-wide.false c.if-bytes-text.false c.if-bytes-text-gt1.false
    c.if-bytes-count.false _ c.wide-size.ensures.0 c.if-bytes-from.true

pub returns-then-all_below : goal.returns-then-all_below
returns-then-all_below c =
    whole _ _ _ c.if-bytes-at.false _ c.wide.ensures.0 c.if-n-wide.false c.if-bytes-text.false c.if-bytes-text-gt1.false
    c.if-bytes-count.false _ c.wide-size.ensures.0 c.if-bytes-from.false _ c.part.ensures _ c.all_below.ensures c.if-all_below.true

pub returns-else-all_below : goal.returns-else-all_below
returns-else-all_below c =
    bad_child _ _ _ c.if-bytes-at.false _ c.wide.ensures.0 c.if-n-wide.false c.if-bytes-text.false c.if-bytes-text-gt1.false
    c.if-bytes-count.false _ c.wide-size.ensures.0 c.if-bytes-from.false _ c.part.ensures _ c.all_below.ensures c.if-all_below.false
