-- `name_at` meets its contract.
-- Assumes nothing.
use Rattle.std.specs.Prelude.{Ok, Err}
use Prim.Native.Nat.{ℕ, suc, ◌+◌, ◌-◌, ◌≤◌, ◌<◌}
use mathlib.Core.Path.{◌≡◌, refl, sym, ◌∙◌}
use mathlib.Core.Bool.{Bool, true, false, not}
use mathlib.Core.List.{List}
use native.Mathlib.Omega.{arith}
use native.Mathlib.Numerals.{add-one}
use lib.ListN.{length, get_or, take, drop, length-drop, drop_of_length-le}
use lib.Seq.{drop-cons}
use borrow.Author.Tests.{lt-ltb, le-ltb}
use Rattle.refusal.specs.declared.Refusal.TheVariants.{BytesMissing, BadName, NameNotAbove}
use Rattle.refusal.specs.Answer.{refuse_if}
use Rattle.name.specs.Rule.{good_length, good_bytes}
use Rattle.name_order.specs.Order.{rises}
use Rattle.book.specs.Field.{field, byte_of, bytes_of}
use Rattle.book.specs.Book.{name_of}
use Rattle.book_names.specs.Tables.{name_step, judged_name}
use Rattle.book_names.proofs.name_at.Goals as goal

-- what follows a name does not matter to its step
any_rest : (bad below : Bool) (name r q : List ℕ) →
    name_step (refuse_if bad BadName (refuse_if below NameNotAbove (Ok (field name r))))
    ≡ name_step (refuse_if bad BadName (refuse_if below NameNotAbove (Ok (field name q))))
unfolding name_step
any_rest true below name r q = refl
any_rest false true name r q = refl
any_rest false false name r q = refl

module _ (before s : List ℕ) (at : ℕ) where
  no_size : length s ≤ at → Err BytesMissing ≡ name_step (name_of before (drop at s))
  unfolding name_step name_of byte_of
  no_size h = rw (drop_of_length-le s h)

  module _ (h : at < length s) (size : ℕ) (e : size ≡ get_or s at 0) (good : Bool) (g : good ≡ good_length size) where
    bad_size : good ≡ false → Err BadName ≡ name_step (name_of before (drop at s))
    unfolding name_step name_of byte_of
    bad_size k = rw (drop-cons s at 0 h, ← e, ← g, k)

    module _ (k : good ≡ true) where
      short : length s - (at + 1) < size → Err BytesMissing ≡ name_step (name_of before (drop at s))
      unfolding name_step name_of byte_of bytes_of
      short l =
          let n : suc at ≡ at + 1 = sym (add-one at) in
          rw (drop-cons s at 0 h, ← e, ← g, k, n, length-drop (at + 1) s, lt-ltb (length s - (at + 1)) size l)

      whole : size ≤ length s - (at + 1) → (name : List ℕ) → name ≡ take (at + 1 + size - (at + 1)) (drop (at + 1) s) →
          judged_name before name ≡ name_step (name_of before (drop at s))
      unfolding name_step judged_name name_of byte_of bytes_of
      whole l name q =
          let d : at + 1 + size - (at + 1) ≡ size = omega arith in
          let n : suc at ≡ at + 1 = sym (add-one at) in
          rw (drop-cons s at 0 h, ← e, ← g, k, n, length-drop (at + 1) s, le-ltb (length s - (at + 1)) size l, q, d)
          (any_rest (not (good_bytes (take size (drop (at + 1) s)))) (not (rises before (take size (drop (at + 1) s)))) (take size (drop (at + 1) s)) _ _)

pub returns-then-bytes-at : goal.returns-then-bytes-at
returns-then-bytes-at c = no_size _ _ _ c.if-bytes-at.true

pub returns-then-bytes-from : goal.returns-then-bytes-from
returns-then-bytes-from c =
    short _ _ _ c.if-bytes-at.false _ c.wide-size.ensures.0 _ c.good_length.ensures c.if-good_length.true c.if-bytes-from.true

pub returns-else-bytes-from : goal.returns-else-bytes-from
returns-else-bytes-from c =
    c.judge.ensures
    ∙ whole _ _ _ c.if-bytes-at.false _ c.wide-size.ensures.0 _ c.good_length.ensures c.if-good_length.true
    c.if-bytes-from.false _ c.part.ensures

pub returns-else-good_length : goal.returns-else-good_length
returns-else-good_length c = bad_size _ _ _ c.if-bytes-at.false _ c.wide-size.ensures.0 _ c.good_length.ensures c.if-good_length.false
