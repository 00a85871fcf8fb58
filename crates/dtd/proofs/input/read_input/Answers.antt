-- `read_input` meets its contract: what a read puts behind the front of the buffer makes the front longer by that.
-- Assumes nothing.
use Rattle.std.proofs.Common.{◌≡◌, ℕ, ◌+◌, ◌≤◌, List, ◌++◌, length, take, sym, ap, ◌∙◌, subst, rules, length-take-le}
use Rattle.std.proofs.Math.Seq.{take-append-add}
use Rattle.std.proofs.lemmas.List.{take-append-le}
use Rattle.std.proofs.KnownBytes.{Consumes-trans}
use Rattle.std.specs.Io.KnownBytes.{Consumes}
use borrow.Rule.Slice.PartMut.{put_mid, post_of}
use Rattle.dtd.proofs.input.read_input.Goals as goal

take_read : (a k n : ℕ) (xs part : List ℕ) → a ≤ length xs → n ≤ length part → take (a + n) (put_mid a k xs part) ≡ take a xs ++ take n part
take_read a k n xs part within fits =
    let after = post_of a k xs in
    let front : length (take a xs) ≡ a = length-take-le a xs within in
    ap (λ m. take (m + n) (put_mid a k xs part)) (sym front) ∙ take-append-add (take a xs) (part ++ after) n
    ∙ ap (λ l. take a xs ++ l) (take-append-le n part after fits)

pub loop-size-preserved : goal.loop-size-preserved
loop-size-preserved g c =
    let before = c.loop-size.invariant in
    let read = c.in-Ok.ensures in
    record {
      within = search rules;
      same_length = search rules;
      taken = subst (Consumes _ _) (sym (take_read _ _ _ c.loop-size.buffer c.read.new.buf before.within read.bound.0))
          (Consumes-trans _ _ _ _ _ before.taken read.bytes.0);
    }
