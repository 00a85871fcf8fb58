-- What is known of the two sections of a book that were read.
-- Assumes nothing.
use Rattle.std.specs.Prelude.{Ok}
use Prim.Native.Nat.{ℕ, ◌+◌, ◌≤◌, ◌<◌}
use mathlib.Core.Path.{◌≡◌, refl, sym, ◌∙◌, ap, subst}
use mathlib.Core.Bool.{true, not}
use mathlib.Core.List.{List, [], ◌∷◌}
use native.Mathlib.Omega.{arith}
use native.Mathlib.Decide.{dec_lt}
use lib.Dec.{ltb}
use lib.ListN.{length, drop}
use borrow.Author.Tests.{not-false, ltb-false}
use Rattle.refusal.specs.declared.Refusal.TheVariants.{BytesMissing, BadNameCount, BytesLeftOver}
use Rattle.refusal.specs.Answer.{onward, refuse_if}
use Rattle.refusal.proofs.Answers.{onward_given, check_given, given_same, given_refused}
use Rattle.nameset.specs.Places.{good_count}
use Rattle.book.specs.Field.{Field, field, count_size, count_at, count_of}
use Rattle.book.specs.Book.{Block, names_of, name_section, blocks_of, block_section}
use Rattle.book.specs.Bytes.{names_bytes, blocks_bytes}
use Rattle.book.specs.Layout.{end_from}
use Rattle.book.specs.Stops.{Rising, BlocksBelow}
use Rattle.book.proofs.Counts.{count_missing, count_given}
use Rattle.book.proofs.Told.{names_told, blocks_told}
use Rattle.book.proofs.Placed.{name_placed}

-- where names end, and what stands behind them
pub behind_names_lem : (s : List ℕ) (at : ℕ) (xs : List (List ℕ)) (after : List ℕ) → at ≤ length s → drop at s ≡ names_bytes xs after →
    (end_from at xs ≤ length s) × (drop (end_from at xs) s ≡ after)
unfolding names_bytes end_from
behind_names_lem s at [] after l e = (l, e)
behind_names_lem s at (x ∷ xs) after l e =
    let p = name_placed s at x (names_bytes xs after) e in
    behind_names_lem s (at + 1 + length x) xs after p.0 p.2

pub record CountTold (s : List ℕ) (f : Field ℕ) : Type 0 where
  pub enough : count_size ≤ length s
  pub value : count_at s 0 ≡ f.value
  pub rest : drop count_size s ≡ f.rest

pub count_told : (s : List ℕ) (f : Field ℕ) → count_of s ≡ Ok f → CountTold s f
count_told s f e = go (dec_lt (length s) count_size)
  where
    go : Dec (length s < count_size) → CountTold s f
    go (yes h) = absurd (given_refused f BytesMissing (sym e ∙ count_missing s 0 h))
    go (no h) =
        let l : count_size ≤ length s = omega arith in
        let g : field (count_at s 0) (drop count_size s) ≡ f = given_same (field (count_at s 0) (drop count_size s)) f (sym (count_given s 0 l) ∙ e) in
        record { enough = l; value = ap (λ (x : Field ℕ). x.value) g; rest = ap (λ (x : Field ℕ). x.rest) g }

-- section 1
pub record NameSectionTold (s : List ℕ) (f : Field (List (List ℕ))) : Type 0 where
  pub enough : count_size ≤ length s
  pub count : count_at s 0 ≡ length f.value
  pub good : good_count (length f.value) ≡ true
  pub bytes : drop count_size s ≡ names_bytes f.value f.rest
  pub rising : Rising [] f.value

pub name_section_told : (s : List ℕ) (f : Field (List (List ℕ))) → name_section s ≡ Ok f → NameSectionTold s f
unfolding name_section
name_section_told s f e = go (onward_given (count_of s) _ f e)
  where
    go : ((n : Field ℕ) × (count_of s ≡ Ok n) × (refuse_if (not (good_count n.value)) BadNameCount (names_of n.value [] n.rest) ≡ Ok f)) →
        NameSectionTold s f
    go (n, h, e) =
        let c = check_given (not (good_count n.value)) BadNameCount (names_of n.value [] n.rest) f e in
        let k = count_told s n h in
        let t = names_told n.value [] n.rest f c.1 in
        record {
          enough = k.enough;
          count = k.value ∙ sym t.many;
          good = rw t.many (not-false _ c.0);
          bytes = k.rest ∙ t.bytes;
          rising = t.rising;
        }

-- section 2
pub record BlockSectionTold (n : ℕ) (s : List ℕ) (bs : List Block) : Type 0 where
  pub enough : count_size ≤ length s
  pub count : count_at s 0 ≡ length bs
  pub bytes : drop count_size s ≡ blocks_bytes bs []
  pub within : BlocksBelow n bs

nothing_left : (r : List ℕ) → length r ≤ 0 → r ≡ []
nothing_left [] h = refl
nothing_left (x ∷ r) h = absurd (omega arith)

pub block_section_told : (n : ℕ) (s : List ℕ) (bs : List Block) → block_section n s ≡ Ok bs → BlockSectionTold n s bs
unfolding block_section
block_section_told n s bs e = counted (onward_given (count_of s) _ bs e)
  where
    ended : (m : Field ℕ) (f : Field (List Block)) → count_of s ≡ Ok m → blocks_of n m.value m.rest ≡ Ok f →
        refuse_if (ltb 0 (length f.rest)) BytesLeftOver (Ok f.value) ≡ Ok bs → BlockSectionTold n s bs
    ended m f h b e =
        let c = check_given (ltb 0 (length f.rest)) BytesLeftOver (Ok f.value) bs e in
        let k = count_told s m h in
        let t = blocks_told n m.value m.rest f b in
        let none : f.rest ≡ [] = nothing_left f.rest (ltb-false 0 (length f.rest) c.0) in
        subst (BlockSectionTold n s) (given_same f.value bs c.1)
        (record {
          enough = k.enough;
          count = k.value ∙ sym t.many;
          bytes = k.rest ∙ t.bytes ∙ ap (blocks_bytes f.value) none;
          within = t.within;
        })

    counted : ((m : Field ℕ) × (count_of s ≡ Ok m)
        × (onward (blocks_of n m.value m.rest) (λ blocks. refuse_if (ltb 0 (length blocks.rest)) BytesLeftOver (Ok blocks.value)) ≡ Ok bs)) →
        BlockSectionTold n s bs
    counted (m, h, e) = let o = onward_given (blocks_of n m.value m.rest) _ bs e in ended m o.0 h o.1 o.2
