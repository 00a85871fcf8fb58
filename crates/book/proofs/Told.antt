-- What is known of the parts of a book that was read: which bytes they are, and which rules they keep.
-- Assumes nothing.
use Rattle.std.specs.Prelude.{Ok}
use Prim.Native.Nat.{ℕ, zero, suc, ◌≤◌, ◌<◌}
use mathlib.Core.Path.{◌≡◌, refl, sym, ◌∙◌, ap, subst}
use mathlib.Core.Bool.{true, not}
use mathlib.Core.List.{List, [], ◌∷◌, ◌++◌}
use lib.Dec.{ltb}
use lib.ListN.{length, take, drop, take-append-drop}
use lib.Seq.{length-take-le}
use borrow.Author.Tests.{ltb-true, ltb-false, not-false}
use Rattle.refusal.specs.declared.Refusal.TheVariants.{BytesMissing, BadName, NameNotAbove, NumberNotBelow, BadText}
use Rattle.refusal.specs.Answer.{Answer, onward, refuse_if}
use Rattle.refusal.proofs.Answers.{onward_given, check_given, given_same, given_refused}
use Rattle.name.specs.Rule.{good_length, good_bytes}
use Rattle.name_order.specs.Order.{rises}
use Rattle.book.specs.Field.{Field, field, byte_of, bytes_of}
use Rattle.book.specs.Book.{Block, all_below, name_of, names_of, block_of, blocks_of}
use Rattle.book.specs.Bytes.{name_bytes, names_bytes, block_bytes, blocks_bytes}
use Rattle.book.specs.Stops.{Rising, none, one, BlocksBelow}

pub byte_told : (s : List ℕ) (f : Field ℕ) → byte_of s ≡ Ok f → s ≡ f.value ∷ f.rest
unfolding byte_of
byte_told [] f e = absurd (given_refused f BytesMissing (sym e))
byte_told (b ∷ s) f e = ap (λ (g : Field ℕ). g.value ∷ g.rest) (given_same (field b s) f e)

pub bytes_told : (n : ℕ) (s : List ℕ) (f : Field (List ℕ)) → bytes_of n s ≡ Ok f → (s ≡ f.value ++ f.rest) × (length f.value ≡ n)
unfolding bytes_of
bytes_told n s f e =
    let c = check_given (ltb (length s) n) BytesMissing (Ok (field (take n s) (drop n s))) f e in
    let g : field (take n s) (drop n s) ≡ f = given_same (field (take n s) (drop n s)) f c.1 in (
      sym (take-append-drop n s) ∙ ap (λ (x : Field (List ℕ)). x.value ++ x.rest) g,
      ap (λ (x : Field (List ℕ)). length x.value) (sym g) ∙ length-take-le n s (ltb-false (length s) n c.0),
    )

-- ---- names

-- a name whose bytes were taken, behind the name `before`
abbrev pub judged : List ℕ → Field (List ℕ) → Answer (Field (List ℕ))
judged before name = refuse_if (not (good_bytes name.value)) BadName (refuse_if (not (rises before name.value)) NameNotAbove (Ok name))

-- one before the others, names as well as blocks
abbrev pub joined : {A : Type 0} → Field A → Field (List A) → Answer (Field (List A))
joined x others = Ok (field (x.value ∷ others.value) others.rest)

-- a name that was read
pub record NameTold (before s : List ℕ) (f : Field (List ℕ)) : Type 0 where
  pub bytes : s ≡ name_bytes f.value f.rest
  pub long : good_length (length f.value) ≡ true
  pub good : good_bytes f.value ≡ true
  pub above : rises before f.value ≡ true

pub name_told : (before s : List ℕ) (f : Field (List ℕ)) → name_of before s ≡ Ok f → NameTold before s f
unfolding name_of name_bytes
name_told before s f e = sized (onward_given (byte_of s) _ f e)
  where
    named : (size : Field ℕ) (name : Field (List ℕ)) → s ≡ size.value ∷ size.rest → good_length size.value ≡ true →
        bytes_of size.value size.rest ≡ Ok name → judged before name ≡ Ok f → NameTold before s f
    named size name h g b e =
        let t = bytes_told size.value size.rest name b in
        let c = check_given (not (good_bytes name.value)) BadName _ f e in
        let d = check_given (not (rises before name.value)) NameNotAbove _ f c.1 in
        subst (NameTold before s) (given_same name f d.1)
        (record {
          bytes = h ∙ rw (t.0, t.1) refl;
          long = rw t.1 g;
          good = not-false _ c.0;
          above = not-false _ d.0;
        })

    sized : ((size : Field ℕ) × (byte_of s ≡ Ok size)
        × (refuse_if (not (good_length size.value)) BadName (onward (bytes_of size.value size.rest) (judged before)) ≡ Ok f)) →
        NameTold before s f
    sized (size, h, e) =
        let c = check_given (not (good_length size.value)) BadName _ f e in
        let n = onward_given (bytes_of size.value size.rest) _ f c.1 in
        named size n.0 (byte_told s size h) (not-false _ c.0) n.1 n.2

pub record NamesTold (n : ℕ) (before s : List ℕ) (f : Field (List (List ℕ))) : Type 0 where
  pub bytes : s ≡ names_bytes f.value f.rest
  pub many : length f.value ≡ n
  pub rising : Rising before f.value

pub names_told : (n : ℕ) (before s : List ℕ) (f : Field (List (List ℕ))) → names_of n before s ≡ Ok f → NamesTold n before s f
unfolding names_of names_bytes
names_told zero before s f e = subst (NamesTold zero before s) (given_same (field [] s) f e) (record { bytes = refl; many = refl; rising = none })
names_told (suc n) before s f e = more (λ b t g. names_told n b t g) (onward_given (name_of before s) _ f e)
  where
    more : ((b t : List ℕ) (g : Field (List (List ℕ))) → names_of n b t ≡ Ok g → NamesTold n b t g) →
        ((x : Field (List ℕ)) × (name_of before s ≡ Ok x)
        × (onward (names_of n x.value x.rest) (joined x) ≡ Ok f)) →
        NamesTold (suc n) before s f
    more again (x, h, e) =
        let o = onward_given (names_of n x.value x.rest) _ f e in
        let t = name_told before s x h in
        let u = again x.value x.rest o.0 o.1 in
        subst (NamesTold (suc n) before s) (given_same (field (x.value ∷ o.0.value) o.0.rest) f o.2)
        (record {
          bytes = t.bytes ∙ ap (name_bytes x.value) u.bytes;
          many = ap suc u.many;
          rising = one t.long t.good t.above u.rising;
        })

-- ---- blocks

-- a block whose children were taken, of a parent that is below n
abbrev pub made : ℕ → ℕ → Field (List ℕ) → Field Block
made parent text word = field (record { parent = parent; text = text; word = word.value }) word.rest

abbrev pub taken : ℕ → ℕ → ℕ → Field (List ℕ) → Answer (Field Block)
taken n parent text word = refuse_if (not (all_below n word.value)) NumberNotBelow (Ok (made parent text word))

-- the same from the child count on, and from the text byte on
abbrev pub counted : ℕ → ℕ → ℕ → List ℕ → Answer (Field Block)
counted n parent text bytes = onward (byte_of bytes) (λ size. onward (bytes_of size.value size.rest) (taken n parent text))

abbrev pub texted : ℕ → ℕ → Field ℕ → Answer (Field Block)
texted n parent text = refuse_if (ltb 1 text.value) BadText (counted n parent text.value text.rest)

-- a block that was read over n names
pub record BlockTold (n : ℕ) (s : List ℕ) (f : Field Block) : Type 0 where
  pub bytes : s ≡ block_bytes f.value f.rest
  pub parent : f.value.parent < n
  pub text : f.value.text ≤ 1
  pub children : all_below n f.value.word ≡ true

pub block_told : (n : ℕ) (s : List ℕ) (f : Field Block) → block_of n s ≡ Ok f → BlockTold n s f
unfolding block_of block_bytes
block_told n s f e = started (onward_given (byte_of s) _ f e)
  where
    ended : (p t k : Field ℕ) (w : Field (List ℕ)) → s ≡ p.value ∷ (t.value ∷ (k.value ∷ k.rest)) → p.value < n → t.value ≤ 1 →
        bytes_of k.value k.rest ≡ Ok w → taken n p.value t.value w ≡ Ok f → BlockTold n s f
    ended p t k w head below low hw e =
        let u = bytes_told k.value k.rest w hw in
        let c = check_given (not (all_below n w.value)) NumberNotBelow _ f e in
        subst (BlockTold n s) (given_same (made p.value t.value w) f c.1)
        (record {
          bytes = head ∙ rw (u.0, u.1) refl;
          parent = below;
          text = low;
          children = not-false _ c.0;
        })

    sized : (p t : Field ℕ) → s ≡ p.value ∷ (t.value ∷ t.rest) → p.value < n → t.value ≤ 1 →
        ((k : Field ℕ) × (byte_of t.rest ≡ Ok k) × (onward (bytes_of k.value k.rest) (taken n p.value t.value) ≡ Ok f)) → BlockTold n s f
    sized p t head below low (k, hk, e) =
        let o = onward_given (bytes_of k.value k.rest) _ f e in
        ended p t k o.0 (head ∙ ap (λ (r : List ℕ). p.value ∷ (t.value ∷ r)) (byte_told t.rest k hk)) below low o.1 o.2

    marked : (p : Field ℕ) → s ≡ p.value ∷ p.rest → p.value < n →
        ((t : Field ℕ) × (byte_of p.rest ≡ Ok t) × (texted n p.value t ≡ Ok f)) → BlockTold n s f
    marked p head below (t, ht, e) =
        let c = check_given (ltb 1 t.value) BadText _ f e in
        sized p t (head ∙ ap (λ (r : List ℕ). p.value ∷ r) (byte_told p.rest t ht)) below (ltb-false 1 t.value c.0)
        (onward_given (byte_of t.rest) _ f c.1)

    started : ((p : Field ℕ) × (byte_of s ≡ Ok p)
        × (refuse_if (not (ltb p.value n)) NumberNotBelow (onward (byte_of p.rest) (texted n p.value)) ≡ Ok f)) →
        BlockTold n s f
    started (p, hp, e) =
        let c = check_given (not (ltb p.value n)) NumberNotBelow _ f e in
        marked p (byte_told s p hp) (ltb-true p.value n (not-false _ c.0)) (onward_given (byte_of p.rest) _ f c.1)

pub record BlocksTold (n m : ℕ) (s : List ℕ) (f : Field (List Block)) : Type 0 where
  pub bytes : s ≡ blocks_bytes f.value f.rest
  pub many : length f.value ≡ m
  pub within : BlocksBelow n f.value

pub blocks_told : (n m : ℕ) (s : List ℕ) (f : Field (List Block)) → blocks_of n m s ≡ Ok f → BlocksTold n m s f
unfolding blocks_of blocks_bytes
blocks_told n zero s f e = subst (BlocksTold n zero s) (given_same (field [] s) f e) (record { bytes = refl; many = refl; within = tt })
blocks_told n (suc m) s f e = more (λ t g. blocks_told n m t g) (onward_given (block_of n s) _ f e)
  where
    more : ((t : List ℕ) (g : Field (List Block)) → blocks_of n m t ≡ Ok g → BlocksTold n m t g) →
        ((b : Field Block) × (block_of n s ≡ Ok b)
        × (onward (blocks_of n m b.rest) (joined b) ≡ Ok f)) →
        BlocksTold n (suc m) s f
    more again (b, h, e) =
        let o = onward_given (blocks_of n m b.rest) _ f e in
        let t = block_told n s b h in
        let u = again b.rest o.0 o.1 in
        subst (BlocksTold n (suc m) s) (given_same (field (b.value ∷ o.0.value) o.0.rest) f o.2)
        (record {
          bytes = t.bytes ∙ ap (block_bytes b.value) u.bytes;
          many = ap suc u.many;
          within = (t.parent, t.text, t.children, u.within);
        })
