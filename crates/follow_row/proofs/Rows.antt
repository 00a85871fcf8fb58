-- A block added to a row: its text byte and its word.
-- Assumes nothing.
use Prim.Native.Nat.{ℕ, suc, ◌-◌}
use mathlib.Core.Path.{◌≡◌, refl, sym, ◌∙◌, ap, subst}
use mathlib.Core.Bool.{Bool, true, false, ◌||◌, cond, or-true, or-false}
use mathlib.Core.List.{List, [], ◌∷◌, ◌++◌, append-nil}
use native.Mathlib.Omega.{arith}
use lib.Dec.{eqb}
use lib.ListN.{length, get_or, set, take, drop, length-set, length-drop, drop_of_length-le}
use lib.Seq.{take_all}
use Rattle.nameset.specs.Places.{places}
use Rattle.nameset.specs.declared.NameSet.{NameSet}
use Rattle.nameset.specs.Rows.{row_at, put_row}
use Rattle.nameset.proofs.Rows.{row_kept}
use Rattle.follow.specs.Follow.{is_empty}
use Rattle.follow.specs.Adding.{with_first, with_last, with_pairs, with_word}
use Rattle.follow.proofs.Words.{no_name_lem, empty_some, word_added}
use Rattle.follow_row.specs.Row.{row_head, row_size, text_place, facts_in, text_in, with_text, with_ends, WordAdded, RowAdded}

-- the two sets, read and put by the code: u₁ is the row after the first
pub ends_put : (u u₁ v w : List ℕ) (p s q e : NameSet) → p ≡ row_at u 0 → s ≡ with_first p w → u₁ ≡ put_row u 0 s →
    q ≡ row_at u₁ 1 → e ≡ with_last q w → v ≡ put_row u₁ 1 e → v ≡ with_ends u w
unfolding with_ends
ends_put u u₁ v w p s q e ep es eu eq ee ev =
    let z : q ≡ row_at u 1 = eq ∙ ap (λ (r : List ℕ). row_at r 1) eu ∙ row_kept u 0 1 s (λ n. omega arith) in
    rw (ev, eu, ee, z, es, ep)

-- a word without a name: the mark alone changes
pub empty_added : (u w : List ℕ) → length u ≡ row_size → length w ≡ 0 → WordAdded u w (set u 2 1)
unfolding facts_in text_in row_at with_word with_first with_last with_pairs is_empty
empty_added u w l e = rw (no_name_lem w e) (at u l)
  where
    at : (u : List ℕ) → length u ≡ row_size → WordAdded u [] (set u 2 1)
    at [] l = absurd (omega arith)
    at (a ∷ []) l = absurd (omega arith)
    at (a ∷ (b ∷ [])) l = absurd (omega arith)
    at (a ∷ (b ∷ (c ∷ []))) l = absurd (omega arith)
    at (a ∷ (b ∷ (c ∷ (d ∷ f)))) l =
        record {
          size = l;
          facts = λ i. record { starts = record { bits = a }; ends = record { bits = b }; follows = f; empty = sym (or-true (eqb c 1)) i };
          text = refl;
        }

-- The row v is the row u with the first and the last name of a word w added, but not its pairs.
record HeadAdded (u w v : List ℕ) : Type 0 where
  size : length v ≡ row_size
  starts : row_at v 0 ≡ with_first (row_at u 0) w
  ends : row_at v 1 ≡ with_last (row_at u 1) w
  empty : eqb (get_or v 2 0) 1 ≡ (eqb (get_or u 2 0) 1 || is_empty w)
  text : text_in v ≡ text_in u
  follows : drop row_head v ≡ drop row_head u

-- a word with a name: its first and its last, and the mark stays
head_added : (u v w : List ℕ) → v ≡ with_ends u w → length u ≡ row_size → (length w ≡ 0 → ⊥) → HeadAdded u w v
unfolding with_ends row_at put_row text_in
head_added u v w e l d = rw e (at u l)
  where
    at : (u : List ℕ) → length u ≡ row_size → HeadAdded u w (with_ends u w)
    at [] l = absurd (omega arith)
    at (a ∷ []) l = absurd (omega arith)
    at (a ∷ (b ∷ [])) l = absurd (omega arith)
    at (a ∷ (b ∷ (c ∷ []))) l = absurd (omega arith)
    at (a ∷ (b ∷ (c ∷ (t ∷ f)))) l = record { size = l; starts = refl; ends = refl; empty = empty_some (eqb c 1) w d; text = refl; follows = refl }

module _ (v : List ℕ) (l : length v ≡ row_size) where
  left_long : length (drop row_head v) ≡ places
  left_long = let e : length (drop row_head v) ≡ length v - row_head = length-drop row_head v in omega arith

  -- the part behind the head is all of it
  part_all : take (length v - row_head) (drop row_head v) ≡ drop row_head v
  part_all = take_all (length v - row_head) (drop row_head v) (omega (arith, left_long))

  none_behind : drop (length v - row_head) (drop row_head v) ≡ []
  none_behind = drop_of_length-le (drop row_head v) {i = length v - row_head} (omega (arith, left_long))

-- then the pairs
pairs_added : (u w r : List ℕ) (v : List ℕ) → HeadAdded u w v → r ≡ with_pairs (drop row_head u) w → length r ≡ places → WordAdded u w (take row_head v ++ r)
unfolding facts_in text_in row_at
pairs_added u w r [] h = absurd (omega (arith, h.size))
pairs_added u w r (a ∷ []) h = absurd (omega (arith, h.size))
pairs_added u w r (a ∷ (b ∷ [])) h = absurd (omega (arith, h.size))
pairs_added u w r (a ∷ (b ∷ (c ∷ []))) h = absurd (omega (arith, h.size))
pairs_added u w r (a ∷ (b ∷ (c ∷ (d ∷ f)))) h =
    λ er lr.
    record {
      size = ap (λ (n : ℕ). suc (suc (suc (suc n)))) lr;
      facts = word_added (facts_in u) _ _ r w _ h.starts h.ends er h.empty;
      text = h.text;
    }

pub row_added : (u w v r : List ℕ) → v ≡ with_ends u w → length u ≡ row_size → (length w ≡ 0 → ⊥) → r ≡ with_pairs (take (length v - row_head) (drop row_head v)) w → length r ≡ places →
    WordAdded u w (take row_head v ++ (r ++ drop (length v - row_head) (drop row_head v)))
row_added u w v r e l d er lr =
    let h = head_added u v w e l d in
    rw (none_behind v h.size, append-nil r)
    (pairs_added u w r v h (er ∙ ap (λ (p : List ℕ). with_pairs p w) (part_all v h.size ∙ h.follows)) lr)

-- ---- the text byte

marked_or : (c t : ℕ) → eqb (cond (eqb t 1) 1 c) 1 ≡ (eqb c 1 || eqb t 1)
marked_or c t = go (eqb t 1)
  where
    go : (b : Bool) → eqb (cond b 1 c) 1 ≡ (eqb c 1 || b)
    go true = sym (or-true (eqb c 1))
    go false = sym (or-false (eqb c 1))

-- the mark, read and put by the code
pub text_put : (u : List ℕ) (t m : ℕ) → length u ≡ row_size → m ≡ cond (eqb t 1) 1 (get_or u text_place 0) → (set u text_place m ≡ with_text u t) × (length (set u text_place m) ≡ row_size)
unfolding with_text
text_put u t m l e = (ap (set u text_place) e, length-set u text_place m ∙ l)

-- the mark, left as it is
pub text_kept : (u : List ℕ) (t : ℕ) → length u ≡ row_size → eqb t 1 ≡ false → (u ≡ with_text u t) × (length u ≡ row_size)
unfolding with_text
text_kept u t l e = (rw e (at u l), l)
  where
    at : (u : List ℕ) → length u ≡ row_size → u ≡ set u text_place (get_or u text_place 0)
    at [] l = absurd (omega arith)
    at (a ∷ []) l = absurd (omega arith)
    at (a ∷ (b ∷ [])) l = absurd (omega arith)
    at (a ∷ (b ∷ (c ∷ []))) l = absurd (omega arith)
    at (a ∷ (b ∷ (c ∷ (d ∷ f)))) l = refl

-- the mark, then the word
pub block_added : (u v w x : List ℕ) (t : ℕ) → length u ≡ row_size → v ≡ with_text u t → WordAdded v w x → RowAdded u t w x
unfolding with_text facts_in text_in row_at
block_added u v w x t l e a = at u l (subst (λ (y : List ℕ). WordAdded y w x) e a)
  where
    at : (u : List ℕ) → length u ≡ row_size → WordAdded (with_text u t) w x → RowAdded u t w x
    at [] l h = absurd (omega arith)
    at (a ∷ []) l h = absurd (omega arith)
    at (a ∷ (b ∷ [])) l h = absurd (omega arith)
    at (a ∷ (b ∷ (c ∷ []))) l h = absurd (omega arith)
    at (a ∷ (b ∷ (c ∷ (d ∷ f)))) l h = record { size = h.size; facts = h.facts; text = h.text ∙ marked_or d t }
