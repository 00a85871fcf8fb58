-- What is put into a buffer, step by step.
-- Assumes nothing.
use Prim.Native.Nat.{ℕ, suc, ◌+◌, ◌≤◌, ◌<◌}
use mathlib.Core.Path.{◌≡◌, refl, sym, ◌∙◌, ap, subst}
use mathlib.Core.List.{List, [], ◌∷◌, ◌++◌}
use native.Mathlib.Omega.{arith}
use native.Mathlib.Nat.{add-zero}
use lib.ListN.{length, get_or, set, take, drop, length-set, length-append}
use lib.Seq.{sets, sets-eq, length-take-le, take_all, take-append_seam, take-suc}
use borrow.Author.Tests.{ne_eqb}
use Rattle.byte_buffer.specs.Put.{wrote, Put, shown}

pub wrote_none : (d : List ℕ) (at : ℕ) → wrote d at [] ≡ d
unfolding wrote
wrote_none d at = refl

-- one text behind the other is their joining
sets_join : (u v d : List ℕ) (at : ℕ) → sets (sets d at u) (at + length u) v ≡ sets d at (u ++ v)
sets_join [] v d at = ap (λ (k : ℕ). sets d k v) (add-zero at)
sets_join (b ∷ u) v d at =
    let e : at + suc (length u) ≡ suc at + length u = omega arith in
    ap (λ (k : ℕ). sets (sets (set d at b) (suc at) u) k v) e ∙ sets_join u v (set d at b) (suc at)

pub wrote_join : (u v d : List ℕ) (at : ℕ) → wrote (wrote d at u) (at + length u) v ≡ wrote d at (u ++ v)
unfolding wrote
wrote_join u v d at = sets_join u v d at

-- from the start on: what lies behind the text is kept
pub wrote_start : (d text : List ℕ) → length text ≤ length d → wrote d 0 text ≡ text ++ drop (length text) d
unfolding wrote
wrote_start d text h =
    let e : 0 + length text ≡ length text = omega arith in
    sets-eq text d 0 (omega arith) ∙ ap (λ (k : ℕ). text ++ drop k d) e

-- the text can be taken out again
pub wrote_back : (d text : List ℕ) → length text ≤ length d → take (length text) (wrote d 0 text) ≡ text
wrote_back d text h = ap (take (length text)) (wrote_start d text h) ∙ take-append_seam text (drop (length text) d)

-- ---- putting a text part by part

-- Of the whole text, put into d₀ at a place, the rest is still to be put into d at `to`.
pub record Left (d₀ : List ℕ) (at : ℕ) (whole d : List ℕ) (to : ℕ) (rest : List ℕ) : Type 0 where
  pub holds : wrote d to rest ≡ wrote d₀ at whole
  pub place : to + length rest ≡ at + length whole
  pub same : length d ≡ length d₀

pub left_start : (d : List ℕ) (at : ℕ) (whole : List ℕ) → Left d at whole d at whole
left_start d at whole = record { holds = refl; place = refl; same = refl }

pub left_is : (d₀ : List ℕ) (at : ℕ) (whole d : List ℕ) (to : ℕ) (rest next : List ℕ) → rest ≡ next → Left d₀ at whole d to rest → Left d₀ at whole d to next
left_is d₀ at whole d to rest next e l = subst (λ (t : List ℕ). Left d₀ at whole d to t) e l

pub left_put : (d₀ : List ℕ) (at : ℕ) (whole d : List ℕ) (to : ℕ) (piece rest d' : List ℕ) (to' : ℕ) →
    Left d₀ at whole d to (piece ++ rest) → Put d to piece to' d' → Left d₀ at whole d' to' rest
left_put d₀ at whole d to piece rest d' to' l p =
    record {
      holds = rw (p.place, p.holds) (wrote_join piece rest d to ∙ l.holds);
      place = omega (arith, l.place, p.place, length-append piece rest);
      same = p.same ∙ l.same;
    }

pub left_room : (d₀ : List ℕ) (at : ℕ) (whole d : List ℕ) (to : ℕ) (piece rest : List ℕ) →
    Left d₀ at whole d to (piece ++ rest) → at + length whole ≤ length d₀ → to + length piece ≤ length d
left_room d₀ at whole d to piece rest l h = omega (arith, l.place, l.same, length-append piece rest)

pub left_done : (d₀ : List ℕ) (at : ℕ) (whole d : List ℕ) (to : ℕ) → Left d₀ at whole d to [] → Put d₀ at whole to d
left_done d₀ at whole d to l =
    record { place = omega (arith, l.place); holds = sym (wrote_none d to) ∙ l.holds; same = l.same }

-- the last part
pub left_last : (d₀ : List ℕ) (at : ℕ) (whole d : List ℕ) (to : ℕ) (piece d' : List ℕ) (to' : ℕ) →
    Left d₀ at whole d to piece → Put d to piece to' d' → Put d₀ at whole to' d'
left_last d₀ at whole d to piece d' to' l p =
    record { place = omega (arith, l.place, p.place); holds = p.holds ∙ l.holds; same = p.same ∙ l.same }

-- ---- bytes of a list

-- the first j bytes of s stand in the buffer; shut, so that its arguments are found in a goal
pub sofar : List ℕ → ℕ → List ℕ → ℕ → List ℕ
sofar d at s j = wrote d at (take j s)

pub sofar_none : (d : List ℕ) (at : ℕ) (s : List ℕ) → d ≡ sofar d at s 0
unfolding sofar
sofar_none d at s = sym (wrote_none d at)

pub sofar_more : (d e : List ℕ) (at : ℕ) (s : List ℕ) (j : ℕ) → e ≡ sofar d at s j → j < length s → set e (at + j) (get_or s j 0) ≡ sofar d at s (j + 1)
unfolding sofar wrote
sofar_more d e at s j q h =
    let o : j + 1 ≡ suc j = omega arith in
    let l : length (take j s) ≡ j = length-take-le j s (omega arith) in
    ap (λ (x : List ℕ). set x (at + j) (get_or s j 0)) q
    ∙ ap (λ (k : ℕ). set (sets d at (take j s)) (at + k) (get_or s j 0)) (sym l)
    ∙ sets_join (take j s) (get_or s j 0 ∷ []) d at
    ∙ ap (sets d at) (sym (take-suc s j 0 h) ∙ ap (λ (k : ℕ). take k s) (sym o))

pub sofar_all : (d e : List ℕ) (at : ℕ) (s : List ℕ) (j : ℕ) → e ≡ sofar d at s j → length e ≡ length d → j ≤ length s → length s ≤ j → Put d at s (at + j) e
unfolding sofar
sofar_all d e at s j q l h k = record { place = omega arith; holds = q ∙ ap (wrote d at) (take_all j s k); same = l }

pub sofar_end : (d e : List ℕ) (at : ℕ) (s : List ℕ) (j : ℕ) → e ≡ sofar d at s j → length e ≡ length d → j ≡ length s → Put d at s (at + length s) e
sofar_end d e at s j q l h =
    subst (λ (k : ℕ). Put d at s (at + k) e) h (sofar_all d e at s j q l (omega arith) (omega arith))

-- ---- one byte or none

pub shown_none : (b : ℕ) → b ≡ 0 → shown b ≡ []
unfolding shown
shown_none b e = rw e

pub shown_one : (b : ℕ) → (b ≡ 0 → ⊥) → shown b ≡ b ∷ []
unfolding shown
shown_one b d = rw (ne_eqb b 0 d)

pub put_none : (d : List ℕ) (at b : ℕ) → b ≡ 0 → Put d at (shown b) at d
put_none d at b e = rw (shown_none b e) record { place = omega arith; holds = sym (wrote_none d at); same = refl }

pub put_one : (d : List ℕ) (at b : ℕ) → (b ≡ 0 → ⊥) → Put d at (shown b) (at + 1) (set d at b)
unfolding wrote
put_one d at b n = rw (shown_one b n) record { place = refl; holds = refl; same = length-set d at b }

pub put_nothing : (d : List ℕ) (at : ℕ) → Put d at [] at d
put_nothing d at = record { place = omega arith; holds = sym (wrote_none d at); same = refl }

pub room_one : (d : List ℕ) (at b : ℕ) → (b ≡ 0 → ⊥) → at + length (shown b) ≤ length d → at < length d
room_one d at b n h = let e : length (shown b) ≡ 1 = ap length (shown_one b n) in omega arith

-- the last part fits
pub left_fits : (d₀ : List ℕ) (at : ℕ) (whole d : List ℕ) (to : ℕ) (piece : List ℕ) → Left d₀ at whole d to piece → at + length whole ≤ length d₀ → to + length piece ≤ length d
left_fits d₀ at whole d to piece l h = omega (arith, l.place, l.same)

-- the same text by another name
pub put_is : (d : List ℕ) (at : ℕ) (text next : List ℕ) (to : ℕ) (e : List ℕ) → text ≡ next → Put d at text to e → Put d at next to e
put_is d at text next to e q p = subst (λ (t : List ℕ). Put d at t to e) q p
