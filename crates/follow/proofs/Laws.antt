-- The struct that a sample gives holds the facts that the sample shows, and no others; order and repeats of words do
-- not matter.
-- Assumes nothing.
use Prim.Native.Nat.{ℕ, ◌≤◌}
use mathlib.Core.Path.{◌≡◌, refl, sym, ◌∙◌, ap}
use mathlib.Core.Bool.{Bool, true, false, ◌&&◌, ◌||◌, cond, or-false, or_assoc, false≢true}
use mathlib.Core.List.Memᴰ
use mathlib.Core.List.{List, [], ◌∷◌, Memᴰ}
use mathlib.Core.Logic.{◌⊎◌, inl, inr, ◌↔◌}
use native.Mathlib.Nat.{lt_of_lt_of_le}
use native.Mathlib.Decide.{ℕ_discrete}
use lib.Dec.{eqb, ltb}
use lib.ListN.{length}
use borrow.Author.Tests.{eqb-true, eq-eqb, ne_eqb, ltb-true}
use Rattle.nameset.specs.Places.{places}
use Rattle.nameset.specs.declared.NameSet.{NameSet}
use Rattle.nameset.specs.Set.{member, with}
use Rattle.nameset.specs.Rows.{IsRows, HasRow, row_at, no_rows}
use Rattle.nameset.proofs.Laws.{member_empty, member_with}
use Rattle.nameset.proofs.Rows.{row_put, row_kept, length_put, has_row, no_rows_lem, row_of_none}
use Rattle.book.specs.declared.Layout.{Layout}
use Rattle.book.specs.Book.{Block, all_below, blocks_in}
use Rattle.book.specs.Access.{LaidOut}
use Rattle.book.specs.Stops.{BlocksBelow}
use Rattle.book.proofs.Laws.{blocks_within}
use Rattle.model.specs.Accept.{Names}
use Rattle.nameset.proofs.Tests.{and_left, and_right, or_split, or_right, same_test}
use Rattle.follow.specs.declared.Facts.{Facts}
use Rattle.follow.specs.Follow.{some_word, begins_with, ends_with, has_pair, is_empty, follow_of}
use Rattle.follow.specs.View.{view_of}
use Rattle.follow.specs.Sample.{words_of, Over, SameWords}
use Rattle.follow.specs.Adding.{no_facts, with_first, with_last, with_pair, with_pairs, with_word, with_words, facts_of, showing}

-- ---- words over n names

pub fewer_names : (n m : ℕ) (w : List ℕ) → n ≤ m → Names n w → Names m w
fewer_names n m [] l h = tt
fewer_names n m (x ∷ w) l h = (lt_of_lt_of_le h.0 l, fewer_names n m w l h.1)

pub fewer_over : (n m : ℕ) (ws : List (List ℕ)) → n ≤ m → Over n ws → Over m ws
fewer_over n m [] l h = tt
fewer_over n m (w ∷ ws) l h = (fewer_names n m w l h.0, fewer_over n m ws l h.1)

pub over_in : (n : ℕ) (ws : List (List ℕ)) → Over n ws → (w : List ℕ) → Memᴰ w ws → Names n w
over_in n [] o w i = absurd (Memᴰ.not-nil i)
over_in n (v ∷ vs) o w i = go (Memᴰ.cases_cons i) (over_in n vs o.1 w)
  where
    go : (w ≡ v) ⊎ Memᴰ w vs → (Memᴰ w vs → Names n w) → Names n w
    go (inl e) ih = rw e o.0
    go (inr j) ih = ih j

pub names_below : (n : ℕ) (w : List ℕ) → all_below n w ≡ true → Names n w
unfolding all_below
names_below n [] e = tt
names_below n (x ∷ w) e = (ltb-true x n (and_left (ltb x n) (all_below n w) e), names_below n w (and_right (ltb x n) (all_below n w) e))

pub words_over : (n parent : ℕ) (bs : List Block) → BlocksBelow n bs → Over n (words_of parent bs)
unfolding words_of
words_over n parent [] h = tt
words_over n parent (b ∷ bs) h = go (words_over n parent bs h.3) (eqb b.parent parent)
  where
    go : Over n (words_of parent bs) → (own : Bool) → Over n (cond own (b.word ∷ words_of parent bs) (words_of parent bs))
    go rest true = (names_below n b.word h.2, rest)
    go rest false = rest

-- The sample of a parent of a book is a list of words over the book's names.
pub sample_over : (s : List ℕ) (l : Layout) (parent : ℕ) → LaidOut s l → Over l.names (words_of parent (blocks_in s))
sample_over s l parent laid = words_over l.names parent (blocks_in s) (blocks_within s l laid)

-- ---- one word

eqb_sym : (a b : ℕ) → eqb a b ≡ eqb b a
eqb_sym a b = same_test (eqb a b) (eqb b a) (λ e. eq-eqb b a (sym (eqb-true a b e))) (λ e. eq-eqb a b (sym (eqb-true b a e)))

member_more : (s : NameSet) (x a : ℕ) → member (with s x) a ≡ (member s a || eqb a x)
member_more s x a = member_with s x a ∙ ap (λ (b : Bool). member s a || b) (eqb_sym x a)

starts_shown : (s : NameSet) (w : List ℕ) (a : ℕ) → member (with_first s w) a ≡ (member s a || begins_with a w)
unfolding with_first begins_with
starts_shown s [] a = sym (or-false (member s a))
starts_shown s (x ∷ w) a = member_more s x a

ends_shown : (s : NameSet) (w : List ℕ) (a : ℕ) → member (with_last s w) a ≡ (member s a || ends_with a w)
unfolding with_last ends_with
ends_shown s [] a = sym (or-false (member s a))
ends_shown s (x ∷ []) a = member_more s x a
ends_shown s (x ∷ (y ∷ w)) a = ends_shown s (y ∷ w) a

-- b is in row a
in_row : List ℕ → ℕ → ℕ → Bool
in_row rows a b = member (row_at rows a) b

pair_shown : (rows : List ℕ) (x y a b : ℕ) → HasRow rows x → in_row (with_pair rows x y) a b ≡ (in_row rows a b || (eqb a x && eqb b y))
unfolding in_row with_pair
pair_shown rows x y a b l = go (ℕ_discrete a x)
  where
    go : Dec (a ≡ x) → in_row (with_pair rows x y) a b ≡ (in_row rows a b || (eqb a x && eqb b y))
    go (yes e) = rw (e, eq-eqb x x refl, row_put rows x (with (row_at rows x) y) l) (member_more (row_at rows x) y b)
    go (no d) = rw (ne_eqb a x d, row_kept rows x a (with (row_at rows x) y) d) (sym (or-false (in_row rows a b)))

length_pair : (rows : List ℕ) (x y : ℕ) → length (with_pair rows x y) ≡ length rows
unfolding with_pair
length_pair rows x y = length_put rows x (with (row_at rows x) y)

pub length_pairs : (rows w : List ℕ) → length (with_pairs rows w) ≡ length rows
unfolding with_pairs
length_pairs rows [] = refl
length_pairs rows (x ∷ []) = refl
length_pairs rows (x ∷ (y ∷ w)) = length_pairs (with_pair rows x y) (y ∷ w) ∙ length_pair rows x y

pairs_shown : (n : ℕ) (rows w : List ℕ) (a b : ℕ) → IsRows n rows → Names n w → in_row (with_pairs rows w) a b ≡ (in_row rows a b || has_pair a b w)
unfolding with_pairs has_pair
pairs_shown n rows [] a b l h = sym (or-false (in_row rows a b))
pairs_shown n rows (x ∷ []) a b l h = sym (or-false (in_row rows a b))
pairs_shown n rows (x ∷ (y ∷ w)) a b l h =
    pairs_shown n (with_pair rows x y) (y ∷ w) a b (length_pair rows x y ∙ l) h.1
    ∙ ap (λ (t : Bool). t || has_pair a b (y ∷ w)) (pair_shown rows x y a b (has_row n rows x l h.0))
    ∙ or_assoc (in_row rows a b) (eqb a x && eqb b y) (has_pair a b (y ∷ w))

-- Adding a word changes only the facts which that word shows.
pub word_shown : (n : ℕ) (facts : Facts) (w : List ℕ) → IsRows places facts.follows → Names places w →
    view_of n (with_word facts w) ≡ showing (view_of n facts) w
unfolding with_word in_row
word_shown n facts w l h =
    λ i.
    record {
      names = n;
      starts = λ a. starts_shown facts.starts w a i;
      ends = λ a. ends_shown facts.ends w a i;
      follows = λ a b. pairs_shown places facts.follows w a b l h i;
      empty = facts.empty || is_empty w;
    }

-- ---- a list of words

-- where each word adds to a fact what its own test says, the words together add what some word's test says
module _ (fact : Facts → Bool) (test : List ℕ → Bool)
    (step : (facts : Facts) (w : List ℕ) → IsRows places facts.follows → Names places w → fact (with_word facts w) ≡ (fact facts || test w)) where
  words_shown : (facts : Facts) (ws : List (List ℕ)) → IsRows places facts.follows → Over places ws →
      fact (with_words facts ws) ≡ (fact facts || some_word test ws)
  unfolding with_words some_word with_word
  words_shown facts [] l h = sym (or-false (fact facts))
  words_shown facts (w ∷ ws) l h =
      words_shown (with_word facts w) ws (length_pairs facts.follows w ∙ l) h.1
      ∙ ap (λ (t : Bool). t || some_word test ws) (step facts w l h.0)
      ∙ or_assoc (fact facts) (test w) (some_word test ws)

no_row : (a b : ℕ) → in_row (no_rows places) a b ≡ false
unfolding in_row
no_row a b = ap (λ (s : NameSet). member s b) (row_of_none places a) ∙ member_empty b

length_none : IsRows places no_facts.follows
unfolding no_facts
length_none = no_rows_lem places

-- The struct of a sample over at most as many names as there are places holds its facts, and no others.
pub facts_shown : (n : ℕ) (words : List (List ℕ)) → n ≤ places → Over n words → view_of n (facts_of words) ≡ follow_of n words
unfolding facts_of with_word no_facts in_row
facts_shown n words l h =
    λ i.
    record {
      names = n;
      starts = λ a. shown (λ f. member f.starts a) (begins_with a) (λ f w l h. starts_shown f.starts w a) (member_empty a) i;
      ends = λ a. shown (λ f. member f.ends a) (ends_with a) (λ f w l h. ends_shown f.ends w a) (member_empty a) i;
      follows = λ a b. shown (λ f. in_row f.follows a b) (has_pair a b) (λ f w. pairs_shown places f.follows w a b) (no_row a b) i;
      empty = shown (λ f. f.empty) is_empty (λ f w l h. refl) refl i;
    }
  where
    shown : (fact : Facts → Bool) (test : List ℕ → Bool) →
        ((facts : Facts) (w : List ℕ) → IsRows places facts.follows → Names places w → fact (with_word facts w) ≡ (fact facts || test w)) →
        fact no_facts ≡ false → fact (with_words no_facts words) ≡ some_word test words
    shown fact test step none =
        words_shown fact test step no_facts words length_none (fewer_over n places words l h) ∙ ap (λ (t : Bool). t || some_word test words) none

-- ---- order and repeats

-- Some word passes the test exactly when a word of the list does.
pub some_word_lem : (test : List ℕ → Bool) (words : List (List ℕ)) → (some_word test words ≡ true) ↔ ((w : List ℕ) × Memᴰ w words × (test w ≡ true))
unfolding some_word
some_word_lem test [] = (λ e. absurd (false≢true e), λ p. absurd (Memᴰ.not-nil p.1))
some_word_lem test (v ∷ ws) = (λ e. to (or_split (test v) (some_word test ws) e) (some_word_lem test ws).0, λ p. from p (some_word_lem test ws).1)
  where
    to : (test v ≡ true) ⊎ (some_word test ws ≡ true) → (some_word test ws ≡ true → (w : List ℕ) × Memᴰ w ws × (test w ≡ true)) →
        (w : List ℕ) × Memᴰ w (v ∷ ws) × (test w ≡ true)
    to (inl e) ih = (v, Memᴰ.head refl, e)
    to (inr e) ih = let p = ih e in (p.0, Memᴰ.tail p.1, p.2)

    from : ((w : List ℕ) × Memᴰ w (v ∷ ws) × (test w ≡ true)) → (((w : List ℕ) × Memᴰ w ws × (test w ≡ true)) → some_word test ws ≡ true) →
        (test v || some_word test ws) ≡ true
    from (w, m, e) ih = go (Memᴰ.cases_cons m)
      where
        go : (w ≡ v) ⊎ Memᴰ w ws → (test v || some_word test ws) ≡ true
        go (inl q) = rw (ap test (sym q) ∙ e)
        go (inr q) = or_right (test v) (some_word test ws) (ih (w, q, e))

some_same : (test : List ℕ → Bool) (us vs : List (List ℕ)) → SameWords us vs → some_word test us ≡ some_word test vs
some_same test us vs same =
    same_test (some_word test us) (some_word test vs) (λ e. to us vs (λ w. (same w).0) ((some_word_lem test us).0 e)) (λ e. to vs us (λ w. (same w).1) ((some_word_lem test vs).0 e))
  where
    to : (xs ys : List (List ℕ)) → ((w : List ℕ) → Memᴰ w xs → Memᴰ w ys) → ((w : List ℕ) × Memᴰ w xs × (test w ≡ true)) → some_word test ys ≡ true
    to xs ys f (w, m, e) = (some_word_lem test ys).1 (w, f w m, e)

-- The facts depend only on which words there are.
pub same_facts : (n : ℕ) (us vs : List (List ℕ)) → SameWords us vs → follow_of n us ≡ follow_of n vs
same_facts n us vs same =
    λ i.
    record {
      names = n;
      starts = λ a. some_same (begins_with a) us vs same i;
      ends = λ a. some_same (ends_with a) us vs same i;
      follows = λ a b. some_same (has_pair a b) us vs same i;
      empty = some_same is_empty us vs same i;
    }
