-- A book taken in three steps is the book taken: what the answer of the first tells, and that of the last.
-- Assumes nothing.
use Rattle.std.specs.Prelude.{Ok, Err}
use Prim.Native.Nat.{ℕ, ◌+◌, ◌-◌, ◌≤◌, ◌<◌}
use mathlib.Core.Path.{◌≡◌, refl, sym, ◌∙◌, ap, subst}
use mathlib.Core.Bool.{Bool, true, false, not, cond}
use mathlib.Core.List.{List, []}
use native.Mathlib.Omega.{arith}
use native.Mathlib.Decide.{dec_lt}
use lib.Dec.{ltb}
use lib.ListN.{length, drop, length-drop}
use lib.Seq.{drop-drop}
use borrow.Author.Tests.{lt-ltb, le-ltb, ltb-false}
use Rattle.refusal.specs.declared.Refusal.{Refusal}
use Rattle.refusal.specs.declared.Refusal.TheVariants.{BookTooLong, BytesLeftOver, UnusedName}
use Rattle.refusal.specs.Answer.{Answer, onward, refuse_if, value_or}
use Rattle.refusal.proofs.Answers.{onward_given, check_given, given_same, refused_same, given_refused}
use Rattle.nameset.specs.declared.NameSet.{NameSet}
use Rattle.nameset.specs.Places.{places}
use Rattle.nameset.specs.Set.{below, is_empty}
use Rattle.nameset.proofs.Count.{count_bounds}
use Rattle.book.specs.declared.Layout.{Layout}
use Rattle.book.specs.Field.{Field, count_size, count_of}
use Rattle.book.specs.Book.{Block, Book, longest_book, name_section, blocks_of, block_section, book_of}
use Rattle.book.specs.Layout.{offset_table, end_from, layout_of, reading_of}
use Rattle.book.specs.Used.{some_unused, has_unused}
use Rattle.book.specs.Taken.{checked_book, taken_book}
use Rattle.book.proofs.Told.{blocks_told}
use Rattle.book.proofs.Taken.{checked_given}
use Rattle.book.proofs.Sections.{name_section_told, count_told, behind_names_lem}
use Rattle.book_unused.specs.Unused.{without_blocks}
use Rattle.book_unused.proofs.Laws.{all_taken_out}
use Rattle.book_blocks.specs.declared.BlocksEnd.{BlocksEnd}
use Rattle.book_blocks.specs.Tables.{behind_blocks, blocks_end}
use Rattle.book_blocks.specs.Gathers.{blocks_from, GathersAll}
use Rattle.book_blocks.proofs.Steps.{behind_blocks_lem}
use Rattle.book_blocks.proofs.Gathering.{from_all}
use Rattle.book_reading.specs.Opening.{Head, head_of, body_of, blocks_read, head_layout, opening_of, closing}

-- ---- the head, then the body

-- the parts of both, by name
abbrev headed : List (List ℕ) → Field ℕ → Answer Head
headed names m = Ok (record { names = names; count = m.value; rest = m.rest })

abbrev whole : List (List ℕ) → List Block → Answer Book
whole names blocks = Ok (record { names = names; blocks = blocks })

abbrev checked : List (List ℕ) → List Block → Answer Book
checked names blocks = checked_book (record { names = names; blocks = blocks })

abbrev ended : {A : Type 0} → Field (List Block) → (List Block → Answer A) → Answer A
ended blocks next = refuse_if (ltb 0 (length blocks.rest)) BytesLeftOver (next blocks.value)

abbrev named : Field (List (List ℕ)) → Answer Head
named names = onward (count_of names.rest) (headed names.value)

abbrev sectioned : Field (List (List ℕ)) → Answer Book
sectioned names = onward (block_section (length names.value) names.rest) (whole names.value)

by_end : (names : List (List ℕ)) (a : Answer (Field (List Block))) →
    onward a (λ blocks. ended blocks (checked names)) ≡ onward (onward (onward a (λ blocks. ended blocks Ok)) (whole names)) checked_book
by_end names (Err r) = refl
by_end names (Ok blocks) = go (ltb 0 (length blocks.rest))
  where
    go : (left : Bool) →
        refuse_if left BytesLeftOver (checked names blocks.value) ≡ onward (onward (refuse_if left BytesLeftOver (Ok blocks.value)) (whole names)) checked_book
    go true = refl
    go false = refl

by_count : (names : Field (List (List ℕ))) → onward (named names) body_of ≡ onward (sectioned names) checked_book
unfolding body_of block_section
by_count names = go (count_of names.rest)
  where
    go : (a : Answer (Field ℕ)) → onward (onward a (headed names.value)) body_of
        ≡ onward (onward (onward a (λ m. onward (blocks_of (length names.value) m.value m.rest) (λ blocks. ended blocks Ok))) (whole names.value)) checked_book
    go (Err r) = refl
    go (Ok m) = by_end names.value (blocks_of (length names.value) m.value m.rest)

pub taken_by_head : (s : List ℕ) → onward (head_of s) body_of ≡ taken_book s
unfolding head_of book_of taken_book
taken_by_head s = long (ltb longest_book (length s))
  where
    names_first : (a : Answer (Field (List (List ℕ)))) → onward (onward a named) body_of ≡ onward (onward a sectioned) checked_book
    names_first (Err r) = refl
    names_first (Ok names) = by_count names

    long : (t : Bool) → onward (refuse_if t BookTooLong (onward (name_section s) named)) body_of ≡ onward (refuse_if t BookTooLong (onward (name_section s) sectioned)) checked_book
    long true = refl
    long false = names_first (name_section s)

-- ---- a head that was read

pub record HeadTold (s : List ℕ) (h : Head) : Type 0 where
  pub short : length s ≤ longest_book
  pub some : 1 ≤ length h.names
  pub few : length h.names ≤ places
  pub fits : end_from count_size h.names + count_size ≤ length s
  pub rest : drop (end_from count_size h.names + count_size) s ≡ h.rest

pub head_told : (s : List ℕ) (h : Head) → head_of s ≡ Ok h → HeadTold s h
unfolding head_of
head_told s h e = found (check_given (ltb longest_book (length s)) BookTooLong _ h e)
  where
    counted : length s ≤ longest_book → (f : Field (List (List ℕ))) → name_section s ≡ Ok f →
        ((m : Field ℕ) × (count_of f.rest ≡ Ok m) × (headed f.value m ≡ Ok h)) → HeadTold s h
    counted l f p (m, q, e) =
        let t = name_section_told s f p in
        let c = count_bounds (length f.value) t.good in
        let z = behind_names_lem s count_size f.value f.rest t.enough t.bytes in
        let k = count_told f.rest m q in
        let d : length (drop (end_from count_size f.value) s) ≡ length s - end_from count_size f.value = length-drop (end_from count_size f.value) s in
        let r : length f.rest ≡ length s - end_from count_size f.value = ap length (sym z.1) ∙ d in
        subst (HeadTold s) (given_same _ h e)
        (record {
          short = l;
          some = c.0;
          few = c.1;
          fits = omega (arith, z.0, k.enough, r);
          rest = sym (drop-drop count_size (end_from count_size f.value) s) ∙ ap (drop count_size) z.1 ∙ k.rest;
        })

    found : ((ltb longest_book (length s) ≡ false) × (onward (name_section s) named ≡ Ok h)) → HeadTold s h
    found (l, e) =
        let o = onward_given (name_section s) _ h e in
        counted (ltb-false longest_book (length s) l) o.0 o.1 (onward_given (count_of o.0.rest) _ h o.2)

opening_done : (a : Answer Head) (l : Layout) → Ok l ≡ opening_of a → (h : Head) × (a ≡ Ok h) × (l ≡ head_layout h)
unfolding opening_of
opening_done (Ok h) l e = (h, refl, given_same _ _ e)
opening_done (Err f) l e = absurd (given_refused l f e)

opening_refused : (a : Answer Head) (f : Refusal) → Err f ≡ opening_of a → a ≡ Err f
unfolding opening_of
opening_refused (Ok h) f e = absurd (given_refused (head_layout h) f (sym e))
opening_refused (Err g) f e = ap Err (sym (refused_same {A = Layout} f g e))

-- ---- the end

-- what is left of the bytes, and of the names, decides whether the book ends well
closed : (s : List ℕ) (l : Layout) (b : Book) (blocks : Field (List Block)) (at : ℕ) (unused : NameSet) → blocks.value ≡ b.blocks → l ≡ layout_of b →
    length blocks.rest ≡ length s - at → is_empty unused ≡ not (has_unused b) → closing (length s) l (Ok (record { at = at; unused = unused })) ≡ reading_of (ended blocks (checked b.names))
unfolding closing reading_of checked_book
closed s l b blocks at unused eb el er eu = go (dec_lt at (length s)) (has_unused b) refl
  where
    go : Dec (at < length s) → (t : Bool) → has_unused b ≡ t →
        cond (ltb at (length s)) (Err BytesLeftOver) (cond (is_empty unused) (Ok l) (Err UnusedName)) ≡ reading_of (ended blocks (checked b.names))
    go (yes h) t q = rw (lt-ltb at (length s) h, lt-ltb 0 (length blocks.rest) (omega arith))
    go (no h) true q = rw (le-ltb at (length s) (omega arith), le-ltb 0 (length blocks.rest) (omega arith), eb, eu, q)
    go (no h) false q = rw (le-ltb at (length s) (omega arith), le-ltb 0 (length blocks.rest) (omega arith), eb, eu, q, el)

same_layout : (h : Head) (bs : List Block) → length bs ≡ h.count → head_layout h ≡ layout_of (record { names = h.names; blocks = bs })
unfolding head_layout layout_of
same_layout h bs e = λ i. record { names = length h.names; offsets = offset_table h.names; body = end_from count_size h.names + count_size; blocks = sym e i }

-- ---- the three steps

module _ (s : List ℕ) where
  -- a head that is refused
  module _ (f : Refusal) (stop : Err f ≡ opening_of (head_of s)) where
    pub no_head : Err f ≡ reading_of (taken_book s)
    unfolding reading_of
    no_head = ap reading_of (sym (ap (λ (a : Answer Head). onward a body_of) (opening_refused (head_of s) f stop)) ∙ taken_by_head s)

    none_read : [] ≡ blocks_read s
    unfolding blocks_read
    none_read = rw (opening_refused (head_of s) f stop)

    -- nothing is gathered
    pub gathered_none : (K : List Block → List ℕ → Type 0) (t : List ℕ) → K [] t → K (blocks_read s) t
    gathered_none K t k = subst (λ (bs : List Block). K bs t) none_read k

  -- a head that was read
  module _ (l : Layout) (opened : Ok l ≡ opening_of (head_of s)) where
    pub head : Head
    head = (opening_done (head_of s) l opened).0

    read : head_of s ≡ Ok head
    unfolding head
    read = (opening_done (head_of s) l opened).1

    told : HeadTold s head
    told = head_told s head read

    layout_is : l ≡ head_layout head
    unfolding head
    layout_is = (opening_done (head_of s) l opened).2

    names_are : l.names ≡ length head.names
    unfolding head_layout
    names_are = ap (λ (x : Layout). x.names) layout_is

    body_is : l.body ≡ end_from count_size head.names + count_size
    unfolding head_layout
    body_is = ap (λ (x : Layout). x.body) layout_is

    count_is : l.blocks ≡ head.count
    unfolding head_layout
    count_is = ap (λ (x : Layout). x.blocks) layout_is

    -- what the loop over the blocks asks
    pub short : length s ≤ longest_book
    short = told.short

    pub within : l.body ≤ length s
    within = rw body_is told.fits

    pub some : 0 < l.names
    some = rw names_are told.some

    pub few : l.names ≤ places
    few = rw names_are told.few

    -- the blocks as the loop reads them
    due : blocks_of l.names l.blocks (drop l.body s) ≡ blocks_of (length head.names) head.count head.rest
    due = (λ i. blocks_of (names_are i) (count_is i) (drop (body_is i) s)) ∙ ap (blocks_of (length head.names) head.count) told.rest

    all_read : blocks_from l.names l.blocks (drop l.body s) ≡ blocks_read s
    unfolding blocks_read
    all_read =
        (λ i. blocks_from (names_are i) (count_is i) (drop (body_is i) s))
        ∙ ap (blocks_from (length head.names) head.count) told.rest
        ∙ sym (ap (λ (a : Answer Head). value_or [] (onward a (λ h. Ok (blocks_from (length h.names) h.count h.rest)))) read)

    -- what is gathered is what the blocks that were read show
    pub gathered_all : (K : List Block → List ℕ → Type 0) (t u : List ℕ) → K [] t → GathersAll K (blocks_from l.names l.blocks (drop l.body s)) t u → K (blocks_read s) u
    gathered_all K t u k g = subst (λ (bs : List Block). K bs u) all_read (g [] k)

    closes : (a : Answer (Field (List Block))) → blocks_of (length head.names) head.count head.rest ≡ a →
        closing (length s) l (blocks_end l.body (below l.names) a) ≡ reading_of (onward a (λ blocks. ended blocks (checked head.names)))
    unfolding closing blocks_end reading_of has_unused
    closes (Err f) e = refl
    closes (Ok blocks) e =
        let t = blocks_told (length head.names) head.count head.rest blocks e in
        let behind : drop (behind_blocks l.body blocks.value) s ≡ blocks.rest =
        behind_blocks_lem s l.body blocks.value blocks.rest (ap (λ (k : ℕ). drop k s) body_is ∙ told.rest ∙ t.bytes) in
        closed s l (record { names = head.names; blocks = blocks.value }) blocks (behind_blocks l.body blocks.value)
        (without_blocks (below l.names) blocks.value) refl (layout_is ∙ same_layout head blocks.value t.many)
        (ap length (sym behind) ∙ length-drop (behind_blocks l.body blocks.value) s)
        (all_taken_out l.names blocks.value few ∙ ap (λ (n : ℕ). not (some_unused n blocks.value)) names_are)

    -- A book is taken as the last step says.
    pub closed_book : (end : Answer BlocksEnd) → end ≡ blocks_end l.body (below l.names) (blocks_of l.names l.blocks (drop l.body s)) →
        closing (length s) l end ≡ reading_of (taken_book s)
    unfolding body_of
    closed_book end e =
        ap (closing (length s) l) (e ∙ ap (blocks_end l.body (below l.names)) due)
        ∙ closes (blocks_of (length head.names) head.count head.rest) refl
        ∙ ap reading_of (sym (ap (λ (a : Answer Head). onward a body_of) read) ∙ taken_by_head s)

-- ---- the blocks read of a book that is taken are all of its blocks

pub taken_blocks : (s : List ℕ) (b : Book) → taken_book s ≡ Ok b → blocks_read s ≡ b.blocks
unfolding blocks_read body_of
taken_blocks s b e = headed (onward_given (head_of s) body_of b (taken_by_head s ∙ e))
  where
    headed : ((h : Head) × (head_of s ≡ Ok h) × (body_of h ≡ Ok b)) → blocks_read s ≡ b.blocks
    headed (h, p, q) =
        let o = onward_given (blocks_of (length h.names) h.count h.rest) _ b q in
        let c = check_given (ltb 0 (length o.0.rest)) BytesLeftOver _ b o.2 in
        rw p (from_all (length h.names) h.count h.rest o.0 o.1) ∙ ap (λ (x : Book). x.blocks) (checked_given _ b c.1).1
