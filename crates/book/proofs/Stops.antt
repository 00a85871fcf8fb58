-- Bytes are refused for the conditions of specs/Stops.antt and for no other: `book_refused`, the statement to read, at
-- the end.
-- Assumes nothing.
use Rattle.std.specs.Prelude.{Ok, Err}
use Prim.Native.Nat.{ℕ, ◌≤◌, ◌<◌}
use mathlib.Core.Path.{◌≡◌, refl, sym, ◌∙◌, subst}
use mathlib.Core.Bool.{true, false, not}
use mathlib.Core.List.{List, []}
use mathlib.Core.Logic.{◌↔◌, inl, inr, ⊎_elim}
use native.Mathlib.Omega.{arith}
use lib.Dec.{eqb, ltb}
use lib.ListN.{length}
use borrow.Author.Tests.{lt-ltb, le-ltb, ltb-true, ltb-false, not-true, not-false}
use Rattle.refusal.specs.declared.Refusal.{Refusal}
use Rattle.refusal.specs.declared.Refusal.TheVariants.{BookTooLong, BytesMissing, BadNameCount, BadName, NameNotAbove, NumberNotBelow, BytesLeftOver, BadText, UnusedName, BadDocument, BadParent, BadWord, BufferTooShort, NameTwice, NoBlock, NotADeclaration, NotAModel, TooDeep, UnknownName}
use Rattle.refusal.specs.Table.{number_of, of_book}
use Rattle.refusal.specs.Answer.{Answer, onward, refuse_if}
use Rattle.refusal.proofs.Answers.{onward_given, check_given, given_same, given_refused, onward_refused, check_refused}
use Rattle.refusal.proofs.Checks.{other}
use Rattle.nameset.specs.Places.{good_count, OutOfRange}
use Rattle.nameset.proofs.Count.{count_bounds, bounds_count, count_bad}
use Rattle.book.specs.Field.{Field, field, count_size, count_at, count_of}
use Rattle.book.specs.Book.{Block, Book, longest_book, name_of, names_of, block_of, blocks_of, name_section, block_section, book_of, IsBook}
use Rattle.book.specs.Bytes.{blocks_bytes}
use Rattle.book.specs.Stops.{last_of, BlocksBelow, NamesRead, AtName, AtSection, BlocksRead, AtBlock, AtEnd, Whole, Missing, BadCount, Stops, too_long, missing_bytes, bad_count, bad_name, low_name, bad_block, bad_text, left_over}
use Rattle.book.proofs.Counts.{count_missing, count_given}
use Rattle.book.proofs.Told.{blocks_told}
use Rattle.book.proofs.Sections.{count_told, NameSectionTold, name_section_told, block_section_told}
use Rattle.book.proofs.FieldStops.{count_stop}
use Rattle.book.proofs.NameStops.{NameStop, missing, bad, low, name_stop, name_missing, name_bad, name_low, NamesStop, names_stop, names_refused, names_given}
use Rattle.book.proofs.BlockStops.{BlockStop, cut, over, marked, block_stop, block_missing, block_text, block_bad, BlocksStop, blocks_stop, blocks_refused, blocks_given}

-- ---- the whole book, what a refusal tells

-- behind section 1
abbrev behind_names_lem : Field (List (List ℕ)) → Answer Book
behind_names_lem f = onward (block_section (length f.value) f.rest) (λ blocks. Ok (record { names = f.value; blocks = blocks }))

-- section 1, read
names_read : (s : List ℕ) (f : Field (List (List ℕ))) → length s ≤ longest_book → NameSectionTold s f → NamesRead s f.value f.rest
names_read s f short t =
    let c = count_bounds (length f.value) t.good in
    record {
      short = short;
      enough = t.enough;
      some = rw t.count c.0;
      few = rw t.count c.1;
      rising = t.rising;
      stand = t.bytes;
    }

module _ (s : List ℕ) (r : Refusal) where
  at_name : (last rest : List ℕ) → AtName s last rest → NameStop last rest r → Stops s r
  at_name last rest a (missing h q) = subst (Stops s) q (missing_bytes (inr (inl (last, rest, a, h))))
  at_name last rest a (bad h q) = subst (Stops s) q (bad_name a h)
  at_name last rest a (low h q) = subst (Stops s) q (low_name a h)

  at_block : (rest : List ℕ) → AtBlock s rest → BlockStop (count_at s 0) rest r → Stops s r
  at_block rest a (cut h q) = subst (Stops s) q (missing_bytes (inr (inr (inr (rest, a, h)))))
  at_block rest a (over h q) = subst (Stops s) q (bad_block a h)
  at_block rest a (marked h q) = subst (Stops s) q (bad_text a h)

  in_names : length s ≤ longest_book → name_section s ≡ Err r → Stops s r
  unfolding name_section
  in_names short e = ⊎_elim (λ h. let k = count_stop s r h in subst (Stops s) k.1 (missing_bytes (inl k.0))) (λ h. counted h.0 h.1 h.2) (onward_refused (count_of s) _ r e)
    where
      named : (n : Field ℕ) → count_of s ≡ Ok n → good_count n.value ≡ true → NamesStop n.value [] n.rest r → Stops s r
      named n h g u =
          let c = count_told s n h in
          let b = count_bounds n.value g in
          at_name (last_of [] u.names) u.rest
          (record {
            names = u.names;
            read =
                record {
                  short = short;
                  enough = c.enough;
                  some = rw c.value b.0;
                  few = rw c.value b.1;
                  rising = u.rising;
                  stand = c.rest ∙ u.stand;
                };
            fewer = rw c.value u.fewer;
            before = refl;
          })
          (name_stop (last_of [] u.names) u.rest r u.at)

      no_count : (n : Field ℕ) → count_of s ≡ Ok n → good_count n.value ≡ false → BadCount s
      no_count n h g =
          let c = count_told s n h in
          (short, c.enough, subst OutOfRange (sym c.value) ((count_bad n.value).0 g))

      counted : (n : Field ℕ) → count_of s ≡ Ok n → refuse_if (not (good_count n.value)) BadNameCount (names_of n.value [] n.rest) ≡ Err r → Stops s r
      counted n h e =
          ⊎_elim (λ k. subst (Stops s) k.1 (bad_count (no_count n h (not-true _ k.0)))) (λ k. named n h (not-false _ k.0) (names_stop n.value [] n.rest r k.1))
          (check_refused (not (good_count n.value)) BadNameCount _ r e)

  in_blocks : (rest : List ℕ) → AtSection s rest → block_section (count_at s 0) rest ≡ Err r → Stops s r
  unfolding block_section
  in_blocks rest a e =
      ⊎_elim (λ h. let k = count_stop rest r h in subst (Stops s) k.1 (missing_bytes (inr (inr (inl (rest, a, k.0)))))) (λ h. counted h.0 h.1 h.2) (onward_refused (count_of rest) _ r e)
    where
      so_far : (m : Field ℕ) → count_of rest ≡ Ok m → (bs : List Block) (after : List ℕ) → BlocksBelow (count_at s 0) bs → m.rest ≡ blocks_bytes bs after → BlocksRead s m.value bs after
      so_far m h bs after w q =
          let c = count_told rest m h in
          record { section = rest; before = a; enough = c.enough; count = c.value; within = w; stand = c.rest ∙ q }

      ended : (m : Field ℕ) → count_of rest ≡ Ok m → (g : Field (List Block)) → blocks_of (count_at s 0) m.value m.rest ≡ Ok g →
          refuse_if (ltb 0 (length g.rest)) BytesLeftOver (Ok g.value) ≡ Err r → Stops s r
      ended m h g b e =
          let t = blocks_told (count_at s 0) m.value m.rest g b in
          let d : AtEnd s g.rest = record { m = m.value; blocks = g.value; read = so_far m h g.value g.rest t.within t.bytes; all = t.many } in
          ⊎_elim (λ k. subst (Stops s) k.1 (left_over d (ltb-true 0 (length g.rest) k.0))) (λ k. absurd (given_refused _ r k.1))
          (check_refused (ltb 0 (length g.rest)) BytesLeftOver _ r e)

      blocked : (m : Field ℕ) → count_of rest ≡ Ok m → BlocksStop (count_at s 0) m.value m.rest r → Stops s r
      blocked m h u =
          at_block u.rest (record { m = m.value; blocks = u.blocks; read = so_far m h u.blocks u.rest u.within u.stand; fewer = u.fewer })
          (block_stop (count_at s 0) u.rest r u.at)

      counted : (m : Field ℕ) → count_of rest ≡ Ok m →
          onward (blocks_of (count_at s 0) m.value m.rest) (λ g. refuse_if (ltb 0 (length g.rest)) BytesLeftOver (Ok g.value)) ≡ Err r → Stops s r
      counted m h e =
          ⊎_elim (λ k. blocked m h (blocks_stop (count_at s 0) m.value m.rest r k)) (λ k. ended m h k.0 k.1 k.2)
          (onward_refused (blocks_of (count_at s 0) m.value m.rest) _ r e)

  section_2 : length s ≤ longest_book → (f : Field (List (List ℕ))) → name_section s ≡ Ok f → block_section (length f.value) f.rest ≡ Err r → Stops s r
  section_2 short f h e =
      let t = name_section_told s f h in
      in_blocks f.rest (record { names = f.value; read = names_read s f short t; all = sym t.count }) (rw t.count e)

  refused_stops : book_of s ≡ Err r → Stops s r
  unfolding book_of
  refused_stops e =
      ⊎_elim (λ h. subst (Stops s) h.1 (too_long (ltb-true longest_book (length s) h.0))) (λ h. read (ltb-false longest_book (length s) h.0) h.1)
      (check_refused (ltb longest_book (length s)) BookTooLong _ r e)
    where
      read : length s ≤ longest_book → onward (name_section s) behind_names_lem ≡ Err r → Stops s r
      read short e =
          ⊎_elim (in_names short)
          (λ h. ⊎_elim (section_2 short h.0 h.1) (λ k. absurd (given_refused _ r k.2)) (onward_refused (block_section (length h.0.value) h.0.rest) _ r h.2))
          (onward_refused (name_section s) _ r e)

-- ---- the whole book, what leads to a refusal

module _ (s : List ℕ) where
  named_refused : length s ≤ longest_book → (r : Refusal) → name_section s ≡ Err r → book_of s ≡ Err r
  unfolding book_of
  named_refused short r e = rw (le-ltb longest_book (length s) short, e)

  no_count_refused : length s < count_size → book_of s ≡ Err BytesMissing
  unfolding name_section
  no_count_refused l = named_refused (omega arith) BytesMissing (rw (count_missing s 0 l))

  bad_count_refused : BadCount s → book_of s ≡ Err BadNameCount
  unfolding name_section
  bad_count_refused (short, enough, b) = named_refused short BadNameCount (rw (count_given s 0 enough, (count_bad (count_at s 0)).1 b))

  name_refused : (last rest : List ℕ) → AtName s last rest → (r : Refusal) → name_of last rest ≡ Err r → book_of s ≡ Err r
  unfolding name_section
  name_refused last rest a r e =
      let h = a.read in
      let k : name_of (last_of [] a.names) rest ≡ Err r = rw a.before e in
      named_refused h.short r
      (rw (count_given s 0 h.enough, bounds_count (count_at s 0) h.some h.few, h.stand, names_refused [] a.names rest r (count_at s 0) h.rising a.fewer k))

  section_given : (names : List (List ℕ)) (rest : List ℕ) → NamesRead s names rest → length names ≡ count_at s 0 → name_section s ≡ Ok (field names rest)
  unfolding name_section
  section_given names rest h q =
      rw (count_given s 0 h.enough, bounds_count (count_at s 0) h.some h.few, h.stand, ← q, names_given [] names rest h.rising)

  section_refused : (rest : List ℕ) → AtSection s rest → (r : Refusal) → block_section (count_at s 0) rest ≡ Err r → book_of s ≡ Err r
  unfolding book_of
  section_refused rest a r e =
      rw (le-ltb longest_book (length s) a.read.short, section_given a.names rest a.read a.all, a.all, e)

  block_refused : (rest : List ℕ) → AtBlock s rest → (r : Refusal) → block_of (count_at s 0) rest ≡ Err r → book_of s ≡ Err r
  unfolding block_section
  block_refused rest a r e =
      let h = a.read in
      section_refused h.section h.before r
      (rw (count_given h.section 0 h.enough, h.count, h.stand, blocks_refused (count_at s 0) a.blocks rest r a.m h.within a.fewer e))

  left_over_refused : (rest : List ℕ) → AtEnd s rest → 0 < length rest → book_of s ≡ Err BytesLeftOver
  unfolding block_section
  left_over_refused rest a l =
      let h = a.read in
      section_refused h.section h.before BytesLeftOver
      (rw (count_given h.section 0 h.enough, h.count, h.stand, ← a.all, blocks_given (count_at s 0) a.blocks rest h.within, lt-ltb 0 (length rest) l))

  missing_refused : Missing s → book_of s ≡ Err BytesMissing
  unfolding block_section
  missing_refused (inl l) = no_count_refused l
  missing_refused (inr (inl (last, rest, a, h))) = name_refused last rest a BytesMissing (name_missing last rest h)
  missing_refused (inr (inr (inl (rest, a, l)))) = section_refused rest a BytesMissing (rw (count_missing rest 0 l))
  missing_refused (inr (inr (inr (rest, a, h)))) = block_refused rest a BytesMissing (block_missing (count_at s 0) rest h)

  stops_refused : (r : Refusal) → Stops s r → book_of s ≡ Err r
  unfolding book_of
  stops_refused BookTooLong (too_long h) = rw (lt-ltb longest_book (length s) h)
  stops_refused BytesMissing (missing_bytes h) = missing_refused h
  stops_refused BadNameCount (bad_count h) = bad_count_refused h
  stops_refused BadName (bad_name {last} {rest} a h) = name_refused last rest a BadName (name_bad last rest h)
  stops_refused NameNotAbove (low_name {last} {rest} a h) = name_refused last rest a NameNotAbove (name_low last rest h)
  stops_refused NumberNotBelow (bad_block {rest} a h) = block_refused rest a NumberNotBelow (block_bad (count_at s 0) rest h)
  stops_refused BadText (bad_text {rest} a h) = block_refused rest a BadText (block_text (count_at s 0) rest h)
  stops_refused BytesLeftOver (left_over {rest} a l) = left_over_refused rest a l
  stops_refused BadParent x' = elim x' [ ]
  stops_refused NoBlock x'' = elim x'' [ ]
  stops_refused NotAModel x3 = elim x3 [ ]
  stops_refused BadWord x4 = elim x4 [ ]
  stops_refused BufferTooShort x5 = elim x5 [ ]
  stops_refused NotADeclaration x6 = elim x6 [ ]
  stops_refused UnknownName x7 = elim x7 [ ]
  stops_refused NameTwice x8 = elim x8 [ ]
  stops_refused UnusedName x9 = elim x9 [ ]
  stops_refused BadDocument x10 = elim x10 [ ]
  stops_refused TooDeep x11 = elim x11 [ ]

-- Bytes are refused by a number exactly where its condition holds.
pub book_refused : (s : List ℕ) (r : Refusal) → (book_of s ≡ Err r) ↔ Stops s r
book_refused s r = (refused_stops s r, stops_refused s r)

-- And they are a book exactly where its parts are all there is.
module _ (s : List ℕ) (b : Book) where
  given_whole : book_of s ≡ Ok b → Whole s b
  unfolding book_of
  given_whole e =
      let l = check_given (ltb longest_book (length s)) BookTooLong _ b e in
      let f = onward_given (name_section s) _ b l.1 in
      let g = onward_given (block_section (length f.0.value) f.0.rest) _ b f.2 in
      let t = name_section_told s f.0 f.1 in
      let u = block_section_told (length f.0.value) f.0.rest g.0 g.1 in
      subst (Whole s) (given_same _ b g.2)
      (record {
        section = f.0.rest;
        names = names_read s f.0 (ltb-false longest_book (length s) l.0) t;
        all_names = sym t.count;
        enough = u.enough;
        all_blocks = u.count;
        within = rw t.count u.within;
        stand = u.bytes;
      })

  whole_given : Whole s b → book_of s ≡ Ok b
  unfolding book_of block_section
  whole_given w =
      rw (
        le-ltb longest_book (length s) w.names.short,
        section_given s b.names w.section w.names w.all_names,
        w.all_names,
        count_given w.section 0 w.enough,
        w.all_blocks,
        w.stand,
        blocks_given (count_at s 0) b.blocks [] w.within,
      )

  pub book_whole : IsBook s b ↔ Whole s b
  book_whole = (given_whole, whole_given)

-- So they are refused by numbers of a book and by no other, and never by 17, which is checked of a whole book.
pub book_stops : (s : List ℕ) (r : Refusal) → book_of s ≡ Err r → (of_book r ≡ true) × (¬ (UnusedName ≡ r))
book_stops s r e = let (book, apart) = own r (refused_stops s r e) in (book, other UnusedName r apart)
  where
    own : (r : Refusal) → Stops s r → (of_book r ≡ true) × (eqb (number_of UnusedName) (number_of r) ≡ false)
    own BookTooLong (too_long h) = (refl, refl)
    own BytesMissing (missing_bytes h) = (refl, refl)
    own BadNameCount (bad_count h) = (refl, refl)
    own BadName (bad_name a h) = (refl, refl)
    own NameNotAbove (low_name a h) = (refl, refl)
    own NumberNotBelow (bad_block a h) = (refl, refl)
    own BadText (bad_text a h) = (refl, refl)
    own BytesLeftOver (left_over a h) = (refl, refl)
    own BadParent x' = elim x' [ ]
    own NoBlock x'' = elim x'' [ ]
    own NotAModel x3 = elim x3 [ ]
    own BadWord x4 = elim x4 [ ]
    own BufferTooShort x5 = elim x5 [ ]
    own NotADeclaration x6 = elim x6 [ ]
    own UnknownName x7 = elim x7 [ ]
    own NameTwice x8 = elim x8 [ ]
    own UnusedName x9 = elim x9 [ ]
    own BadDocument x10 = elim x10 [ ]
    own TooDeep x11 = elim x11 [ ]
