-- The three demands, over the calls open to the outside, the same calls for C, and the program; then requests U2, U4,
-- U5, U6 and U7 of paper 02. Each statement begins with `pub`; what follows, from `unfolding` or the repeated name on,
-- is its proof: skip it. Quotes are from the demands, which call paper 01 "document 01", and from the papers.
-- In a quarter of an hour: `no_better_model` with specs/Results, the names that end in `_refusals`, and
-- `document_exactly`, with specs/Conditions, those that end in `_kept`, then demand 2. The part for C repeats them for
-- replies in C.
-- A theorem about an answer assumes one thing of it, `call`: the answer is as the call's contract (`ensures`) promises.
-- The prover has shown that of every answer.
-- The definitions in crates/demands/specs are to be believed, with those that they cite; docs/TRUST.md has the list.
-- k = 0 means not refused; `answer_number r` is the number k of an answer r, and `answer_model`, `length_due`,
-- `parent_due` and `model_due` are what stands beside it, which paper 01 gives for a refused call too.
-- Assumes nothing.
use Rattle.std.specs.Prelude.{⊤, Ok}
use Prim.Native.Nat.{ℕ, ◌*◌, ◌%◌, ◌≤◌, ◌<◌}
use mathlib.Core.Path.{◌≡◌, refl, sym, ◌∙◌, ap, ap₂, subst}
use mathlib.Core.Bool.{Bool, true, false}
use mathlib.Core.List.{List, [], ◌∷◌, ◌++◌, Memᴰ, map}
use mathlib.Core.Logic.{◌↔◌, ◌⊎◌}
use native.Mathlib.Omega.{arith}
use lib.ListN.{length, take}
use Rattle.refusal.specs.declared.Acceptance.{Acceptance}
use Rattle.refusal.specs.Answer.{Answer, answer_number, acceptance_number, acceptance_yes}
use Rattle.refusal.proofs.Answers.{refused_by, given_by}
use Rattle.nameset.specs.Places.{places}
use Rattle.book.specs.Field.{Field}
use Rattle.book.specs.Book.{Block, Book, IsBook}
use Rattle.book.specs.Used.{Used, AllUsed, Unused}
use Rattle.book.specs.Taken.{taken_book, TakenAs}
use Rattle.book.specs.Stops.{BlocksBelow, Whole}
use Rattle.book.proofs.Stops.{book_whole}
use Rattle.book.proofs.Laws.{book_told}
use Rattle.book.proofs.Used.{no_block_unused, used_or_unused}
use Rattle.book.proofs.Taken.{taken_law, is_book}
use Rattle.book_blocks.specs.Gathers.{Gathers}
use Rattle.book_reading.specs.Opening.{blocks_read}
use Rattle.model.specs.declared.Chain.{Chain}
use Rattle.model.specs.declared.Model.{Model}
use Rattle.model.specs.Record.{factor_of, mode_of, IsChain, model_with, IsModel, empty_model}
use Rattle.model.specs.Accept.{Accepts, Names}
use Rattle.std.proofs.Common.{Some, None}
use Rattle.model_table.specs.Table.{row_size, entry_of}
use Rattle.model_language.specs.Word.{Point, name, end, Fact, AcceptsAll}
use Rattle.model_language.specs.Reach.{Reach}
use Rattle.model_inclusion.specs.Inclusion.{Within, Counterexample, longest_counterexample}
use Rattle.model_inclusion.specs.Search as Search
use Rattle.model_inclusion.proofs.Search as Inclusion-law
use Rattle.follow.specs.Follow.{Follow, follow_of, steps}
use Rattle.follow.specs.Sample.{words_of, SameWords}
use Rattle.follow.proofs.Text.{text_law}
use Rattle.follow_table.specs.Table.{tabled, Keeps}
use Rattle.chain_levels.specs.Level.{OneGroup, IsLevel, Skipped}
use Rattle.chain_levels.specs.Reach.{reaches, same_group, occurs}
use Rattle.chain_levels.specs.Rank.{level_of, last_level, skipped}
use Rattle.chain_levels.proofs.Theorem as Levels
use Rattle.chain_minimal.specs.Placed.{Placed}
use Rattle.chain_minimal.proofs.Order.{equal_records}
use Rattle.chain_mixed.specs.Mixed.{StandsIn, IsTextModel}
use Rattle.chain_mixed.proofs.Theorem as Mixed
use Rattle.chain_sample.specs.Sample.{chain_of_words, model_of_words}
use Rattle.declaration_spelling.specs.House.{declaration}
use Rattle.declaration_spelling.specs.Length.{longest_declaration}
use Rattle.declaration_spelling.specs.Spelled.{Spelled}
use Rattle.declaration_spelling.proofs.House.{house_spelled}
use Rattle.declaration_spelling.proofs.Books.{good_names}
use Rattle.declaration_walk.proofs.Theorem as Spelling
use Rattle.declaration_spelling.specs.declared.Declared.{Declared}
use Rattle.declaration_writing.specs.Write.{length_due, WritesDeclaration}
use Rattle.declaration_record.specs.Answered.{parent_due, model_due}
use Rattle.declaration_reading.specs.Read.{Reads, ReadsDeclaration}
use Rattle.declaration_reading.proofs.Theorem as Reading
use Rattle.document.specs.Tree.{Tree, document_of, Admitted}
use Rattle.document.specs.Fault.{Open, unbegun, Leads}
use Rattle.document.specs.Walk.{walk, start}
use Rattle.document.specs.Examples.{example_entries, examples}
use Rattle.document.proofs.Unique.{tree_same}
use Rattle.document.proofs.Beginning.{beginning}
use Rattle.document.proofs.Examples.{answered}
use Rattle.intake_document.specs.Document.{document_answer, AcceptsDocument}
use Rattle.intake_within.specs.declared.Inclusion.{Inclusion}
use Rattle.intake_word.specs.Acceptance.{Passes, AcceptsWord}
use Rattle.intake_within.specs.Comparison.{inclusion_number, inclusion_yes, inclusion_length, PassesBoth, ComparesModels}
use Rattle.intake_sample.specs.Inference.{sample_of, text_of, parent_model, InfersModel, answer_model}
use Rattle.intake_sample.specs.Writing.{WritesSample}
use Rattle.intake_word.proofs.Theorem.{yes_exactly}
use Rattle.intake_within.proofs.Theorem as Compare
use Rattle.intake_sample.proofs.Samples.{no_word_lem, some_word_lem, sample_names}
use Rattle.intake_sample.proofs.NoBetterModel as Model3
use Rattle.dtd_lines.specs.Lines.{fact_lines, table_facts}
use Rattle.intake_dtd.specs.Dtd.{line_of, dtd_of, facts_of, WritesDtd}
use Rattle.intake_dtd.proofs.Agree.{dtd_by_facts}
use Rattle.intake_models.specs.Putting.{PutsModel}
use Rattle.intake_models.specs.Filling.{models_of, WritesModels}
use Rattle.intake_models.proofs.Theorem as Tables
use Rattle.dtd_output.specs.Output.{output_of}
use Rattle.demands_samples.specs.Samples.{lines, text_lines, line_declaration, printed_declaration}
use Rattle.demands_samples.proofs.Samples.{marked, with_text_lem}
use Rattle.curlewsong_reply.specs.declared.ModelReply.{ModelReply}
use Rattle.curlewsong_reply.specs.declared.Verdict.{Verdict}
use Rattle.curlewsong_reply.specs.declared.InclusionReply.{InclusionReply}
use Rattle.curlewsong_reply.specs.declared.LengthReply.{LengthReply}
use Rattle.curlewsong_reply.specs.declared.TextReply.{TextReply}
use Rattle.curlewsong_reply.specs.Reply.{model_reply, verdict, inclusion_reply, length_reply, text_reply}
use Rattle.curlewsong.specs.Replies.{RepliesModel, RepliesWord, RepliesDocument, RepliesWithin, RepliesWritten, RepliesSample, RepliesDtd, RepliesText, RepliesPut, RepliesModels}
use Rattle.demands.specs.Conditions.{BookConditions, WordConditions, WithinConditions, ModelConditions, WriteConditions, SampleConditions, DtdConditions, ReadConditions, ProgramConditions, DocumentConditions, PutConditions, FillConditions}
use Rattle.demands.specs.Results.{Wrote, HasPut, Asked, Minimal}
use Rattle.demands.proofs.Refusals as Law
use Rattle.demands.proofs.Texts as Text
use Rattle.demands.proofs.SoFar as So

-- ==== demand 1

-- "No book, word, model record or declaration can make a call reach outside its memory, lose part of a number or run
-- without end": this is what it means that a function is proved, and no call has a requirement. How deep the stack may
-- be, and what a caller in C does with its own pointers, are outside it (docs/TRUST.md).

-- "Each refusal in document 01's table is given for its condition and for no other": the records are in
-- specs/Conditions.

pub word_refusals : (n : ℕ) (m : Model) (w : List ℕ) (r : Acceptance) (call : AcceptsWord n m w r) →
    WordConditions n m w (acceptance_number r)
word_refusals n m w r call = subst (WordConditions n m w) (sym call.number) (Law.word_conditions n m w)

pub within_refusals : (n : ℕ) (first second : Model) (r : Inclusion) (before after : List ℕ)
    (call : ComparesModels n first second r before after) →
    WithinConditions n first second (length before) (inclusion_number r)
within_refusals n first second r before after call =
    subst (WithinConditions n first second (length before)) (sym (Compare.number_is n first second r before after call))
    (Law.within_conditions n first second (length before))

pub model_refusals : (bytes : List ℕ) (parent : ℕ) (r : Answer Model) (call : InfersModel bytes parent r) →
    ModelConditions bytes parent (answer_number r)
model_refusals bytes parent r call = subst (ModelConditions bytes parent) (sym (ap answer_number call)) (Law.model_conditions bytes parent)

pub write_refusals : (bytes : List ℕ) (parent : ℕ) (m : Model) (w : Answer ℕ) (before after : List ℕ)
    (call : WritesDeclaration bytes parent m w before after) →
    WriteConditions bytes parent m (length before) (answer_number w)
write_refusals bytes parent m w before after call =
    subst (WriteConditions bytes parent m (length before))
    (sym (Text.writes_number _ w before after call))
    (Law.write_conditions bytes parent m (length before))

pub sample_refusals : (bytes : List ℕ) (parent : ℕ) (w : Answer ℕ) (before after : List ℕ)
    (call : WritesSample bytes parent w before after) →
    SampleConditions bytes parent (length before) (answer_number w)
sample_refusals bytes parent w before after call =
    subst (SampleConditions bytes parent (length before))
    (sym (Text.writes_number _ w before after call))
    (Law.sample_conditions bytes parent (length before))

pub dtd_refusals : (bytes : List ℕ) (w : Answer ℕ) (before after : List ℕ) (call : WritesDtd bytes w before after) →
    DtdConditions bytes (length before) (answer_number w)
dtd_refusals bytes w before after call = subst (DtdConditions bytes (length before))
    (sym (Text.writes_number _ w before after call)) (Law.dtd_conditions bytes (length before))

pub read_refusals : (bytes text : List ℕ) (r : Answer Declared) (call : ReadsDeclaration bytes text r) →
    ReadConditions bytes text (answer_number r)
read_refusals bytes text r call = subst (ReadConditions bytes text) (sym (ap answer_number call))
    (Law.read_conditions bytes text)

-- The program likewise: it prints a refusal exactly where the condition of its number holds, and else the whole DTD.
pub program_refusals : (bytes : List ℕ) → ProgramConditions bytes (output_of (taken_book bytes))
program_refusals = Law.program_conditions

-- The calls take bytes as the book b exactly where they are the book b and each name of it is a parent or a child in
-- some block (U6); and which bytes are a book, and which one, is stated of the bytes too.
pub taken_exactly : (bytes : List ℕ) (b : Book) → TakenAs bytes b ↔ (IsBook bytes b × AllUsed b)
taken_exactly = taken_law

pub book_exactly : (bytes : List ℕ) (b : Book) → IsBook bytes b ↔ Whole bytes b
book_exactly = book_whole

-- "A refused call changes nothing that it was lent", and answers no, the empty model, length 0 or parent 0 ("a model
-- due is the empty model; a yes or no due is no, a length or parent number due is 0"). What a call borrows for reading
-- alone cannot change, by the language.

-- (This one holds by the definition of the number and the yes or no of an answer, so it asks for no call.)
pub word_kept : (r : Acceptance) → 0 < acceptance_number r → acceptance_yes r ≡ false
word_kept = Text.refused_no

pub within_kept : (n : ℕ) (first second : Model) (r : Inclusion) (before after : List ℕ)
    (call : ComparesModels n first second r before after) →
    0 < inclusion_number r → (inclusion_yes r ≡ false) × (inclusion_length r ≡ 0) × (after ≡ before)
within_kept = Compare.refused_keeps

pub model_kept : (bytes : List ℕ) (parent : ℕ) (r : Answer Model) (call : InfersModel bytes parent r) →
    0 < answer_number r → answer_model r ≡ empty_model places
model_kept bytes parent r call l = let (f, e) = refused_by r l in ap answer_model e

pub write_kept : (bytes : List ℕ) (parent : ℕ) (m : Model) (w : Answer ℕ) (before after : List ℕ)
    (call : WritesDeclaration bytes parent m w before after) →
    0 < answer_number w → (length_due w ≡ 0) × (after ≡ before)
write_kept bytes parent m w before after call = Text.writes_kept _ w before after call

pub sample_kept : (bytes : List ℕ) (parent : ℕ) (w : Answer ℕ) (before after : List ℕ)
    (call : WritesSample bytes parent w before after) →
    0 < answer_number w → (length_due w ≡ 0) × (after ≡ before)
sample_kept bytes parent w before after call = Text.writes_kept _ w before after call

pub dtd_kept : (bytes : List ℕ) (w : Answer ℕ) (before after : List ℕ) (call : WritesDtd bytes w before after) →
    0 < answer_number w → (length_due w ≡ 0) × (after ≡ before)
dtd_kept bytes w before after call = Text.writes_kept _ w before after call

pub read_kept : (bytes text : List ℕ) (r : Answer Declared) (call : ReadsDeclaration bytes text r) →
    0 < answer_number r →
    (parent_due r ≡ 0) × (model_due r ≡ empty_model places)
read_kept bytes text r call l = let (f, o) = refused_by r l in Reading.refused_due bytes text r call f o

-- ==== demand 2

-- "A word is accepted exactly when XML 1.0, section 3.2, lets the model match it": the call says yes exactly when
-- nothing stops it and the word is a joining of one part for each factor of the model, in order. Whether the model has
-- text makes no difference: "Acceptance looks at child names" (U5).
pub accepted_exactly : (n : ℕ) (m : Model) (w : List ℕ) (r : Acceptance) (call : AcceptsWord n m w r) →
    (acceptance_yes r ≡ true) ↔ (Passes n m w × Accepts m.chain w)
accepted_exactly n m w r call = let h = yes_exactly n m w r call in (λ e. h.0 (Text.yes_by r e), λ p. Text.by_yes r (h.1 p))

-- What a call that writes has done where it was not refused: the front of the buffer is the canonical form. From the
-- sample it is that of the model x which the call for the model answers.
pub write_done : (bytes : List ℕ) (parent : ℕ) (m : Model) (w : Answer ℕ) (before after : List ℕ)
    (call : WritesDeclaration bytes parent m w before after) →
    answer_number w ≡ 0 → (b : Book) × TakenAs bytes b × Wrote (declaration b.names parent m) (length_due w) before after
write_done = Text.write_done

pub sample_done : (bytes : List ℕ) (parent : ℕ) (w : Answer ℕ) (before after : List ℕ)
    (call : WritesSample bytes parent w before after) → answer_number w ≡ 0 →
    (x : Answer Model) → InfersModel bytes parent x → (b : Book) × TakenAs bytes b × Wrote (declaration b.names parent (answer_model x))
    (length_due w) before after
sample_done bytes parent w before after call z x asked = Text.write_done bytes parent (answer_model x) w before after (Text.as_written bytes parent w before after call z x asked) z

-- The whole DTD: `dtd_of b` has the line of each parent with a block, in rising number (`program_line` below).
pub dtd_done : (bytes : List ℕ) (w : Answer ℕ) (before after : List ℕ) (call : WritesDtd bytes w before after) →
    answer_number w ≡ 0 → (b : Book) × TakenAs bytes b × Wrote (dtd_of b) (length_due w) before after
dtd_done = Text.dtd_done

-- "A model written as a declaration reads back as the same model."
pub written_reads_back : (bytes : List ℕ) (parent : ℕ) (m : Model) (w : Answer ℕ) (before after : List ℕ)
    (call : WritesDeclaration bytes parent m w before after) →
    answer_number w ≡ 0 → (r : Answer Declared) → ReadsDeclaration bytes (take (length_due w) after) r →
    Reads r parent m
written_reads_back = Text.written_reads_back

pub sample_reads_back : (bytes : List ℕ) (parent : ℕ) (w : Answer ℕ) (before after : List ℕ)
    (call : WritesSample bytes parent w before after) → answer_number w ≡ 0 →
    (x : Answer Model) → InfersModel bytes parent x → (r : Answer Declared) →
    ReadsDeclaration bytes (take (length_due w) after) r → Reads r parent (answer_model x)
sample_reads_back bytes parent w before after call z x asked =
    Text.written_reads_back bytes parent (answer_model x) w before after (Text.as_written bytes parent w before after call z x asked) z

-- "A text is read exactly when it is a spelling, allowed by document 01, of the declaration then written": it is read
-- as the parent p and the record m exactly when it is a spelling of them, and what was read is then written.
pub read_exactly : (bytes text : List ℕ) (r : Answer Declared) (call : ReadsDeclaration bytes text r) (p : ℕ) (m : Model) →
    Reads r p m ↔ ((b : Book) × TakenAs bytes b × Spelled places b.names text p m)
read_exactly = Reading.read_exactly

pub read_writes : (bytes text : List ℕ) (r : Answer Declared) (call : ReadsDeclaration bytes text r) →
    answer_number r ≡ 0 →
    (w : Answer ℕ) (before after : List ℕ) → WritesDeclaration bytes (parent_due r) (model_due r) w before after →
    longest_declaration ≤ length before →
    (b : Book) × TakenAs bytes b ×
    ((answer_number w ≡ 0) × Wrote (declaration b.names (parent_due r) (model_due r)) (length_due w) before after)
read_writes = Text.read_writes

-- The canonical form is one of the spellings, and no text is a spelling of two declarations.
pub canonical_spelled : (bytes : List ℕ) (b : Book) → IsBook bytes b → (p : ℕ) (m : Model) → p < length b.names →
    IsModel places (length b.names) m →
    Spelled places b.names (declaration b.names p m) p m
canonical_spelled bytes b read p m = house_spelled places b.names p m (good_names bytes b read).small

pub spelled_once : (bytes : List ℕ) (b : Book) → IsBook bytes b → (text : List ℕ) (p q : ℕ) (m k : Model) →
    Spelled places b.names text p m → Spelled places b.names text q k → (p ≡ q) × (m ≡ k)
spelled_once bytes b read = Spelling.spelled_once places b.names (good_names bytes b read)

-- ==== demand 3

-- "Whatever words a parent's non-empty sample holds, in whatever order and however often", for every book that is not
-- refused and every parent with a block in it and without text: the call is not refused, and its model is minimal
-- (specs/Results). The model of a parent with text is stated below, at request U5.
pub no_better_model : (bytes : List ℕ) (parent : ℕ) (r : Answer Model) (b : Book) → Asked bytes parent r b → text_of b parent ≡ false →
    (answer_number r ≡ 0) × Minimal (length b.names) (answer_model r) (sample_of b parent)
no_better_model bytes parent r b a plain = (
  ap answer_number (Model3.not_refused bytes parent r a.call b a.read a.block),
  record {
    model = Model3.is_model_lem bytes parent r a.call b a.read a.block;
    no_text = Model3.no_text bytes parent r a.call b a.read a.block plain;
    accepts = Model3.accepts_sample bytes parent r a.call b a.read a.block plain;
    no_better = Model3.no_better bytes parent r a.call b a.read a.block plain;
  },
)

-- "Two chain expressions are the same exactly when they have the same factors in the same order with the same marks",
-- and, in paper 01, "exactly when the records are equal".
pub same_exactly : (n : ℕ) (one other : Chain) → IsChain places n one → IsChain places n other →
    (one ≡ other) ↔
    ((one.count ≡ other.count) × ((x : ℕ) → factor_of one x ≡ factor_of other x) × ((i : ℕ) → mode_of one i ≡ mode_of other i))
same_exactly n one other c d = (
  λ e. (ap (λ (m : Chain). m.count) e, λ x. ap (λ (m : Chain). factor_of m x) e, λ i. ap (λ (m : Chain). mode_of m i) e),
  λ (counts, factors, modes). equal_records places n one other c d counts factors modes,
)

-- "That record is the chain which the levels above give": its factors, their order and their modes are those of the
-- levels, over the steps that the words of the sample show; and it is the only chain of which that holds.
pub model_is_placed : (bytes : List ℕ) (parent : ℕ) (r : Answer Model) (b : Book) → Asked bytes parent r b → text_of b parent ≡ false →
    Placed (Fact (sample_of b parent)) (answer_model r).chain
model_is_placed bytes parent r b a = Model3.is_placed bytes parent r a.call b a.read a.block

pub only_placed : (bytes : List ℕ) (parent : ℕ) (r : Answer Model) (b : Book) → Asked bytes parent r b → text_of b parent ≡ false →
    (m : Chain) → IsChain places (length b.names) m → Placed (Fact (sample_of b parent)) m → m ≡ (answer_model r).chain
only_placed bytes parent r b a = Model3.only_placed bytes parent r a.call b a.read a.block

-- The executable definition of the same chain, which the code is proved to compute. (`chain_of_words` is `chain_of` of the
-- words' follow facts.)
pub model_is_chain : (bytes : List ℕ) (parent : ℕ) (r : Answer Model) (b : Book) → Asked bytes parent r b → text_of b parent ≡ false →
    answer_model r ≡ model_with (chain_of_words places (length b.names) (sample_of b parent)) 0
model_is_chain bytes parent r b a plain = sym (Model3.plain_is bytes parent r a.call b a.read a.block plain)

-- The model of any parent with a block, as built: with text or without, the record that `SampleConditions` of
-- specs/Conditions, the lines of a DTD and the samples below name is the one that the call answers.
pub model_is_built : (bytes : List ℕ) (parent : ℕ) (r : Answer Model) (b : Book) → Asked bytes parent r b →
    (answer_model r ≡ parent_model b parent) × (parent_model b parent ≡ model_of_words places (length b.names) (sample_of b parent) (text_of b parent))
unfolding parent_model
model_is_built bytes parent r b a = let e = Model3.model_is bytes parent r a.call b a.read a.block in (sym e, refl)

-- A reader may skip the laws from here to `skipped_law`: they join executable definitions to the specified ones.
-- What is computed on the way is what paper 01 says: the follow facts, who occurs, who reaches whom, the loop groups,
-- the levels of names and of the end, the skipped levels.
module _ (bytes : List ℕ) (parent : ℕ) (r : Answer Model) (b : Book) (a : Asked bytes parent r b) where
  abbrev words : List (List ℕ)
  words = sample_of b parent

  abbrev facts : Follow
  facts = follow_of (length b.names) words

  names : (w : List ℕ) → Memᴰ w words → Names (length b.names) w
  names = sample_names bytes b (is_book bytes b a.read) parent

  pub follow_law : (u v : Point) → steps facts u v ↔ Fact words u v
  follow_law = Levels.follow_law (length b.names) words names

  pub occurs_law : (x : ℕ) → (occurs facts x ≡ true) ↔ ((w : List ℕ) × Memᴰ w words × Memᴰ x w)
  occurs_law = Levels.occurs_law (length b.names) words names

  pub reach_law : (x y : ℕ) → (reaches facts x y ≡ true) ↔ Reach (Fact words) x y
  reach_law = Levels.reach_law (length b.names) words names

  pub group_law : (x y : ℕ) → (same_group facts x y ≡ true) ↔ OneGroup (Fact words) (name x) (name y)
  group_law = Levels.group_law (length b.names) words names

  pub level_law : (x : ℕ) → occurs facts x ≡ true → IsLevel (Fact words) (name x) (level_of facts x)
  level_law = Levels.level_law (length b.names) words names a.block

  pub last_law : IsLevel (Fact words) end (last_level facts)
  last_law = Levels.last_law (length b.names) words names a.block

  -- "Every level from 1 to L - 1 has a point."
  pub filled_law : (l last : ℕ) → IsLevel (Fact words) end last → 0 < l → l < last → (x : ℕ) × IsLevel (Fact words) (name x) l
  filled_law = Levels.filled_law (length b.names) words names a.block

  pub skipped_law : (l : ℕ) → (skipped facts l ≡ true) ↔ Skipped (Fact words) l
  skipped_law = Levels.skipped_law (length b.names) words names a.block

-- "In whatever order and however often": samples of the same words, over as many names, with text in both or in
-- neither, have the same model.
pub same_model : (s t : List ℕ) (p q : ℕ) (x y : Answer Model) (b c : Book) → Asked s p x b → Asked t q y c →
    length b.names ≡ length c.names → text_of b p ≡ text_of c q → SameWords (sample_of b p) (sample_of c q) → answer_model x ≡ answer_model y
same_model s t p q x y b c one other names text same =
    sym (Model3.model_is s p x one.call b one.read one.block)
    ∙ ap₂ (λ (n : ℕ) (has : Bool). model_of_words places n (sample_of b p) has) names text
    ∙ Model3.same_sample (length c.names) (sample_of b p) (sample_of c q) (text_of c q) same
    ∙ Model3.model_is t q y other.call c other.read other.block

-- "Marked * means proved": the twelve lines of paper 01's table, as printed.
pub marked_samples : map line_declaration lines ≡ map printed_declaration lines
marked_samples = marked

-- ==== the program

-- "It prints, for each parent with a block, in rising number, its declaration and a line feed" (`output_of` in
-- crates/dtd_output/specs/Output.antt): the declaration has the model that the call for it answers.
pub program_line : (bytes : List ℕ) (parent : ℕ) (r : Answer Model) (b : Book) → Asked bytes parent r b →
    line_of b parent ≡ declaration b.names parent (answer_model r) ++ (10 ∷ [])
unfolding line_of parent_model
program_line bytes parent r b a =
    rw ((some_word_lem (sample_of b parent)).1 a.block)
    (ap (λ (m : Model). declaration b.names parent m ++ (10 ∷ [])) (Model3.model_is bytes parent r a.call b a.read a.block))

pub program_no_line : (b : Book) (parent : ℕ) → sample_of b parent ≡ [] → line_of b parent ≡ []
unfolding line_of
program_no_line b parent e = rw ((no_word_lem (sample_of b parent)).1 e)

-- What the program prints for a book that is taken is what the call for the whole DTD writes.
pub program_dtd : (bytes : List ℕ) (b : Book) → TakenAs bytes b → output_of (taken_book bytes) ≡ dtd_of b
unfolding output_of
program_dtd bytes b taken = ap output_of taken

-- ==== paper 02, request U2

-- "After each block the facts of every parent are exactly those that the blocks so far show": t is the table before a
-- block, which keeps the blocks bs, and u the table after it, as `gather_block` of crates/book_blocks promises where it
-- gathers the facts of every parent (`Gathers Keeps`; `EachParent` of crates/follow_table). Then the steps that u has for
-- a parent are those that its words in bs and in this block show.
pub after_each_block : (n : ℕ) (bs : List Block) (block : Field Block) (t u : List ℕ) → n ≤ places →
    BlocksBelow n (bs ++ (block.value ∷ [])) → Keeps bs t → (call : Gathers Keeps (Ok block) t u) →
    (parent : ℕ) → parent < tabled → (x y : Point) →
    steps (table_facts n u parent).follow x y ↔ Fact (words_of parent (bs ++ (block.value ∷ []))) x y
after_each_block n bs block t u few below kept call = So.facts_kept n (bs ++ (block.value ∷ [])) u few below (call bs kept)

-- "That a parent has text is a fact too" (U5): u has text for a parent exactly where a block of it, in bs or this one,
-- has the text byte 1.
pub text_after_each_block : (n : ℕ) (bs : List Block) (block : Field Block) (t u : List ℕ) → n ≤ places →
    BlocksBelow n (bs ++ (block.value ∷ [])) → Keeps bs t → (call : Gathers Keeps (Ok block) t u) →
    (parent : ℕ) → parent < tabled →
    ((table_facts n u parent).text ≡ true) ↔
    ((k : Block) × Memᴰ k (bs ++ (block.value ∷ [])) × (k.parent ≡ parent) × (k.text ≡ 1))
text_after_each_block n bs block t u few below kept call parent named =
    let e = So.text_kept n (bs ++ (block.value ∷ [])) u few below (call bs kept) parent named in
    let law = text_law parent (bs ++ (block.value ∷ [])) in
    (λ h. law.0 (sym e ∙ h), λ k. e ∙ law.1 k)

-- "The declarations come from these facts and the names alone": a book's DTD is `fact_lines` of its names and of the
-- facts that the table has after the last block, as `take_table` of crates/follow_table promises it.
pub dtd_from_table : (bytes : List ℕ) (b : Book) (table : List ℕ) → TakenAs bytes b →
    (call : Keeps (blocks_read bytes) table) →
    dtd_of b ≡ fact_lines b.names (table_facts (length b.names) table) 0 (length b.names)
dtd_from_table = So.dtd_by_table

-- The same by the facts of each parent: `dtd_of` looks for its words and its text in all blocks.
pub dtd_from_facts : (bytes : List ℕ) (b : Book) → TakenAs bytes b →
    dtd_of b ≡ fact_lines b.names (facts_of b) 0 (length b.names)
dtd_from_facts bytes b taken = dtd_by_facts bytes b (is_book bytes b taken)

-- ==== paper 02, request U4

-- "Say yes exactly when every word that the first accepts is accepted by the second", whatever its length; and no
-- exactly when that is not so. "U4 compares words of child names only" (U5): text is not compared. A refused call
-- answers no as well; `within_not` is about calls that were not refused.
pub within_exactly : (n : ℕ) (first second : Model) (r : Inclusion) (before after : List ℕ)
    (call : ComparesModels n first second r before after) →
    (inclusion_yes r ≡ true) ↔ (PassesBoth n first second (length before) × Within first.chain second.chain)
within_exactly = Compare.yes_exactly

pub within_not : (n : ℕ) (first second : Model) (r : Inclusion) (before after : List ℕ)
    (call : ComparesModels n first second r before after) →
    ((inclusion_number r ≡ 0) × (inclusion_yes r ≡ false)) ↔
    (PassesBoth n first second (length before) × (¬ Within first.chain second.chain))
within_not = Compare.no_exactly

-- "Bytes past it, and on yes all bytes, are kept; on yes the length is 0": what is kept on yes.
pub within_yes : (n : ℕ) (first second : Model) (r : Inclusion) (before after : List ℕ)
    (call : ComparesModels n first second r before after) →
    inclusion_yes r ≡ true → (inclusion_length r ≡ 0) × (after ≡ before)
within_yes = Compare.yes_keeps

-- "On no, hand over one word of at most 65 names that the first accepts and the second doesn't, in a lent buffer, and
-- its length": the word is at the front of the buffer, its numbers are below N, and the bytes past it are kept.
pub within_word : (n : ℕ) (first second : Model) (r : Inclusion) (before after : List ℕ)
    (call : ComparesModels n first second r before after) →
    inclusion_number r ≡ 0 → inclusion_yes r ≡ false →
    (w : List ℕ) × Counterexample first.chain second.chain w × Names n w × (length w ≤ longest_counterexample) ×
    Wrote w (inclusion_length r) before after
within_word = Text.word_written

-- The yes or no without a buffer, for later requests: `is_within` of crates/model_within computes `within`.
pub within_law : (n : ℕ) (first second : Chain) → IsChain places n first → IsChain places n second →
    (Search.within n first second ≡ true) ↔ Within first second
within_law n first second c d = Inclusion-law.within_law places n first second c d (omega arith)

-- ==== paper 02, request U5

-- A parent has text exactly where one of its blocks has the text byte 1.
pub text_exactly : (b : Book) (parent : ℕ) → (text_of b parent ≡ true) ↔
    ((k : Block) × Memᴰ k b.blocks × (k.parent ≡ parent) × (k.text ≡ 1))
unfolding text_of
text_exactly b parent = text_law parent b.blocks

-- The model of a parent with text: "Text and no children anywhere: `(#PCDATA)`. Text and children: `(#PCDATA|a|b)*`,
-- with exactly the names that stand in its words" (`IsTextModel`). There is no other such record.
pub text_model : (bytes : List ℕ) (parent : ℕ) (r : Answer Model) (b : Book) → Asked bytes parent r b → text_of b parent ≡ true →
    (answer_number r ≡ 0) × IsTextModel places (length b.names) (sample_of b parent) (answer_model r)
text_model bytes parent r b a text = (
  ap answer_number (Model3.not_refused bytes parent r a.call b a.read a.block),
  Model3.is_text_model bytes parent r a.call b a.read a.block text,
)

pub only_text_model : (n : ℕ) (words : List (List ℕ)) (one other : Model) →
    IsTextModel places n words one → IsTextModel places n words other → one ≡ other
only_text_model = Mixed.only_text_model places

-- A word is accepted by it exactly when each of its names stands in some word of the sample; so "`(#PCDATA)` accepts
-- only the empty word".
pub text_accepts : (n : ℕ) (words : List (List ℕ)) (m : Model) → IsTextModel places n words m →
    (w : List ℕ) → Accepts m.chain w ↔ ((x : ℕ) → Memᴰ x w → StandsIn x words)
text_accepts = Mixed.text_accepts places

-- So it accepts every word of the sample.
pub text_accepts_all : (n : ℕ) (words : List (List ℕ)) (m : Model) → IsTextModel places n words m → AcceptsAll m.chain words
text_accepts_all = Mixed.text_accepts_all places

-- How such models are printed, for some samples.
pub text_samples : map line_declaration text_lines ≡ map printed_declaration text_lines
text_samples = with_text_lem

-- ==== paper 02, request U6

-- "A book with a name that is neither a parent nor a child in any block is to be turned down", by 17, "after 7 and
-- before 8": `seventeen` in `BookConditions` of specs/Conditions states it, of the number k of every call that takes a
-- book, and of the program. Whatever else is asked of the call, such a book gives 17,
pub unused_is_17 : (bytes : List ℕ) (k : ℕ) → BookConditions bytes k → (b : Book) (i : ℕ) → IsBook bytes b → Unused b i → k ≡ 17
unused_is_17 bytes k conditions b i read unused = conditions.seventeen.1 (b, read, (i, unused))

-- and "a book with M = 0 is therefore turned down always".
pub no_block_is_17 : (bytes : List ℕ) (k : ℕ) → BookConditions bytes k → (b : Book) → IsBook bytes b → b.blocks ≡ [] → k ≡ 17
no_block_is_17 bytes k conditions b read none = unused_is_17 bytes k conditions b 0 read (no_block_unused b (book_told bytes b read).some_name none)

-- The names of a book are used or unused, and none is both.
pub used_or_not : (b : Book) (i : ℕ) → i < length b.names → (Used b.blocks i × (¬ Unused b i)) ⊎ (Unused b i × (¬ Used b.blocks i))
used_or_not = used_or_unused

-- ==== paper 02, request U7

-- The verdict on a document. `DocumentConditions` of specs/Conditions has the exact condition of every answer: of each
-- refusal, of yes and of no. A refused call answers no (`word_kept`, which is about every yes or no).
pub document_exactly : (n : ℕ) (table w : List ℕ) (r : Acceptance) (call : AcceptsDocument n table w r) →
    DocumentConditions n table w (acceptance_number r) (acceptance_yes r)
document_exactly n table w r call =
    subst (λ (k : ℕ). DocumentConditions n table w k (acceptance_yes r)) (sym call.number)
    (subst (λ (y : Bool). DocumentConditions n table w (answer_number (document_answer n table w)) y) (sym call.yes) (Law.document_conditions n table w))

-- A document is that of one tree.
pub one_tree : (one other : Tree) → document_of one ≡ document_of other → one ≡ other
one_tree = tree_same

-- Pairs p have no fault exactly where they begin the document of some tree over n names that is not too deep. So the
-- first fault is at the first pair with which no such tree is left.
pub no_fault : (n : ℕ) → 0 < n → (p : List ℕ) → length p % 2 ≡ 0 →
    ((q : Open) × Leads n unbegun p q) ↔ ((t : Tree) × (more : List ℕ) × Admitted n t × (p ++ more ≡ document_of t))
no_fault = beginning

-- Some documents with their answers, past the checks of the length, of the names and of the models.
pub document_examples : map (λ e. walk 4 example_entries start e.pairs) examples ≡ map (λ e. e.answer) examples
document_examples = answered

-- A model put into a table: its refusals; a refused call changes nothing; else the table has the model (specs/Results).
pub put_refusals : (n parent : ℕ) (m : Model) (r : Answer ⊤) (before after : List ℕ) (call : PutsModel n parent m r before after) →
    PutConditions n parent m (length before) (answer_number r)
put_refusals n parent m r before after call =
    subst (PutConditions n parent m (length before)) (sym (ap answer_number call.0 ∙ Tables.ended_number _)) (Law.put_conditions n parent m before)

pub put_kept : (n parent : ℕ) (m : Model) (r : Answer ⊤) (before after : List ℕ) (call : PutsModel n parent m r before after) →
    0 < answer_number r → after ≡ before
put_kept n parent m r before after call l = let (f, e) = refused_by r l in Tables.put_kept n parent m r before after call f e

pub put_done : (n parent : ℕ) (m : Model) (r : Answer ⊤) (before after : List ℕ) (call : PutsModel n parent m r before after) →
    answer_number r ≡ 0 → HasPut parent m before after
put_done n parent m r before after call z =
    let d = (given_by r z).1 in
    record {
      row = Tables.put_row_lem n parent m r before after call d;
      own = Tables.put_entry n parent m r before after call d;
      others = Tables.put_others n parent m r before after call d;
      size = Tables.put_length n parent m r before after call d;
      bytes = Tables.put_bytes n parent m r before after call d;
    }

-- A table filled from the samples of a book: its refusals; a refused call changes nothing; else the rows of all names
-- are at the front, 131 bytes for each, and the table has for each name x with a block the model that the call for x
-- answers (y), and none for the others.
pub fill_refusals : (bytes : List ℕ) (w : Answer ℕ) (before after : List ℕ) (call : WritesModels bytes w before after) →
    FillConditions bytes (length before) (answer_number w)
fill_refusals bytes w before after call = subst (FillConditions bytes (length before))
    (sym (Text.writes_number _ w before after call)) (Law.fill_conditions bytes (length before))

pub fill_kept : (bytes : List ℕ) (w : Answer ℕ) (before after : List ℕ) (call : WritesModels bytes w before after) →
    0 < answer_number w → (length_due w ≡ 0) × (after ≡ before)
fill_kept bytes w before after call = Text.writes_kept _ w before after call

pub fill_done : (bytes : List ℕ) (w : Answer ℕ) (before after : List ℕ) (call : WritesModels bytes w before after) →
    answer_number w ≡ 0 → (b : Book) × TakenAs bytes b × Wrote (models_of b) (length_due w) before after
fill_done = Text.fill_done

pub fill_length : (bytes : List ℕ) (w : Answer ℕ) (before after : List ℕ) (call : WritesModels bytes w before after) →
    answer_number w ≡ 0 → (b : Book) → TakenAs bytes b → length_due w ≡ length b.names * row_size
fill_length bytes w before after call z = Tables.fill_length bytes w before after call (given_by w z)

pub fill_entry : (bytes : List ℕ) (w : Answer ℕ) (before after : List ℕ) (call : WritesModels bytes w before after) →
    answer_number w ≡ 0 → (b : Book) → TakenAs bytes b → (x : ℕ) → x < length b.names →
    ((y : Answer Model) → Asked bytes x y b → entry_of after x ≡ Some (answer_model y)) × (sample_of b x ≡ [] → entry_of after x ≡ None)
unfolding parent_model
fill_entry bytes w before after call z b taken x below =
    let d = given_by w z in (
      λ y a. Tables.fill_entry bytes w before after call d b taken x a.block
          ∙ ap Some (Model3.model_is bytes x y a.call b a.read a.block),
      Tables.fill_lacks bytes w before after call d b taken x below,
    )

-- ==== the calls for C and Rust

-- Each of these makes the call in Rattle and passes on its answer as a struct r of C. Stated of r, one after another:
-- its number and when it is given; the rest of r where the call was refused; the rest of r where it was not.

pub c_word : (n : ℕ) (m : Model) (w : List ℕ) (r : Verdict) (call : RepliesWord n m w r) →
    WordConditions n m w r.refusal × (0 < r.refusal → r.yes ≡ false) ×
    ((r.yes ≡ true) ↔ (Passes n m w × Accepts m.chain w))
unfolding verdict
c_word n m w r (x, call, e) =
    subst (λ (v : Verdict). WordConditions n m w v.refusal × (0 < v.refusal → v.yes ≡ false) × ((v.yes ≡ true) ↔ (Passes n m w × Accepts m.chain w))) (sym e)
    (word_refusals n m w x call, word_kept x, accepted_exactly n m w x call)

pub c_document : (n : ℕ) (table w : List ℕ) (r : Verdict) (call : RepliesDocument n table w r) →
    DocumentConditions n table w r.refusal r.yes × (0 < r.refusal → r.yes ≡ false)
unfolding verdict
c_document n table w r (x, call, e) =
    subst (λ (v : Verdict). DocumentConditions n table w v.refusal v.yes × (0 < v.refusal → v.yes ≡ false)) (sym e)
    (document_exactly n table w x call, word_kept x)

pub c_within : (n : ℕ) (first second : Model) (r : InclusionReply) (before after : List ℕ)
    (call : RepliesWithin n first second r before after) →
    WithinConditions n first second (length before) r.refusal ×
    (0 < r.refusal → (r.yes ≡ false) × (r.length ≡ 0) × (after ≡ before)) ×
    ((r.yes ≡ true) ↔ (PassesBoth n first second (length before) × Within first.chain second.chain)) ×
    (r.yes ≡ true → (r.length ≡ 0) × (after ≡ before)) ×
    (r.refusal ≡ 0 → r.yes ≡ false →
    (w : List ℕ) × Counterexample first.chain second.chain w × Names n w × (length w ≤ longest_counterexample) × Wrote w r.length before after)
unfolding inclusion_reply
c_within n first second r before after (x, call, e) =
    subst (λ (v : InclusionReply). WithinConditions n first second (length before) v.refusal ×
    (0 < v.refusal → (v.yes ≡ false) × (v.length ≡ 0) × (after ≡ before)) ×
    ((v.yes ≡ true) ↔ (PassesBoth n first second (length before) × Within first.chain second.chain)) ×
    (v.yes ≡ true → (v.length ≡ 0) × (after ≡ before)) ×
    (v.refusal ≡ 0 → v.yes ≡ false →
    (w : List ℕ) × Counterexample first.chain second.chain w × Names n w × (length w ≤ longest_counterexample) × Wrote w v.length before after)) (sym e) (
      within_refusals n first second x before after call,
      within_kept n first second x before after call,
      within_exactly n first second x before after call,
      within_yes n first second x before after call,
      within_word n first second x before after call,
    )

pub c_model : (bytes : List ℕ) (parent : ℕ) (r : ModelReply) (call : RepliesModel bytes parent r) →
    ModelConditions bytes parent r.refusal × (0 < r.refusal → r.model ≡ empty_model places) ×
    ((b : Book) → TakenAs bytes b → ¬ (sample_of b parent ≡ []) → text_of b parent ≡ false →
    (r.refusal ≡ 0) × Minimal (length b.names) r.model (sample_of b parent) × Placed (Fact (sample_of b parent)) r.model.chain) ×
    ((b : Book) → TakenAs bytes b → ¬ (sample_of b parent ≡ []) → text_of b parent ≡ true →
    (r.refusal ≡ 0) × IsTextModel places (length b.names) (sample_of b parent) r.model)
unfolding model_reply
c_model bytes parent r (x, call, e) =
    subst (λ (v : ModelReply). ModelConditions bytes parent v.refusal × (0 < v.refusal → v.model ≡ empty_model places) ×
    ((b : Book) → TakenAs bytes b → ¬ (sample_of b parent ≡ []) → text_of b parent ≡ false →
    (v.refusal ≡ 0) × Minimal (length b.names) v.model (sample_of b parent) × Placed (Fact (sample_of b parent)) v.model.chain) ×
    ((b : Book) → TakenAs bytes b → ¬ (sample_of b parent ≡ []) → text_of b parent ≡ true →
    (v.refusal ≡ 0) × IsTextModel places (length b.names) (sample_of b parent) v.model)) (sym e) (
      model_refusals bytes parent x call,
      model_kept bytes parent x call,
      λ b q d plain.
          let a : Asked bytes parent x b = record { call = call; read = q; block = d } in
          let n = no_better_model bytes parent x b a plain in (n.0, n.1, model_is_placed bytes parent x b a plain),
      λ b q d text. text_model bytes parent x b (record { call = call; read = q; block = d }) text,
    )

pub c_write : (bytes : List ℕ) (parent : ℕ) (m : Model) (r : LengthReply) (before after : List ℕ)
    (call : RepliesWritten bytes parent m r before after) →
    WriteConditions bytes parent m (length before) r.refusal ×
    (0 < r.refusal → (r.length ≡ 0) × (after ≡ before)) ×
    (r.refusal ≡ 0 → (b : Book) × TakenAs bytes b × Wrote (declaration b.names parent m) r.length before after)
unfolding length_reply
c_write bytes parent m r before after (x, call, e) =
    subst (λ (v : LengthReply). WriteConditions bytes parent m (length before) v.refusal × (0 < v.refusal → (v.length ≡ 0) × (after ≡ before)) ×
    (v.refusal ≡ 0 → (b : Book) × TakenAs bytes b × Wrote (declaration b.names parent m) v.length before after)) (sym e)
    (write_refusals bytes parent m x before after call, write_kept bytes parent m x before after call, write_done bytes parent m x before after call)

pub c_sample : (bytes : List ℕ) (parent : ℕ) (r : LengthReply) (before after : List ℕ)
    (call : RepliesSample bytes parent r before after) →
    SampleConditions bytes parent (length before) r.refusal × (0 < r.refusal → (r.length ≡ 0) × (after ≡ before)) ×
    (r.refusal ≡ 0 → (y : Answer Model) → InfersModel bytes parent y → (b : Book) × TakenAs bytes b × Wrote (declaration b.names parent (answer_model y)) r.length before after)
unfolding length_reply
c_sample bytes parent r before after (x, call, e) =
    subst (λ (v : LengthReply). SampleConditions bytes parent (length before) v.refusal × (0 < v.refusal → (v.length ≡ 0) × (after ≡ before)) ×
    (v.refusal ≡ 0 → (y : Answer Model) → InfersModel bytes parent y → (b : Book) × TakenAs bytes b × Wrote (declaration b.names parent (answer_model y)) v.length before after)) (sym e)
    (sample_refusals bytes parent x before after call, sample_kept bytes parent x before after call, sample_done bytes parent x before after call)

pub c_dtd : (bytes : List ℕ) (r : LengthReply) (before after : List ℕ) (call : RepliesDtd bytes r before after) →
    DtdConditions bytes (length before) r.refusal × (0 < r.refusal → (r.length ≡ 0) × (after ≡ before)) ×
    (r.refusal ≡ 0 → (b : Book) × TakenAs bytes b × Wrote (dtd_of b) r.length before after)
unfolding length_reply
c_dtd bytes r before after (x, call, e) =
    subst (λ (v : LengthReply). DtdConditions bytes (length before) v.refusal × (0 < v.refusal → (v.length ≡ 0) × (after ≡ before)) ×
    (v.refusal ≡ 0 → (b : Book) × TakenAs bytes b × Wrote (dtd_of b) v.length before after)) (sym e)
    (dtd_refusals bytes x before after call, dtd_kept bytes x before after call, dtd_done bytes x before after call)

pub c_read : (bytes text : List ℕ) (r : TextReply) (call : RepliesText bytes text r) →
    ReadConditions bytes text r.refusal × (0 < r.refusal → (r.parent ≡ 0) × (r.model ≡ empty_model places)) ×
    ((p : ℕ) (m : Model) → ((r.refusal ≡ 0) × (r.parent ≡ p) × (r.model ≡ m)) ↔
    ((b : Book) × TakenAs bytes b × Spelled places b.names text p m))
unfolding text_reply
c_read bytes text r (x, call, e) =
    subst (λ (v : TextReply). ReadConditions bytes text v.refusal ×
    (0 < v.refusal → (v.parent ≡ 0) × (v.model ≡ empty_model places)) ×
    ((p : ℕ) (m : Model) → ((v.refusal ≡ 0) × (v.parent ≡ p) × (v.model ≡ m)) ↔
    ((b : Book) × TakenAs bytes b × Spelled places b.names text p m))) (sym e)
    (read_refusals bytes text x call, read_kept bytes text x call, λ p m. Text.read_number bytes text x call p m)

-- (Of this one the reply is the number alone.)
pub c_put : (n parent : ℕ) (m : Model) (k : ℕ) (before after : List ℕ) (call : RepliesPut n parent m k before after) →
    PutConditions n parent m (length before) k × (0 < k → after ≡ before) × (k ≡ 0 → HasPut parent m before after)
c_put n parent m k before after (x, call, e) =
    subst (λ (v : ℕ). PutConditions n parent m (length before) v × (0 < v → after ≡ before) × (v ≡ 0 → HasPut parent m before after)) (sym e)
    (put_refusals n parent m x before after call, put_kept n parent m x before after call, put_done n parent m x before after call)

pub c_fill : (bytes : List ℕ) (r : LengthReply) (before after : List ℕ) (call : RepliesModels bytes r before after) →
    FillConditions bytes (length before) r.refusal × (0 < r.refusal → (r.length ≡ 0) × (after ≡ before)) ×
    (r.refusal ≡ 0 → (b : Book) × TakenAs bytes b × Wrote (models_of b) r.length before after) ×
    (r.refusal ≡ 0 → (b : Book) → TakenAs bytes b → (x : ℕ) → x < length b.names →
    ((y : Answer Model) → Asked bytes x y b → entry_of after x ≡ Some (answer_model y)) × (sample_of b x ≡ [] → entry_of after x ≡ None))
unfolding length_reply
c_fill bytes r before after (x, call, e) =
    subst (λ (v : LengthReply). FillConditions bytes (length before) v.refusal × (0 < v.refusal → (v.length ≡ 0) × (after ≡ before)) ×
    (v.refusal ≡ 0 → (b : Book) × TakenAs bytes b × Wrote (models_of b) v.length before after) ×
    (v.refusal ≡ 0 → (b : Book) → TakenAs bytes b → (x : ℕ) → x < length b.names →
    ((y : Answer Model) → Asked bytes x y b → entry_of after x ≡ Some (answer_model y)) × (sample_of b x ≡ [] → entry_of after x ≡ None))) (sym e)
    (fill_refusals bytes x before after call, fill_kept bytes x before after call, fill_done bytes x before after call, fill_entry bytes x before after call)
