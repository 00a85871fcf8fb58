-- To be believed: when exactly a call is refused, and for which number (demand 1; paper 01, "Where a call stops").
-- k is the number that the call answered, 0 where it was not refused. One record for each call. Each condition includes
-- that no earlier one applies. `TakenAs bytes b`: the call takes the bytes as the book b (crates/book/specs/Taken.antt).
-- Assumes nothing.
use Rattle.std.specs.Prelude.{ℕ, ◌+◌, ◌*◌, ◌%◌, ◌≤◌, ◌<◌, ◌≡◌, Bool, true, false, ◌↔◌, ◌⊎◌, length}
use mathlib.Core.List.{List, [], Memᴰ}
use Rattle.refusal.specs.declared.Refusal.{Refusal}
use Rattle.refusal.specs.declared.Refusal.TheVariants.{BookTooLong, BytesMissing, BadNameCount, BadName, NameNotAbove, NumberNotBelow, BytesLeftOver, BadText, BadDocument, TooDeep}
use Rattle.refusal.specs.Table.{number_of, of_book}
use Rattle.nameset.specs.Places.{places, OutOfRange}
use Rattle.book.specs.Book.{Book, IsBook}
use Rattle.book.specs.Used.{Unused}
use Rattle.book.specs.Taken.{TakenAs}
use Rattle.book.specs.Stops.{Stops}
use Rattle.model.specs.declared.Model.{Model}
use Rattle.model.specs.Record.{IsModel}
use Rattle.model_table.specs.Table.{row_size, entry_of}
use Rattle.model_table_check.specs.Check.{BadRecord}
use Rattle.document.specs.Tree.{Tree, IsDocument, Valid}
use Rattle.document.specs.Fault.{unbegun, FirstFault}
use Rattle.declaration_spelling.specs.House.{declaration}
use Rattle.declaration_spelling.specs.Spelled.{Spelled}
use Rattle.declaration_spelling.specs.Stops.{Form, model_names, form_names, Twice, HasForm}
use Rattle.model_inclusion.specs.Inclusion.{longest_counterexample}
use Rattle.intake_word.specs.Acceptance.{longest_word, Passes}
use Rattle.intake_document.specs.Document.{longest_document, Ready}
use Rattle.intake_within.specs.Comparison.{PassesBoth}
use Rattle.intake_sample.specs.Inference.{sample_of, parent_model}
use Rattle.intake_dtd.specs.Dtd.{dtd_of}
use Rattle.dtd_output.specs.Output.{refused_text}

-- k is the number of a refusal that concerns the book, 1 to 7, 16, 17.
abbrev pub OfBook : ℕ → Type 0
OfBook k = (f : Refusal) × (of_book f ≡ true) × (k ≡ number_of f)

-- Of every call that takes a book. `Stops bytes f` states of the bytes alone that they are refused by f:
-- crates/book/specs/Stops.antt. `IsBook bytes b`: the bytes are the book b, and none of 1 to 7 and 16 applies.
pub record BookConditions (bytes : List ℕ) (k : ℕ) : Type 0 where
  -- "above 60,000 bytes"
  pub one : (k ≡ 1) ↔ Stops bytes BookTooLong
  -- "bytes missing for it, before its value"
  pub two : (k ≡ 2) ↔ Stops bytes BytesMissing
  -- the count N is "0 or above 64"
  pub three : (k ≡ 3) ↔ Stops bytes BadNameCount
  -- a name's "bad length or byte"
  pub four : (k ≡ 4) ↔ Stops bytes BadName
  -- a name "not above the one before"
  pub five : (k ≡ 5) ↔ Stops bytes NameNotAbove
  -- a block's "number not below N"
  pub six : (k ≡ 6) ↔ Stops bytes NumberNotBelow
  -- "a text byte above 1"
  pub sixteen : (k ≡ 16) ↔ Stops bytes BadText
  -- "after the last block: bytes left over"
  pub seven : (k ≡ 7) ↔ Stops bytes BytesLeftOver
  -- "a name that is neither a parent nor a child in any block", "after 7 and before 8"
  pub seventeen : (k ≡ 17) ↔ ((b : Book) × IsBook bytes b × ((i : ℕ) × Unused b i))

-- 1 to 64.
abbrev pub InRange : ℕ → Type 0
InRange n = (0 < n) × (n ≤ places)

-- Acceptance of the word w by the record m over n names.
pub record WordConditions (n : ℕ) (m : Model) (w : List ℕ) (k : ℕ) : Type 0 where
  -- "count N, also when given alone: 0 or above 64"
  pub three : (k ≡ 3) ↔ OutOfRange n
  -- "no chain over N names", or "a text record of any other shape"
  pub ten : (k ≡ 10) ↔ (InRange n × (¬ IsModel places n m))
  -- "above 255 names, or a number not below N"
  pub eleven : (k ≡ 11) ↔ (InRange n × (IsModel places n m × ((longest_word < length w) ⊎ ((x : ℕ) × Memᴰ x w × (n ≤ x)))))
  pub none : (k ≡ 0) ↔ Passes n m w
  pub no_other : (k ≡ 0) ⊎ ((k ≡ 3) ⊎ ((k ≡ 10) ⊎ (k ≡ 11)))

-- The verdict on the document w, by a table of models for n names (request U7 of paper 02). y is the yes or no that the
-- call answered. `Ready`: none of 1, 3 and 10 applies. `FirstFault n unbegun w f`: the pairs w have a fault, and the
-- first one is refused with f. `IsDocument n t w`: w are the pairs of the tree t.
pub record DocumentConditions (n : ℕ) (table w : List ℕ) (k : ℕ) (y : Bool) : Type 0 where
  -- "Length above 60,000 bytes is 1, and comes first;"
  pub one : (k ≡ 1) ↔ (longest_document < length w)
  -- "3,"
  pub three : (k ≡ 3) ↔ ((length w ≤ longest_document) × OutOfRange n)
  -- "then 10 by rising name, follow." It is one number for all names, so it does not tell which one was seen first.
  pub ten : (k ≡ 10) ↔ ((length w ≤ longest_document) × (InRange n × BadRecord n table))
  -- "18, an odd length", which "is seen before any pair", or a fault of a pair, or at the end
  pub eighteen : (k ≡ 18) ↔ (Ready n table w × ((length w % 2 ≡ 1) ⊎ ((length w % 2 ≡ 0) × FirstFault n unbegun w BadDocument)))
  -- "19, an open that would make depth 33"
  pub nineteen : (k ≡ 19) ↔ (Ready n table w × ((length w % 2 ≡ 0) × FirstFault n unbegun w TooDeep))
  -- "The verdict is yes exactly when every element has a model, its children in order are a word of it, and text stands
  -- only where it is allowed."
  pub yes : (y ≡ true) ↔ (Ready n table w × ((t : Tree) × IsDocument n t w × Valid (entry_of table) t))
  -- no, of a call that was not refused
  pub no : ((k ≡ 0) × (y ≡ false)) ↔ (Ready n table w × ((t : Tree) × IsDocument n t w × (¬ Valid (entry_of table) t)))
  pub none : (k ≡ 0) ↔ (Ready n table w × ((t : Tree) × IsDocument n t w))
  pub no_other : (k ≡ 0) ⊎ ((k ≡ 1) ⊎ ((k ≡ 3) ⊎ ((k ≡ 10) ⊎ ((k ≡ 18) ⊎ (k ≡ 19)))))

-- A model put into a table of models of `room` bytes, for a parent among so many names (`count`).
pub record PutConditions (count parent : ℕ) (m : Model) (room : ℕ) (k : ℕ) : Type 0 where
  pub three : (k ≡ 3) ↔ OutOfRange count
  pub eight : (k ≡ 8) ↔ (InRange count × (count ≤ parent))
  pub ten : (k ≡ 10) ↔ (InRange count × ((parent < count) × (¬ IsModel places count m)))
  -- too short for the parent's row
  pub twelve : (k ≡ 12) ↔ (InRange count × ((parent < count) × (IsModel places count m × (room < parent * row_size + row_size))))
  pub none : (k ≡ 0) ↔ (InRange count × ((parent < count) × (IsModel places count m × (parent * row_size + row_size ≤ room))))
  pub no_other : (k ≡ 0) ⊎ ((k ≡ 3) ⊎ ((k ≡ 8) ⊎ ((k ≡ 10) ⊎ (k ≡ 12))))

-- The comparison of two models over so many names (`count`), with a buffer of `room` places (request U4 of paper 02).
pub record WithinConditions (count : ℕ) (first second : Model) (room : ℕ) (k : ℕ) : Type 0 where
  pub three : (k ≡ 3) ↔ OutOfRange count
  -- "10 for the first record, then 10 for the second": one number for both, so it does not tell which one was seen
  -- first
  pub ten : (k ≡ 10) ↔ (InRange count × ((¬ IsModel places count first) ⊎ (¬ IsModel places count second)))
  -- "12 if the buffer has fewer than 65 places, even when the answer is yes"
  pub twelve : (k ≡ 12) ↔ (InRange count × (IsModel places count first × (IsModel places count second × (room < longest_counterexample))))
  pub none : (k ≡ 0) ↔ PassesBoth count first second room
  pub no_other : (k ≡ 0) ⊎ ((k ≡ 3) ⊎ ((k ≡ 10) ⊎ (k ≡ 12)))

-- The model of a parent.
pub record ModelConditions (bytes : List ℕ) (parent : ℕ) (k : ℕ) : Type 0 where
  pub book : BookConditions bytes k
  -- "not below N"
  pub eight : (k ≡ 8) ↔ ((b : Book) × TakenAs bytes b × (length b.names ≤ parent))
  -- "no block has it"
  pub nine : (k ≡ 9) ↔ ((b : Book) × TakenAs bytes b × ((parent < length b.names) × (sample_of b parent ≡ [])))
  pub none : (k ≡ 0) ↔ ((b : Book) × TakenAs bytes b × ((parent < length b.names) × (¬ (sample_of b parent ≡ []))))
  pub no_other : (k ≡ 0) ⊎ (OfBook k ⊎ ((k ≡ 8) ⊎ (k ≡ 9)))

-- A declaration written with the record m, into a buffer of `room` bytes.
pub record WriteConditions (bytes : List ℕ) (parent : ℕ) (m : Model) (room : ℕ) (k : ℕ) : Type 0 where
  pub book : BookConditions bytes k
  pub eight : (k ≡ 8) ↔ ((b : Book) × TakenAs bytes b × (length b.names ≤ parent))
  pub ten : (k ≡ 10) ↔ ((b : Book) × TakenAs bytes b × ((parent < length b.names) × (¬ IsModel places (length b.names) m)))
  -- "shorter than the declaration"
  pub twelve : (k ≡ 12) ↔ ((b : Book) × TakenAs bytes b ×
      ((parent < length b.names) × (IsModel places (length b.names) m × (room < length (declaration b.names parent m)))))
  pub none : (k ≡ 0) ↔ ((b : Book) × TakenAs bytes b ×
      ((parent < length b.names) × (IsModel places (length b.names) m × (length (declaration b.names parent m) ≤ room))))
  pub no_other : (k ≡ 0) ⊎ (OfBook k ⊎ ((k ≡ 8) ⊎ ((k ≡ 10) ⊎ (k ≡ 12))))

-- The declaration of the model that the parent's blocks give.
abbrev pub sample_declaration : Book → ℕ → List ℕ
sample_declaration b parent = declaration b.names parent (parent_model b parent)

-- A declaration written from the sample, into a buffer of `room` bytes.
pub record SampleConditions (bytes : List ℕ) (parent room : ℕ) (k : ℕ) : Type 0 where
  pub book : BookConditions bytes k
  pub eight : (k ≡ 8) ↔ ((b : Book) × TakenAs bytes b × (length b.names ≤ parent))
  pub nine : (k ≡ 9) ↔ ((b : Book) × TakenAs bytes b × ((parent < length b.names) × (sample_of b parent ≡ [])))
  pub twelve : (k ≡ 12) ↔ ((b : Book) × TakenAs bytes b ×
      ((parent < length b.names) × ((¬ (sample_of b parent ≡ [])) × (room < length (sample_declaration b parent)))))
  pub none : (k ≡ 0) ↔ ((b : Book) × TakenAs bytes b ×
      ((parent < length b.names) × ((¬ (sample_of b parent ≡ [])) × (length (sample_declaration b parent) ≤ room))))
  pub no_other : (k ≡ 0) ⊎ (OfBook k ⊎ ((k ≡ 8) ⊎ ((k ≡ 9) ⊎ (k ≡ 12))))

-- The whole DTD written, into a buffer of `room` bytes.
pub record DtdConditions (bytes : List ℕ) (room : ℕ) (k : ℕ) : Type 0 where
  pub book : BookConditions bytes k
  -- shorter than the whole text
  pub twelve : (k ≡ 12) ↔ ((b : Book) × TakenAs bytes b × (room < length (dtd_of b)))
  pub none : (k ≡ 0) ↔ ((b : Book) × TakenAs bytes b × (length (dtd_of b) ≤ room))
  pub no_other : (k ≡ 0) ⊎ (OfBook k ⊎ (k ≡ 12))

-- A table of models of `room` bytes filled from the samples of a book.
pub record FillConditions (bytes : List ℕ) (room : ℕ) (k : ℕ) : Type 0 where
  pub book : BookConditions bytes k
  -- shorter than the rows of all names
  pub twelve : (k ≡ 12) ↔ ((b : Book) × TakenAs bytes b × (room < length b.names * row_size))
  pub none : (k ≡ 0) ↔ ((b : Book) × TakenAs bytes b × (length b.names * row_size ≤ room))
  pub no_other : (k ≡ 0) ⊎ (OfBook k ⊎ (k ≡ 12))

-- A declaration read. d lists what the text spells: the parent's name, whether the model has text,
-- and each factor's names and mark.
pub record ReadConditions (bytes text : List ℕ) (k : ℕ) : Type 0 where
  pub book : BookConditions bytes k
  -- "not the form above"
  pub thirteen : (k ≡ 13) ↔ ((b : Book) × TakenAs bytes b × ((d : Form) → ¬ HasForm text d))
  -- "a name not in the book", "the parent's included"
  pub fourteen : (k ≡ 14) ↔ ((b : Book) × TakenAs bytes b ×
      ((d : Form) × HasForm text d × ((x : List ℕ) × Memᴰ x (form_names d) × (¬ Memᴰ x b.names))))
  -- "a name twice in the model"
  pub fifteen : (k ≡ 15) ↔ ((b : Book) × TakenAs bytes b ×
      ((d : Form) × HasForm text d × ((x : List ℕ) → Memᴰ x (form_names d) → Memᴰ x b.names) × Twice (model_names d.factors)))
  pub none : (k ≡ 0) ↔ ((b : Book) × TakenAs bytes b × ((p : ℕ) × (m : Model) × Spelled places b.names text p m))
  pub no_other : (k ≡ 0) ⊎ (OfBook k ⊎ ((k ≡ 13) ⊎ ((k ≡ 14) ⊎ (k ≡ 15))))

-- The program, which prints `out` for the bytes. `number` is that of the refusal that it prints, and 0 where it
-- prints a DTD.
pub record ProgramConditions (bytes out : List ℕ) : Type 0 where
  pub number : ℕ
  pub book : BookConditions bytes number
  -- "A refused book prints `refused `, the number in decimal and a line feed."
  pub printed : (f : Refusal) → (out ≡ refused_text f) ↔ (number ≡ number_of f)
  pub none : (number ≡ 0) ↔ ((b : Book) × TakenAs bytes b × (out ≡ dtd_of b))
  pub no_other : (number ≡ 0) ⊎ OfBook number
