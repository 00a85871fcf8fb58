-- To be believed: what each call for C and Rust promises: there is an answer x that fulfils the promise of the call in
-- Rattle, and the reply is x converted (crates/curlewsong_reply/specs/Reply.antt). What follows for a caller is stated
-- at the end of crates/demands/proofs/Demands.antt.
-- Assumes nothing.
use Rattle.std.specs.Prelude.{ℕ, ◌≡◌, List, ⊤}
use Rattle.refusal.specs.declared.Acceptance.{Acceptance}
use Rattle.refusal.specs.Answer.{Answer, answer_number}
use Rattle.model.specs.declared.Model.{Model}
use Rattle.declaration_spelling.specs.declared.Declared.{Declared}
use Rattle.declaration_writing.specs.Write.{WritesDeclaration}
use Rattle.declaration_reading.specs.Read.{ReadsDeclaration}
use Rattle.intake_within.specs.declared.Inclusion.{Inclusion}
use Rattle.intake_word.specs.Acceptance.{AcceptsWord}
use Rattle.intake_document.specs.Document.{AcceptsDocument}
use Rattle.intake_within.specs.Comparison.{ComparesModels}
use Rattle.intake_sample.specs.Inference.{InfersModel}
use Rattle.intake_sample.specs.Writing.{WritesSample}
use Rattle.intake_dtd.specs.Dtd.{WritesDtd}
use Rattle.intake_models.specs.Putting.{PutsModel}
use Rattle.intake_models.specs.Filling.{WritesModels}
use Rattle.curlewsong_reply.specs.declared.ModelReply.{ModelReply}
use Rattle.curlewsong_reply.specs.declared.Verdict.{Verdict}
use Rattle.curlewsong_reply.specs.declared.InclusionReply.{InclusionReply}
use Rattle.curlewsong_reply.specs.declared.LengthReply.{LengthReply}
use Rattle.curlewsong_reply.specs.declared.TextReply.{TextReply}
use Rattle.curlewsong_reply.specs.Reply.{model_reply, verdict, inclusion_reply, length_reply, text_reply}

abbrev pub RepliesModel : List ℕ → ℕ → ModelReply → Type 0
RepliesModel bytes parent r = (x : Answer Model) × InfersModel bytes parent x × (r ≡ model_reply x)

abbrev pub RepliesWord : ℕ → Model → List ℕ → Verdict → Type 0
RepliesWord n m w r = (x : Acceptance) × AcceptsWord n m w x × (r ≡ verdict x)

abbrev pub RepliesDocument : ℕ → List ℕ → List ℕ → Verdict → Type 0
RepliesDocument n table w r = (x : Acceptance) × AcceptsDocument n table w x × (r ≡ verdict x)

-- The buffer held `before` and then holds `after`.
abbrev pub RepliesWithin : ℕ → Model → Model → InclusionReply → List ℕ → List ℕ → Type 0
RepliesWithin n first second r before after = (x : Inclusion) × ComparesModels n first second x before after × (r ≡ inclusion_reply x)

abbrev pub RepliesWritten : List ℕ → ℕ → Model → LengthReply → List ℕ → List ℕ → Type 0
RepliesWritten bytes parent m r before after = (x : Answer ℕ) × WritesDeclaration bytes parent m x before after × (r ≡ length_reply x)

abbrev pub RepliesSample : List ℕ → ℕ → LengthReply → List ℕ → List ℕ → Type 0
RepliesSample bytes parent r before after = (x : Answer ℕ) × WritesSample bytes parent x before after × (r ≡ length_reply x)

abbrev pub RepliesDtd : List ℕ → LengthReply → List ℕ → List ℕ → Type 0
RepliesDtd bytes r before after = (x : Answer ℕ) × WritesDtd bytes x before after × (r ≡ length_reply x)

abbrev pub RepliesText : List ℕ → List ℕ → TextReply → Type 0
RepliesText bytes text r = (x : Answer Declared) × ReadsDeclaration bytes text x × (r ≡ text_reply x)

-- The reply is the number alone.
abbrev pub RepliesPut : ℕ → ℕ → Model → ℕ → List ℕ → List ℕ → Type 0
RepliesPut n parent m k before after = (x : Answer ⊤) × PutsModel n parent m x before after × (k ≡ answer_number x)

abbrev pub RepliesModels : List ℕ → LengthReply → List ℕ → List ℕ → Type 0
RepliesModels bytes r before after = (x : Answer ℕ) × WritesModels bytes x before after × (r ≡ length_reply x)
