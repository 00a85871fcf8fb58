-- To be believed: answers as C and Rust get them, with the refusal's number first, 0 for none.
-- Assumes nothing.
use Rattle.std.specs.Prelude.{ℕ, Bool}
use Rattle.refusal.specs.declared.Acceptance.{Acceptance}
use Rattle.refusal.specs.Answer.{Answer, answer_number, acceptance_number, acceptance_yes}
use Rattle.model.specs.declared.Model.{Model}
use Rattle.declaration_spelling.specs.declared.Declared.{Declared}
use Rattle.declaration_writing.specs.Write.{length_due}
use Rattle.declaration_record.specs.Answered.{parent_due, model_due}
use Rattle.intake_within.specs.declared.Inclusion.{Inclusion}
use Rattle.intake_sample.specs.Inference.{answer_model}
use Rattle.intake_within.specs.Comparison.{inclusion_number, inclusion_yes, inclusion_length}
use Rattle.curlewsong_reply.specs.declared.ModelReply.{ModelReply}
use Rattle.curlewsong_reply.specs.declared.Verdict.{Verdict}
use Rattle.curlewsong_reply.specs.declared.InclusionReply.{InclusionReply}
use Rattle.curlewsong_reply.specs.declared.LengthReply.{LengthReply}
use Rattle.curlewsong_reply.specs.declared.TextReply.{TextReply}

unfoldable pub model_reply : Answer Model → ModelReply
model_reply x = record { refusal = answer_number x; model = answer_model x }

unfoldable pub verdict : Acceptance → Verdict
verdict x = record { refusal = acceptance_number x; yes = acceptance_yes x }

-- The reply with these parts.
abbrev pub inclusion_of : ℕ → Bool → ℕ → InclusionReply
inclusion_of n b l = record { refusal = n; yes = b; length = l }

unfoldable pub inclusion_reply : Inclusion → InclusionReply
inclusion_reply x = inclusion_of (inclusion_number x) (inclusion_yes x) (inclusion_length x)

unfoldable pub length_reply : Answer ℕ → LengthReply
length_reply x = record { refusal = answer_number x; length = length_due x }

unfoldable pub text_reply : Answer Declared → TextReply
text_reply x = record { refusal = answer_number x; parent = parent_due x; model = model_due x }
