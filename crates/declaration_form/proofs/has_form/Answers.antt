-- The walk behind `<!ELEMENT`, or none.
-- Assumes nothing.
use Rattle.std.proofs.Common.{sym, ◌∙◌, arith}
use Rattle.declaration_spelling.specs.House.{opening}
use Rattle.declaration_form.proofs.Begins.{begins_fits}
use Rattle.declaration_form.proofs.Places.{form_begun, form_not}
use Rattle.declaration_form.proofs.has_form.Goals as goal

pub walks-requires : goal.walks-requires
walks-requires c = let h = begins_fits _ _ (sym c.begins_with.ensures ∙ c.if-begins_with.true) in omega arith

pub returns-then-begins_with : goal.returns-then-begins_with
unfolding opening
returns-then-begins_with c = form_begun _ _ (sym c.begins_with.ensures ∙ c.if-begins_with.true) c.walks.ensures

pub returns-else-begins_with : goal.returns-else-begins_with
unfolding opening
returns-else-begins_with c = c.if-begins_with.false ∙ form_not _ (sym c.begins_with.ensures ∙ c.if-begins_with.false)
