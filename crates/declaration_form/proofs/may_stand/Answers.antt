-- `#PCDATA` may stand, another word where it is a name.
-- Assumes nothing.
use Rattle.std.proofs.Common.{◌∙◌, eq-eqb}
use Rattle.declaration_form.proofs.Steps.{text_stands, name_stands}
use Rattle.declaration_form.proofs.may_stand.Goals as goal

pub returns-then-kind-eq-PCDATA : goal.returns-then-kind-eq-PCDATA
returns-then-kind-eq-PCDATA c =
    let text = c.if-kind-eq-PCDATA.true in
    eq-eqb _ _ text ∙ text_stands _ _ c.requires.3 text

pub returns-else-kind-eq-PCDATA : goal.returns-else-kind-eq-PCDATA
returns-else-kind-eq-PCDATA c = c.good_word.ensures ∙ name_stands _ _ c.requires.3 c.if-kind-eq-PCDATA.false
