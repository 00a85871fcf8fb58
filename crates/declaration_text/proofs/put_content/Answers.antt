-- The model without text, or with it.
-- Assumes nothing.
use Rattle.declaration_text.proofs.Steps.{body_room, mixed_room, without_text, with_text_lem}
use Rattle.declaration_text.proofs.put_content.Goals as goal

pub put_body-requires : goal.put_body-requires
put_body-requires c = (c.requires.0, body_room _ _ _ c.if-m-eq0.true _ _ c.requires.1, c.requires.2)

pub returns-then-m-eq0 : goal.returns-then-m-eq0
returns-then-m-eq0 c = without_text _ _ _ c.if-m-eq0.true _ _ _ _ c.put_body.ensures

pub put_mixed-requires : goal.put_mixed-requires
put_mixed-requires c = (c.requires.0, mixed_room _ _ _ c.if-m-eq0.false _ _ c.requires.1)

pub returns : goal.returns
returns c = with_text_lem _ _ _ c.if-m-eq0.false _ _ _ _ c.put_mixed.ensures
