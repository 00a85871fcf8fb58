-- What was passed is known, so the words from the cursor on decide.
-- Assumes nothing.
use Rattle.std.proofs.Common.{◌∙◌, sym, ap, ℕ, refl, length, arith}
use Rattle.book.specs.Book.{names_in}
use Rattle.declaration_cursor.proofs.Tokens.{begun, given_in, same_text}
use Rattle.declaration_walk.specs.Gather.{known_tokens}
use Rattle.declaration_rows.specs.Place.{tokens_at}
use Rattle.declaration_rows.proofs.Steps.{in_order, unknown_kind, known_kind_lem, known_stop, known_on, known_over}
use Rattle.declaration_rows.proofs.lookup.all_known.Goals as goal

pub loop-piece-init : goal.loop-piece-init
loop-piece-init c =
    let b = begun _ _ _ _ c.into_iter-piece-iterator.ensures.into_iter_gives c.cursor_at-piece-items.ensures in
    record { text = b.0; same = ap (λ (k : ℕ). known_tokens (names_in c.args.bytes.now) (tokens_at c.args.text.now k)) (sym b.1) }

pub number_at-requires : goal.number_at-requires
number_at-requires c =
    let i = c.loop-piece.invariant in
    let g = given_in _ _ _ _ _ i.text c.in-Some.ensures.steps.0 in
    (c.requires.0, in_order _ _ _ g.is, g.within)

pub returns-then-number_at-eq-PLACES : goal.returns-then-number_at-eq-PLACES
returns-then-number_at-eq-PLACES c =
    let i = c.loop-piece.invariant in
    let g = given_in _ _ _ _ _ i.text c.in-Some.ensures.steps.0 in
    let unknown = unknown_kind _ _ c.requires.0 _ _ _ c.number_at.ensures.0 c.if-number_at-eq-PLACES.true in
    known_stop _ _ _ g.is _ _ unknown refl ∙ sym i.same

pub loop-piece-preserved : goal.loop-piece-preserved
loop-piece-preserved c =
    let i = c.loop-piece.invariant in
    let g = given_in _ _ _ _ _ i.text c.in-Some.ensures.steps.0 in
    let known = known_kind_lem _ _ c.requires.0 _ _ _ c.number_at.ensures.0 c.if-number_at-eq-PLACES.false in
    let names = names_in c.args.bytes.now in
    record {
      text = same_text _ _ _ c.in-Some.ensures.steps.1 i.text;
      same = i.same ∙ known_on _ _ _ g.is _ _ known refl ∙ ap (λ (k : ℕ). known_tokens names (tokens_at c.args.text.now k)) (sym g.next);
    }

pub returns : goal.returns
returns c =
    let i = c.loop-piece.invariant in
    known_over _ _ _ (omega (arith, ap length i.text, c.in-None.ensures.steps.0)) ∙ sym i.same
