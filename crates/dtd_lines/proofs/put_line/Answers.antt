-- Nothing, or the declaration and the line feed.
-- Assumes nothing.
use Rattle.std.proofs.Common.{◌≡◌, sym, ◌∙◌, ap, not, true}
use Rattle.std.proofs.lemmas.Bool.{not-true, not-false}
use Rattle.nameset.specs.Places.{places}
use Rattle.book.proofs.Laws.{few_names}
use Rattle.chain_sample.specs.Sample.{show_word}
use Rattle.dtd_lines.specs.Lines.{row_facts}
use Rattle.dtd_lines.proofs.Line.{nothing_put, model, text_room, feed_room, line_put}
use Rattle.dtd_lines.proofs.put_line.Goals as goal

pub returns-then-not-shows_word : goal.returns-then-not-shows_word
unfolding row_facts
returns-then-not-shows_word c =
    let p = c.requires in
    nothing_put _ _ p.0 _ p.1 _ p.2 (sym (c.shows_word.ensures _) ∙ not-true _ (ap not c.if-not-shows_word.true)) _ _

pub row_model-model-requires : goal.row_model-model-requires
row_model-model-requires c = (few_names _ _ c.requires.0, c.requires.2)

pub put_declaration-end-requires : goal.put_declaration-end-requires
unfolding row_facts
put_declaration-end-requires c =
    let p = c.requires in
    let some : show_word places (row_facts c.args.layout.names c.args.row.now).follow ≡ true = sym (c.shows_word.ensures _) ∙ not-false _ (ap not c.if-not-shows_word.false) in (
      p.0,
      p.1,
      model _ _ p.0 _ p.1 _ p.2 some _ c.row_model-model.ensures,
      text_room _ _ p.0 _ p.1 _ p.2 some _ c.row_model-model.ensures c.args.out.now _ p.3,
    )

pub put_some-requires : goal.put_some-requires
unfolding row_facts
put_some-requires c =
    let p = c.requires in
    let some : show_word places (row_facts c.args.layout.names c.args.row.now).follow ≡ true = sym (c.shows_word.ensures _) ∙ not-false _ (ap not c.if-not-shows_word.false) in
    feed_room _ _ p.0 _ p.1 _ p.2 some _ c.row_model-model.ensures _ _ p.3 _ _ c.put_declaration-end.ensures

pub returns : goal.returns
unfolding row_facts
returns c =
    let p = c.requires in
    let some : show_word places (row_facts c.args.layout.names c.args.row.now).follow ≡ true = sym (c.shows_word.ensures _) ∙ not-false _ (ap not c.if-not-shows_word.false) in
    line_put _ _ p.0 _ p.1 _ p.2 some _ c.row_model-model.ensures _ _ p.3 _ _ c.put_declaration-end.ensures _ _ c.put_some.ensures
