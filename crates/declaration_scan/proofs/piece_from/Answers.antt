-- A word where a run of the bytes of words begins, else a sign.
-- Assumes nothing.
use Rattle.std.proofs.Common.{sym, ◌∙◌, ap}
use Rattle.name.specs.Word.{word_byte}
use Rattle.declaration_scan.proofs.Signs.{kind_word, kind_sign}
use Rattle.declaration_scan.proofs.Pieces.{end_word, word_here, no_word_here, piece_is}
use Rattle.declaration_scan.proofs.piece_from.Goals as goal

pub returns-then-from-end : goal.returns-then-from-end
returns-then-from-end c =
    let is = c.requires.1 in
    let ends = c.run_end-end.ensures in
    let w = word_here c.args.text.now _ _ is _ ends.0 c.if-from-end.true in
    (piece_is c.args.text.now _ _ _ _ _ is (kind_word _ w) (end_word c.args.text.now _ _ is _ w ends.0), ends.1)

pub sign_end-to-requires : goal.sign_end-to-requires
sign_end-to-requires c =
    let w = no_word_here c.args.text.now _ _ c.requires.1 _ c.run_end-end.ensures.0 c.if-from-end.false in
    (c.requires.0, sym (ap word_byte c.requires.1) ∙ w)

pub returns : goal.returns
returns c =
    let is = c.requires.1 in
    let w = no_word_here c.args.text.now _ _ is _ c.run_end-end.ensures.0 c.if-from-end.false in
    (piece_is c.args.text.now _ _ _ _ _ is (kind_sign _ _ w c.sign_kind-sign.ensures) c.sign_end-to.ensures.0, c.sign_end-to.ensures.1)
