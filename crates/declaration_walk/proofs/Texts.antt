-- Texts that are read or refused: one equation over the whole list, proved by computing both sides.
-- Assumes nothing.
use mathlib.Core.Path.{◌≡◌, refl}
use mathlib.Core.List.{map}
use Rattle.name.specs.Class.{start_byte, later_byte, between}
use Rattle.name.specs.Rule.{is_name, good_length, good_bytes, all_later}
use Rattle.name.specs.Word.{word_byte}
use Rattle.name_order.specs.Order.{order_of}
use Rattle.book.specs.Access.{number_from, number_in}
use Rattle.model.specs.Record.{empty_chain}
use Rattle.declaration_spelling.specs.Text.{bytes}
use Rattle.declaration_spelling.specs.Token.{is_space}
use Rattle.declaration_spelling.specs.House.{opening, empty_word, pcdata_word}
use Rattle.declaration_spelling.specs.Cut.{same, strip, sign, at_front, space_before, longer, letter_before, byte_before, cut, tokens}
use Rattle.declaration_spelling.specs.Kind.{mark_kind, token_kind}
use Rattle.declaration_spelling.specs.Read.{known, number_for}
use Rattle.declaration_walk.specs.Texts.{Line, line_names, lines}
use Rattle.declaration_walk.specs.Walk.{arrows, along, step, number_of, walk, is_word, kind_fits, passes, all_pass, may_stand, accepts, accepts_rest, has_form}
use Rattle.declaration_walk.specs.Gather.{start_rows, is_free, with_name, next_factor, with_mode, take_token, and_then, gather_from, model_of, factors_answer, begins_with_word, begins_with, mixed_answer, content_answer, tokens_answer, text_answer}

-- Line by line, the answer to the text is the one that the list has.
pub answered : map (λ (l : Line). text_answer 5 (line_names l) (bytes l.text)) lines ≡ map (λ (l : Line). l.answer) lines
-- all definitions on the way are opened, so that both sides compute
unfolding
    -- the list
    bytes line_names lines
    -- names
    start_byte later_byte between is_name good_length good_bytes all_later word_byte order_of number_from number_in known number_for
    -- the text in tokens
    is_space opening empty_word pcdata_word same strip sign at_front space_before longer letter_before byte_before cut tokens
    -- the walk
    mark_kind token_kind arrows along step number_of walk is_word kind_fits passes all_pass may_stand accepts accepts_rest has_form
    -- the record filled
    empty_chain start_rows is_free with_name next_factor with_mode take_token and_then gather_from model_of
    -- the answer
    factors_answer begins_with_word begins_with mixed_answer content_answer tokens_answer text_answer
answered = refl
