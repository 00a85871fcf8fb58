-- The marked samples of paper 01, and samples with text: one equation over a whole list, proved by computing both
-- sides.
-- Assumes nothing.
use mathlib.Core.Path.{◌≡◌, refl}
use mathlib.Core.List.{map}
use Rattle.model.specs.Record.{factor_of, mode_of, empty_chain}
use Rattle.model.specs.Build.{entries_with, with_factor}
use Rattle.follow.specs.Follow.{some_word, begins_with, ends_with, has_pair, is_empty}
use Rattle.chain_levels.specs.Below.{any_below, count_below, first_below, largest_below}
use Rattle.chain_levels.specs.Reach.{edge, reach_by, reaches, same_group, loops, leads, occurs, is_single}
use Rattle.chain_levels.specs.Rank.{is_before, level_by, level_of, last_level, skipped}
use Rattle.chain_levels.specs.Chain.{single_at, leads_at, factors, factors_at, fixed, singles_mode, group_mode, with_any, with_each, with_both, with_level, chain_to, chain_of}
use Rattle.chain_mixed.specs.Mixed.{mixed_chain, model_of}
use Rattle.chain_sample.specs.Sample.{model_of_words}
use Rattle.declaration_spelling.specs.Token.{mark_byte}
use Rattle.declaration_spelling.specs.House.{members, factors_from, factors_of, name_at, names_at, named, opening, empty_word, pcdata_word, mark_text, bars_text, group_text, factor_text, others_text, body_text, mixed_text, content_text, house_text, declaration}
use Rattle.declaration_spelling.specs.Text.{bytes}
use Rattle.demands_samples.specs.Samples.{lines, text_lines, line_names, letter_number, line_words, line_model, line_declaration, printed_declaration}

-- Line by line, the declaration of the model that the rules give is the printed one.
pub marked : map line_declaration lines ≡ map printed_declaration lines
-- all definitions on the way are opened, so that both sides compute
unfolding
    -- the table
    bytes lines line_names letter_number line_words line_model line_declaration printed_declaration
    -- follow facts
    some_word begins_with ends_with has_pair is_empty
    -- loop groups
    any_below count_below first_below largest_below edge reach_by reaches same_group loops leads occurs is_single
    -- levels
    is_before level_by level_of last_level skipped
    -- the chain
    empty_chain entries_with with_factor single_at leads_at factors factors_at fixed singles_mode group_mode
    with_any with_each with_both with_level chain_to chain_of model_of model_of_words
    -- the declaration
    factor_of mode_of mark_byte members factors_from factors_of name_at names_at named opening empty_word
    mark_text bars_text group_text factor_text others_text body_text content_text house_text declaration
marked = refl

-- The same with text.
pub with_text_lem : map line_declaration text_lines ≡ map printed_declaration text_lines
unfolding
    bytes text_lines line_names letter_number line_words line_model line_declaration printed_declaration
    some_word begins_with has_pair any_below occurs
    empty_chain entries_with with_factor with_any mixed_chain model_of model_of_words
    factor_of mode_of members factors_from factors_of name_at names_at named opening pcdata_word
    bars_text mixed_text content_text house_text declaration
with_text_lem = refl
