-- A means: the form of a declaration as a walk along its tokens: a state, the kind of a token, the next state.
-- `walk_sound` in proofs/Sound.antt and `walk_complete` in proofs/Complete.antt join it to `IsContent`, `form_sound`
-- and `form_complete` in proofs/Formed.antt to `HasForm`.
-- Assumes nothing.
use Rattle.std.specs.Prelude.{ℕ, Bool, true, false, cond, not, ◌&&◌, ◌||◌, List, [], ◌∷◌, eqb, get_or}
use Rattle.std.proofs.Math.Option.{Option, none, some}
use Rattle.name.specs.Class.{between}
use Rattle.name.specs.Rule.{is_name}
use Rattle.declaration_spelling.specs.Token.{Token, word, lpar, rpar, comma, bar, end, mark, other}
use Rattle.declaration_spelling.specs.House.{opening, pcdata_word}
use Rattle.declaration_spelling.specs.Cut.{same, strip, SpacedToken, cut}
use Rattle.declaration_spelling.specs.Kind.{word_kind, empty_kind, pcdata_kind, lpar_kind, rpar_kind, comma_kind, bar_kind, end_kind, question_kind, plus_kind, star_kind, token_kind}

-- ---- the states

-- Where the walk is. A name behind the model's bracket may be the first factor, or the first name of a group that is
-- the whole model; what follows decides. `#PCDATA` stands nowhere but behind that bracket.
pub data State : Type 0 where
  -- before the parent, before the model
  before_parent before_model : State
  -- behind the model's bracket, behind a name there
  behind_bracket behind_first : State
  -- in a group that is the whole model: behind a bar, behind a later name; and behind this group
  whole_bar whole_name whole_group : State
  -- before a later factor
  before_factor : State
  -- in a factor's group: before a name, behind a name
  in_group group_name : State
  -- behind a factor's names, behind its mark
  behind_names behind_mark : State
  -- behind `#PCDATA`, behind `(#PCDATA)`
  behind_text text_alone : State
  -- behind `#PCDATA`: behind a bar, behind a name; and behind the bracket that closes these names
  text_bar text_name before_star : State
  -- before `>`, behind `>`
  before_end behind_end : State
  -- no text goes on from here
  nowhere : State

-- An arrow: the kind of a token, and the state behind it.
pub record Arrow : Type 0 where
  pub kind : ℕ
  pub to : State

abbrev pub by : ℕ → State → Arrow
by kind to = record { kind = kind; to = to }

-- By any word, `EMPTY` included and `#PCDATA` excluded; by any mark.
abbrev pub by_word : State → List Arrow
by_word to = by word_kind to ∷ by empty_kind to ∷ []

abbrev pub by_mark : State → List Arrow
by_mark to = by question_kind to ∷ by plus_kind to ∷ by star_kind to ∷ []

-- The arrows from each state; every other token leads nowhere.
unfoldable pub arrows : State → List Arrow
arrows before_parent = by_word before_model
arrows before_model = by empty_kind before_end ∷ by lpar_kind behind_bracket ∷ []
arrows behind_bracket = by lpar_kind in_group ∷ by pcdata_kind behind_text ∷ by_word behind_first
arrows behind_first = by rpar_kind whole_group ∷ by bar_kind whole_bar ∷ by comma_kind before_factor ∷ by_mark behind_mark
arrows whole_bar = by_word whole_name
arrows whole_name = by rpar_kind whole_group ∷ by bar_kind whole_bar ∷ []
arrows whole_group = by end_kind behind_end ∷ by_mark before_end
arrows before_factor = by lpar_kind in_group ∷ by_word behind_names
arrows in_group = by_word group_name
arrows group_name = by rpar_kind behind_names ∷ by bar_kind in_group ∷ []
arrows behind_names = by rpar_kind before_end ∷ by comma_kind before_factor ∷ by_mark behind_mark
arrows behind_mark = by rpar_kind before_end ∷ by comma_kind before_factor ∷ []
arrows behind_text = by rpar_kind text_alone ∷ by bar_kind text_bar ∷ []
arrows text_alone = by end_kind behind_end ∷ by star_kind before_end ∷ []
arrows text_bar = by_word text_name
arrows text_name = by rpar_kind before_star ∷ by bar_kind text_bar ∷ []
arrows before_star = by star_kind before_end ∷ []
arrows before_end = by end_kind behind_end ∷ []
arrows behind_end = []
arrows nowhere = []

-- The state behind a token of this kind.
unfoldable pub along : List Arrow → ℕ → State
along [] kind = nowhere
along (a ∷ as') kind = cond (eqb kind a.kind) a.to (along as' kind)

unfoldable pub step : State → ℕ → State
step state kind = along (arrows state) kind

-- The number of each state, as in the code (crates/declaration_states/src/lib.rt).
unfoldable pub number_of : State → ℕ
number_of before_parent = 0
number_of before_model = 1
number_of behind_bracket = 2
number_of behind_first = 3
number_of whole_bar = 4
number_of whole_name = 5
number_of whole_group = 6
number_of before_factor = 7
number_of in_group = 8
number_of group_name = 9
number_of behind_names = 10
number_of behind_mark = 11
number_of behind_text = 12
number_of text_alone = 13
number_of text_bar = 14
number_of text_name = 15
number_of before_star = 16
number_of before_end = 17
number_of behind_end = 18
number_of nowhere = 19

-- The greatest number of a state, that of `nowhere`.
abbrev pub last_state : ℕ
last_state = 19

-- The states by their numbers.
unfoldable pub states : List State
states =
    before_parent ∷ before_model ∷ behind_bracket ∷ behind_first ∷ whole_bar ∷ whole_name ∷ whole_group ∷ before_factor ∷ in_group ∷ group_name
    ∷ behind_names ∷ behind_mark ∷ behind_text ∷ text_alone ∷ text_bar ∷ text_name ∷ before_star ∷ before_end ∷ behind_end ∷ nowhere ∷ []

unfoldable pub state_of : ℕ → State
state_of number = get_or states number nowhere

-- The walk ends behind `>`.
unfoldable pub walk : State → List Token → Bool
walk state [] = eqb (number_of state) (number_of behind_end)
walk state (t ∷ ts) = walk (step state (token_kind t)) ts

-- ---- white space and names

-- The token is a word.
unfoldable pub is_word : Token → Bool
is_word (word x) = true
is_word lpar = false
is_word rpar = false
is_word comma = false
is_word bar = false
is_word end = false
is_word (mark m) = false
is_word (other b) = false

-- White space before a token of this kind, behind a word or not: a word or `(` behind a word needs it, a mark has none.
unfoldable pub kind_fits : Bool → Bool → ℕ → Bool
unfolding between
kind_fits behindWord gap kind = cond (between word_kind lpar_kind kind) (cond behindWord gap true) (cond (between question_kind star_kind kind) (not gap) true)

-- The token is no word, or a word that passes the test.
unfoldable pub passes : (List ℕ → Bool) → Token → Bool
passes test (word x) = test x
passes test lpar = true
passes test rpar = true
passes test comma = true
passes test bar = true
passes test end = true
passes test (mark m) = true
passes test (other b) = true

-- Every word passes the test.
unfoldable pub all_pass : (List ℕ → Bool) → List Token → Bool
all_pass test [] = true
all_pass test (t ∷ ts) = passes test t && all_pass test ts

-- `#PCDATA`, or a name.
unfoldable pub may_stand : List ℕ → Bool
may_stand x = same x pcdata_word || is_name x

-- ---- the whole

-- One walk for white space, names and form, from a state on. A word keeps the rule for names, as `EMPTY` does, or is
-- `#PCDATA`; the arrows say where that may stand.
unfoldable pub accepts : State → Bool → Bool → List SpacedToken → Bool
accepts state behindWord gap [] = not gap && walk state []
accepts state behindWord gap (p ∷ ps) =
    kind_fits behindWord gap (token_kind p.token)
    && (passes may_stand p.token && accepts (step state (token_kind p.token)) (is_word p.token) p.gap ps)

-- The text behind `<!ELEMENT`.
unfoldable pub accepts_rest : Option (List ℕ) → Bool
accepts_rest none = false
accepts_rest (some text) = accepts before_parent true (cut text).gap (cut text).pieces

-- The text has the form of a declaration.
unfoldable pub has_form : List ℕ → Bool
has_form text = accepts_rest (strip opening text)
