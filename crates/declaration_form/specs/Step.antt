-- A means: the walk of crate `declaration_walk` by places of the text: what a token is, by its kind and its bytes, and
-- the state behind it; `form_is` in proofs/Places.antt joins it to the walk.
-- Assumes nothing.
use Rattle.std.specs.Prelude.{ℕ, ◌≤◌, ◌<◌, ◌≡◌, Bool, true, false, cond, ◌&&◌, List, [], ◌∷◌, eqb, length, take, drop}
use Rattle.declaration_spelling.specs.Token.{Token}
use Rattle.declaration_spelling.specs.Cut.{cut}
use Rattle.declaration_spelling.specs.Kind.{token_kind}
use Rattle.declaration_walk.specs.Walk.{State, nowhere, step, kind_fits, passes, may_stand, accepts}
use Rattle.declaration_bytes.specs.Unread.{next_of}
use Rattle.declaration_scan.specs.declared.Piece.{Piece}
use Rattle.declaration_scan.specs.Kind.{kind_of}
use Rattle.declaration_scan.specs.Piece.{token_length, word_end, token_of}

-- The text begins with these bytes.
unfoldable pub begins : List ℕ → List ℕ → Bool
begins [] text = true
begins (a ∷ as') [] = false
begins (a ∷ as') (b ∷ bs) = eqb a b && begins as' bs

-- The token that begins at a place.
unfoldable pub token_at : List ℕ → ℕ → Token
token_at text from = token_of (take (token_length (drop from text)) (drop from text))

-- The state behind a token: nowhere if its white space does not fit or a word is neither `#PCDATA` nor a name.
unfoldable pub advance : State → Bool → Bool → Token → State
advance state behindWord gap t = cond (kind_fits behindWord gap (token_kind t) && passes may_stand t) (step state (token_kind t)) nowhere

-- A piece of the text: its kind and its end are those of the token where it begins.
abbrev pub Stands : List ℕ → Piece → Type 0
Stands text p = (p.kind ≡ kind_of (next_of (drop p.from text))) × (p.to ≡ word_end text p.from) × (p.to ≤ length text) × (p.from < length text)

-- The walk from a place on ends well.
unfoldable pub accepts_from : List ℕ → State → Bool → ℕ → Bool
accepts_from text state behindWord at = accepts state behindWord (cut (drop at text)).gap (cut (drop at text)).pieces
