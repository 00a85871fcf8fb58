-- To be believed: the model record of paper 01, when it is a chain over n names, and when a chain may have text (paper
-- 02, U5). The record has `size` places for names and as many for modes: 64 in paper 01.
-- Assumes nothing.
use Rattle.std.specs.Prelude.{ℕ, ◌≤◌, ◌<◌, ◌≡◌, ◌⊎◌, length, get_or, replicate}
use Rattle.nameset.specs.Places.{places}
use Rattle.model.specs.declared.Chain.{Chain}
use Rattle.model.specs.declared.Model.{Model}

-- The entry of a name that no factor holds.
abbrev pub no_factor : ℕ
no_factor = 255

-- The factor that holds the name x.
unfoldable pub factor_of : Chain → ℕ → ℕ
factor_of m x = get_or m.factor x no_factor

-- The mode of factor i: 0 plain, 1 `?`, 2 `+`, 3 `*`.
unfoldable pub mode_of : Chain → ℕ → ℕ
mode_of m i = get_or m.mode i 0

-- "It is a chain over N names if:"
pub record IsChain (size n : ℕ) (m : Chain) : Type 0 where
  -- a record with `size` places and `size` modes
  pub factors : length m.factor ≡ size
  pub modes : length m.mode ≡ size
  -- "F is at most 64;"
  pub few : m.count ≤ size
  -- "each number below N has 255 or a value below F,"
  pub placed : (x : ℕ) → x < n → (factor_of m x ≡ no_factor) ⊎ (factor_of m x < m.count)
  -- "all others have 255;"
  pub others : (x : ℕ) → n ≤ x → factor_of m x ≡ no_factor
  -- "each factor has a name;"
  pub named : (i : ℕ) → i < m.count → (x : ℕ) × (x < n) × (factor_of m x ≡ i)
  -- "modes below F are 0 to 3,"
  pub known : (i : ℕ) → i < m.count → mode_of m i ≤ 3
  -- "the rest are 0."
  pub rest : (i : ℕ) → m.count ≤ i → mode_of m i ≡ 0

-- A chain and its text byte: 0 for none, 1 where text is allowed.
abbrev pub model_with : Chain → ℕ → Model
model_with c t = record { chain = c; text = t }

-- "`(#PCDATA)` accepts only the empty word (F = 0), and the mixed form is one starred factor (F = 1, mode 3)."
abbrev pub MayHaveText : Chain → Type 0
MayHaveText c = (c.count ≡ 0) ⊎ ((c.count ≡ 1) × (mode_of c 0 ≡ 3))

-- A model over n names: a chain without text, or one that may have text and has it. "A text record of any other shape
-- is 10."
pub record IsModel (size n : ℕ) (m : Model) : Type 0 where
  pub chain : IsChain size n m.chain
  pub text : (m.text ≡ 0) ⊎ ((m.text ≡ 1) × MayHaveText m.chain)

-- The chain of words that are all empty: "F = 0, all 255, all modes 0".
unfoldable pub empty_chain : ℕ → Chain
empty_chain size = record { count = 0; factor = replicate size no_factor; mode = replicate size 0 }

-- The model of a parent whose words are all empty and that has no text: "the empty model has no text".
unfoldable pub empty_model : ℕ → Model
empty_model size = model_with (empty_chain size) 0

-- What a refused call answers for a model: "a model due is the empty model".
abbrev pub due_model : Model
due_model = empty_model places
