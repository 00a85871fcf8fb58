-- To be believed: which texts have the form of a declaration, the condition of refusal 13, and the names that 14 and 15
-- speak of. Stated without the function that reads; `form_sound` and `form_complete` in
-- crates/declaration_walk/proofs/Formed.antt say that the two agree.
-- Assumes nothing.
use Rattle.std.specs.Prelude.{ℕ, ◌≡◌, true, ◌⊎◌}
use mathlib.Core.List.{List, [], ◌∷◌, ◌++◌, Memᴰ}
use Rattle.name.specs.Rule.{is_name}
use Rattle.declaration_spelling.specs.House.{Factor}
use Rattle.declaration_spelling.specs.Spelled.{SpelledBy}

-- A declaration by the bytes of its names and the text byte of its model.
pub record Form : Type 0 where
  pub parent : List ℕ
  pub mixed : ℕ
  pub factors : List (Factor (List ℕ))

-- The names of a model, in their order.
unfoldable pub model_names : List (Factor (List ℕ)) → List (List ℕ)
model_names [] = []
model_names (f ∷ fs) = f.names ++ model_names fs

-- Its names, "the parent's included".
unfoldable pub form_names : Form → List (List ℕ)
form_names d = d.parent ∷ model_names d.factors

-- Some name of the list comes again behind it.
abbrev pub Twice : List (List ℕ) → Type 0
Twice [] = ⊥
Twice (x ∷ xs) = Memᴰ x xs ⊎ Twice xs

-- The text is spelled with the names of d, each by the rule for names.
pub record HasForm (text : List ℕ) (d : Form) : Type 0 where
  pub good : (x : List ℕ) → Memᴰ x (form_names d) → is_name x ≡ true
  pub spelled : SpelledBy d.parent d.mixed d.factors text
