-- A means: executable follow facts; `follow_law` in crates/chain_levels/proofs/Theorem.antt joins them to `Fact`. To be
-- believed, for request U2 of paper 02, are `Follow` and `steps`.
-- Assumes nothing.
-- Paper 01, "Follow facts": what the words of one parent's sample show, and nothing else.
use Rattle.std.specs.Prelude.{ℕ, ◌<◌, ◌≡◌, Bool, true, false, ◌&&◌, ◌||◌, List, [], ◌∷◌, eqb}
use Rattle.model_language.specs.Word.{Point, start, name, end}

-- The follow facts of a parent over n names, each a yes or no.
pub record Follow : Type 0 where
  pub names : ℕ
  -- a may start
  pub starts : ℕ → Bool
  -- a may end
  pub ends : ℕ → Bool
  -- b follows a
  pub follows : ℕ → ℕ → Bool
  -- start goes to end
  pub empty : Bool

-- some word passes the test
unfoldable pub some_word : (List ℕ → Bool) → List (List ℕ) → Bool
some_word test [] = false
some_word test (w ∷ ws) = test w || some_word test ws

-- the word begins with a
unfoldable pub begins_with : ℕ → List ℕ → Bool
begins_with a [] = false
begins_with a (x ∷ w) = eqb a x

-- the word ends with a
unfoldable pub ends_with : ℕ → List ℕ → Bool
ends_with a [] = false
ends_with a (x ∷ []) = eqb a x
ends_with a (x ∷ (y ∷ w)) = ends_with a (y ∷ w)

-- a and b stand side by side in the word, a first
unfoldable pub has_pair : ℕ → ℕ → List ℕ → Bool
has_pair a b [] = false
has_pair a b (x ∷ []) = false
has_pair a b (x ∷ (y ∷ w)) = (eqb a x && eqb b y) || has_pair a b (y ∷ w)

-- the word is empty
unfoldable pub is_empty : List ℕ → Bool
is_empty [] = true
is_empty (x ∷ w) = false

-- The facts of a sample.
abbrev pub follow_of : ℕ → List (List ℕ) → Follow
follow_of n words =
    record {
      names = n;
      starts = λ a. some_word (begins_with a) words;
      ends = λ a. some_word (ends_with a) words;
      follows = λ a b. some_word (has_pair a b) words;
      empty = some_word is_empty words;
    }

-- The same facts as steps between points.
abbrev pub steps : Follow → Point → Point → Type 0
steps f start start = ⊥
steps f start (name y) = (y < f.names) × (f.starts y ≡ true)
steps f start end = f.empty ≡ true
steps f (name x) start = ⊥
steps f (name x) (name y) = (x < f.names) × (y < f.names) × (f.follows x y ≡ true)
steps f (name x) end = (x < f.names) × (f.ends x ≡ true)
steps f end v = ⊥
