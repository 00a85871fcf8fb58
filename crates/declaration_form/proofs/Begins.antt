-- Whether a text begins with given bytes, byte by byte.
-- Assumes nothing.
use Prim.Native.Nat.{ℕ, ◌≤◌}
use mathlib.Core.Path.{◌≡◌, refl, ap}
use mathlib.Core.Bool.{Bool, true, false, cond, ◌&&◌, false≢true}
use mathlib.Core.List.{List, [], ◌∷◌}
use mathlib.Core.Option.{none, some}
use native.Mathlib.Omega.{arith}
use lib.Dec.{eqb}
use lib.Pointwise.{pointwise}
use Rattle.std.specs.List.{starts_with}
use lib.ListN.{length, drop}
use Rattle.declaration_spelling.specs.Token.{word}
use Rattle.declaration_spelling.specs.House.{empty_word, pcdata_word}
use Rattle.declaration_spelling.specs.Cut.{same, strip}
use Rattle.declaration_spelling.specs.Kind.{word_kind, empty_kind, pcdata_kind, token_kind}
use Rattle.declaration_spelling.proofs.Tests.{and_is}
use Rattle.declaration_form.specs.Step.{begins}

-- what is left behind a fixed beginning
pub strip_begins : (v t : List ℕ) → strip v t ≡ cond (begins v t) (some (drop (length v) t)) none
unfolding strip begins
strip_begins [] t = refl
strip_begins (a ∷ v) [] = refl
strip_begins (a ∷ v) (b ∷ t) = go (eqb a b) (strip_begins v t)
  where
    go : (c : Bool) → strip v t ≡ cond (begins v t) (some (drop (length v) t)) none → cond c (strip v t) none ≡ cond (c && begins v t) (some (drop (length v) t)) none
    go true ih = ih
    go false ih = refl

pub begins_fits : (v t : List ℕ) → begins v t ≡ true → length v ≤ length t
unfolding begins
begins_fits [] t e = omega arith
begins_fits (a ∷ v) [] e = absurd (false≢true e)
begins_fits (a ∷ v) (b ∷ t) e = let h = begins_fits v t ((and_is (eqb a b) (begins v t)).0 e).1 in omega arith

-- both tests as the library has them
pub begins_is : (t v : List ℕ) → starts_with eqb t v ≡ begins v t
unfolding begins
begins_is t [] = refl
begins_is [] (a ∷ v) = refl
begins_is (b ∷ t) (a ∷ v) = ap (λ (c : Bool). eqb a b && c) (begins_is t v)

pub same_pointwise : (v w : List ℕ) → pointwise eqb v w ≡ same v w
unfolding same
same_pointwise [] [] = refl
same_pointwise [] (b ∷ w) = refl
same_pointwise (a ∷ v) [] = refl
same_pointwise (a ∷ v) (b ∷ w) = ap (λ (c : Bool). eqb a b && c) (same_pointwise v w)

-- the kind of a word, by what it is
module _ (w : List ℕ) (a : Bool) (p : a ≡ same w empty_word) where
  pub kind_empty : a ≡ true → empty_kind ≡ token_kind (word w)
  unfolding token_kind
  kind_empty e = rw (← p, e)

  module _ (n : a ≡ false) (b : Bool) (q : b ≡ same w pcdata_word) where
    pub kind_text : b ≡ true → pcdata_kind ≡ token_kind (word w)
    unfolding token_kind
    kind_text e = rw (← p, n, ← q, e)

    pub kind_word : b ≡ false → word_kind ≡ token_kind (word w)
    unfolding token_kind
    kind_word e = rw (← p, n, ← q, e)
