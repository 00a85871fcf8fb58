-- The model of words over n names is a model over them, with text and without.
-- Assumes nothing.
use Prim.Native.Nat.{ℕ, ◌≤◌}
use mathlib.Core.Path.{◌≡◌, refl}
use mathlib.Core.Bool.{Bool, true, false}
use mathlib.Core.List.{List, [], Memᴰ}
use mathlib.Core.Logic.{inl}
use native.Mathlib.Omega.{arith}
use Rattle.nameset.specs.Places.{places}
use Rattle.model.specs.Record.{no_factor, IsModel}
use Rattle.model.specs.Accept.{Names}
use Rattle.chain_minimal.proofs.Demand as Demand
use Rattle.chain_mixed.specs.Mixed.{model_of}
use Rattle.chain_mixed.proofs.Theorem.{text_model}
use Rattle.chain_sample.specs.Sample.{model_of_words}

pub words_model : (n : ℕ) → n ≤ places → (words : List (List ℕ)) → ((w : List ℕ) → Memᴰ w words → Names n w) → ¬ (words ≡ []) →
    (text : Bool) → IsModel places n (model_of_words places n words text)
unfolding model_of_words model_of
words_model n few words names some true = (text_model places n few words names).model
words_model n few words names some false =
    let small : places ≤ no_factor = omega arith in
    record { chain = Demand.is_chain_lem places n few small words names some; text = inl refl }
